use Rattle.std.proofs.Common.{◌≡◌, ◌≤◌, ◌++◌, List, length, [], map, drop, ap, sym, subst, ◌∙◌, append_assoc, arith, rules}
use Rattle.std.proofs.Math.ListN.{drop_of_length-le}
use Rattle.cdi_model.specs.declared.place.BeanPlace.TheVariants as places
use Rattle.cdi_intercept.specs.Sets.{observers_of, places_of, producers_of}
use Rattle.cdi_intercept.proofs.set.places_of.Goals as goal

-- some are behind those that were there, and others behind them
two-behind : {A : Type 0} (before after all none some others : List A) → none ≡ [] → before ++ (none ++ some ++ others) ≡ all
    → after ≡ before ++ some → after ++ others ≡ all
two-behind before after all none some others gone is then =
    ap (λ l. l ++ others) then ∙ append_assoc before some others
    ∙ ap (λ l. before ++ (l ++ some ++ others)) (sym gone) ∙ is

pub loop-observer-init : goal.loop-observer-init
loop-observer-init c =
    let bean = c.args.bean.now in
    let end : length c.as_slice-method-items.result.now ≤ c.loop-method.method-index = omega (arith, c.loop-method-test.false) in
    subst (λ items. c.push_producers.new.list.items ++ map (λ o. places.Observer o.name) items ≡ places_of bean)
    (sym c.as_slice-observer-items.ensures)
    (two-behind c.loop-method.list.items _ _
    (map (λ m. places.Method m.name) (drop c.loop-method.method-index c.as_slice-method-items.result.now)) (producers_of bean)
    (observers_of bean)
    (ap (map (λ m. places.Method m.name)) (drop_of_length-le c.as_slice-method-items.result.now end)) c.loop-method.invariant
    (search rules))
