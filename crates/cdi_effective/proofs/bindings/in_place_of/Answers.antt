use Rattle.cdi_effective.proofs.Common.{◌≡◌, length, sym, ap, ◌∙◌, uses_in, in_place_of, arith}
use Rattle.std.proofs.lemmas.List.{nil_from_length}
use Rattle.cdi_effective.proofs.BindingLemmas.{none_replaced}
use Rattle.cdi_effective.proofs.bindings.in_place_of.Goals as goal

pub returns-then-is_empty-2 : goal.returns-then-is_empty-2
returns-then-is_empty-2 c =
    let others = uses_in c.args.others.items in
    let none : length c.args.own.items ≡ 0 = grind arith in
    none_replaced others ∙ ap (λ us. in_place_of others (uses_in us)) (sym (nil_from_length c.args.own.items none))
