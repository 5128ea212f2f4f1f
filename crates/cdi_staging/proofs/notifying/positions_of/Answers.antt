use Rattle.cdi_staging.proofs.Common.{◌≡◌, ℕ, suc, Bool, true, false, List, [], ◌∷◌, ◌++◌, map, refl, sym, ap, subst, ◌∙◌, arith, Decl, ◌+◌}
use Rattle.cdi_staging.proofs.Common.{length, bytes_eq, find_bean, Effective, position_of_class, ◌<◌, not, get_or, append_assoc, one_text}
use Rattle.cdi_staging.proofs.Common.{notified_as, observer_declared, drop, IsHost}
use Rattle.std.proofs.Common.{drop-cons}
use Rattle.cdi_observe.specs.declared.observers.ObserverId.{ObserverId}
use Rattle.cdi_staging.proofs.notifying.positions_of.Goals.{then-ne, else-ne}
use Rattle.cdi_staging.specs.{declared.notifying.Host.Host, Notifying.notified_in}
use Rattle.cdi_staging.proofs.notifying.positions_of.Goals as goal

-- an observer method by the bean declaration of its class
named : (ds : List Decl) (list : List Effective) (host : Host) (id : ObserverId) → IsHost ds list host → host.class ≡ id.class
    → notified_in host id.observer ≡ notified_as ds list id
named ds list host id is same = λ i. record {
  bean = (is.bean ∙ ap (position_of_class list) same) i;
  observer = (is.observers id.observer ∙ ap (λ c. observer_declared (find_bean c ds) id.observer) same) i;
}

-- the one of the class
abbrev IsOf : List Decl → List Effective → ObserverId → Host → Type 0
IsOf ds list id host = IsHost ds list host × (host.class ≡ id.class)

not-false : (b : Bool) → false ≡ not b → b ≡ true
not-false true e = refl
not-false false e = absurd (let no : false ≡ true = e in cc)

-- one more of a list
pushed : {A B : Type 0} (f : A → B) (old new : List B) (xs : List A) (i : ℕ) (x : A) (y : B) → i < length xs → x ≡ get_or xs i x
    → y ≡ f x → new ≡ old ++ y ∷ [] → old ++ map f (drop i xs) ≡ map f xs → new ++ map f (drop (i + 1) xs) ≡ map f xs
pushed f old new xs i x y within at is more found =
    let next : i + 1 ≡ suc i = omega arith in
    ap (λ l. l ++ map f (drop (i + 1) xs)) more
    ∙ append_assoc old (y ∷ []) (map f (drop (i + 1) xs))
    ∙ ap (λ z. old ++ z ∷ map f (drop (i + 1) xs)) (is ∙ ap f at)
    ∙ ap (λ k. old ++ f (get_or xs i x) ∷ map f (drop k xs)) next
    ∙ ap (λ l. old ++ map f l) (sym (drop-cons xs i x within))
    ∙ found

pub loop-id-preserved : goal.loop-id-preserved
loop-id-preserved c =
    let ds = c.args.decls.now in
    let beans = c.args.beans.now in
    let id = c.id-item.result in
    let one : IsOf ds beans id c.if-ne.host = elim c.if-ne.branch [
      | then-ne w ↦ subst (IsOf ds beans id) (sym w.host-is) (w.of-host-then-ne.ensures.host, w.of-host-then-ne.ensures.class)
      | else-ne w ↦ subst (IsOf ds beans id) (sym w.host-is) (
        c.loop-id.invariant.host,
        one_text c.loop-id.host.class id.class (not-false (bytes_eq c.loop-id.host.class id.class) w.if-ne.ensures),
      )
    ] in
    record {
      found = pushed (notified_as ds beans) c.loop-id.list c.push.new.self c.args.ids.now c.loop-id.id-index id c.in_ok-notified.field-0
          c.loop-id-test.true c.id-item.is (c.in_ok-notified.ensures ∙ named ds beans c.if-ne.host id one.0 one.1) c.in_ok-push.ensures.ok
          c.loop-id.invariant.found;
      host = one.0;
    }
