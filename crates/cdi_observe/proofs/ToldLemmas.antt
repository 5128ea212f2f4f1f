-- No question that a declaration asks is refused.
use Rattle.cdi_observe.proofs.Common.{◌≡◌, Bool, true, cond, List, [], ◌∷◌, ◌++◌, map, Some, Ok, Err, refl, ap, AllByRecursion, flat_map}
use Rattle.cdi_observe.proofs.Common.{false≢true, BeanDecl, Decl, BeanPlace, Refusal, find_bean, has_place, places_of, Key, All, ChainKey}
use Rattle.cdi_observe.proofs.Common.{asked_by, chains_by, events_by, wanted_by, asked_key, is_told, AskedKey, Mention, EventOf, mentions}
use Rattle.cdi_observe.proofs.Common.{PointDecl, as_bean, event_in, key_of_point, points_of, arith}
use Rattle.std.proofs.Common.{is_ok}
use Rattle.base_lists.proofs.Each.{all-append}
use Rattle.cdi_model.specs.declared.decl.Decl.TheVariants as decls
use Rattle.cdi_observe.proofs.BeanPlaceLemmas.{has-each_place}
use Rattle.cdi_observe.proofs.FoundLemmas.{all-lent, IsFound}

ok-where : {X : Type 0} (has : Bool) (x : X) (refusal : Refusal) → has ≡ true → is_ok (cond has (Ok x) (Err refusal)) ≡ true
ok-where has x refusal e = grind (arith, false≢true)

module _ (ds : List Decl) where
  abbrev IsTold : Key → Type 0
  IsTold key = is_told ds key ≡ true

  chains-told : (b : BeanDecl) → find_bean b.name ds ≡ Some b → (ps : List BeanPlace)
      → AllByRecursion (λ place. has_place b place ≡ true) ps
      → AllByRecursion IsTold (map (ChainKey b.name) ps)
  chains-told b found [] all = tt
  chains-told b found (p ∷ ps) all = grind (arith, chains-told b found ps all.1, all.0, all.1, ok-where)

  events-told : (named : List Mention) → AllByRecursion IsTold (flat_map event_in named)
  events-told [] = tt
  events-told (EventOf event ∷ named) = (refl, events-told named)
  events-told (other ∷ named) = events-told named

  points-told : (points : List PointDecl) → AllByRecursion IsTold (map key_of_point points)
  points-told [] = tt
  points-told (point ∷ points) = (refl, points-told points)

  chains-of-told : (d : Decl) → IsFound ds d → AllByRecursion IsTold (chains_by d)
  chains-of-told (decls.Bean b) found = chains-told b (ap as_bean found) (places_of b) (has-each_place b)
  chains-of-told other found = tt

  decl-told : (d : Decl) → IsFound ds d → AllByRecursion IsTold (wanted_by d)
  decl-told d found = all-append IsTold (asked_by d ++ chains_by d) (events_by d)
      (all-append IsTold (asked_by d) (chains_by d) (points-told (points_of d)) (chains-of-told d found)) (events-told (mentions d))

  decls-told : (es : List Decl) → AllByRecursion (IsFound ds) es → AllByRecursion IsTold (flat_map wanted_by es)
  decls-told [] found = tt
  decls-told (e ∷ es) found = all-append IsTold (wanted_by e) (flat_map wanted_by es) (decl-told e found.0) (decls-told es found.1)

  pub told-of : (es : List Decl) (keys : List AskedKey) → AllByRecursion (IsFound ds) es → map asked_key keys ≡ flat_map wanted_by es
      → All (λ key. IsTold (asked_key key)) keys
  told-of es keys found are = all-lent IsTold asked_key keys (flat_map wanted_by es) are (decls-told es found)
