-- What the index lists is enough to choose from.
use Rattle.std.proofs.Common.{◌≡◌, ℕ, Bool, true, false, cond, not, ◌&&◌, List, [], ◌∷◌, ◌++◌, map, flat_map, filter, Option, Some, None}
use Rattle.std.proofs.Common.{is_some, refl, sym, ap, ◌∙◌}
use Rattle.std.specs.List.{list_any, slice_get}
use Rattle.std.proofs.lemmas.{Bool.or_parts, Bool.and_right, List.Elements.filter-append}
use Rattle.base_lists.specs.Sorting.{sorted_by}
use Rattle.base_lists.proofs.Flat.{flat-twice}
use Rattle.cdi_model.specs.declared.decl.{BeanDecl.BeanDecl, Decl.Decl, ObserverDecl.ObserverDecl, ProducerDecl.ProducerDecl}
use Rattle.cdi_model.specs.{declared.quals.Qual.Qual, DeclList.AreDistinct}
use Rattle.cdi_model.specs.declared.decl.Decl.TheVariants as decls
use Rattle.cdi_match.specs.Chain.{has}
use Rattle.cdi_effective.specs.Beans.{beans, effective, entries, managed_where, product_where}
use Rattle.cdi_effective.specs.{Disposers.find_bean, Specialized.is_replaced, declared.records.Effective.Effective}
use Rattle.cdi_effective.proofs.PlaceLemmas.{own-place, place-found}
use Rattle.cdi_index.specs.Under.{has_name, observes_one}
use Rattle.cdi_index.proofs.SoughtLemmas.{filter-under}
use Rattle.cdi_resolve.specs.Choices.{candidate, choice_of, chosen_by_name, is_named, named, offers, HasEnough}
use Rattle.cdi_observe.specs.Observers.{Observer, declared_by, enabled_bean, is_before, is_notified, notified_by, observer_id, observers}
use Rattle.cdi_observe.specs.Observers.{observes}

-- ---- choices

twice : {X : Type 0} (p q : X → Bool) → ((x : X) → q x ≡ false → p x ≡ false) → (xs : List X) → filter p (filter q xs) ≡ filter p xs
twice p q only [] = refl
twice p q only (x ∷ xs) = by (q x) refl (twice p q only xs)
  where
    by : (b : Bool) → q x ≡ b → filter p (filter q xs) ≡ filter p xs
        → filter p (cond b (x ∷ filter q xs) (filter q xs)) ≡ cond (p x) (x ∷ filter p xs) (filter p xs)
    by true e rest = ap (λ ys. cond (p x) (x ∷ ys) ys) rest
    by false e rest = rest ∙ ap (λ b. cond b (x ∷ filter p xs) (filter p xs)) (sym (only x e))

-- of the beans of a type
pub has_enough : (t : List ℕ) (bs : List Effective) → HasEnough t (filter (λ b. has b.types t) bs) bs
has_enough t bs = twice (offers t) (λ b. has b.types t) (λ b e. and_right b.is_enabled (has b.types t) e) bs

name-is : (n : List ℕ) (b : Effective) → has_name n b ≡ is_named n b.name
name-is n b = by b.name refl
  where
    by : (o : Option (List ℕ)) → b.name ≡ o → has_name n b ≡ is_named n b.name
    by None e = rw e refl
    by (Some name) e = rw e refl

-- of the beans of a name
pub named_enough : (n : List ℕ) (bs : List Effective) → chosen_by_name (filter (has_name n) bs) n ≡ chosen_by_name bs n
unfolding chosen_by_name named
named_enough n bs = ap (λ xs. choice_of (map candidate xs)) (twice (λ b. b.is_enabled && is_named n b.name) (has_name n)
    (λ b e. and_right b.is_enabled (is_named n b.name) (sym (name-is n b) ∙ e)) bs)

-- ---- observers

none-observe : (types : List (List ℕ)) (b : BeanDecl) (methods : List ObserverDecl)
    → list_any (λ (o : ObserverDecl). has types o.event_type) methods ≡ false
    → filter (observes types) (map (λ method. record { bean = b; method = method }) methods) ≡ []
none-observe types b [] none = refl
none-observe types b (o ∷ methods) none =
    let parts = or_parts (has types o.event_type) (list_any (λ (x : ObserverDecl). has types x.event_type) methods) none in
    let observer : ObserverDecl → Observer = λ method. record { bean = b; method = method } in
    ap (λ c. cond c (observer o ∷ filter (observes types) (map observer methods)) (filter (observes types) (map observer methods))) parts.0
    ∙ none-observe types b methods parts.1

module _ (ds : List Decl) (types : List (List ℕ)) where
  -- the observer methods of a record
  abbrev of_record : Effective → List Observer
  of_record x = declared_by (enabled_bean ds x)

  none-of-record : (b : BeanDecl) (x : Effective) → find_bean x.id.class ds ≡ Some b
      → list_any (λ (o : ObserverDecl). has types o.event_type) b.observers ≡ false → filter (observes types) (of_record x) ≡ []
  none-of-record b x found none = by (not (is_some x.id.producer) && x.is_enabled)
    where
      by : (c : Bool) → filter (observes types) (declared_by (cond c (find_bean x.id.class ds) None)) ≡ []
      by true = ap (λ o. filter (observes types) (declared_by o)) found ∙ none-observe types b b.observers none
      by false = refl

  none-of-products : (b : BeanDecl) (offered : Bool) (producers : List ProducerDecl) → find_bean b.name ds ≡ Some b
      → list_any (λ (o : ObserverDecl). has types o.event_type) b.observers ≡ false
      → filter (observes types) (flat_map of_record (map (product_where ds b offered) producers)) ≡ []
  unfolding effective
  none-of-products b offered [] found none = refl
  none-of-products b offered (p ∷ producers) found none =
      let x : Effective = product_where ds b offered p in
      let rest : List Observer = flat_map of_record (map (product_where ds b offered) producers) in
      filter-append (observes types) (of_record x) rest
      ∙ ap (λ ys. ys ++ filter (observes types) rest) (none-of-record b x found none)
      ∙ none-of-products b offered producers found none

  pub none-of-decl : AreDistinct ds → (i : ℕ) (d : Decl) → slice_get ds i ≡ Some d → observes_one types d ≡ false
      → filter (observes types) (flat_map of_record (entries ds d)) ≡ []
  unfolding effective
  none-of-decl distinct i (decls.Bean b) there none =
      let found : find_bean b.name ds ≡ Some b = place-found ds b i (own-place ds i b distinct there) in
      let offered : Bool = not (is_replaced ds b.name) in
      let x : Effective = managed_where ds b offered in
      let rest : List Observer = flat_map of_record (map (product_where ds b offered) b.producers) in
      filter-append (observes types) (of_record x) rest
      ∙ ap (λ ys. ys ++ filter (observes types) rest) (none-of-record b x found none)
      ∙ none-of-products b offered b.producers found none
  none-of-decl distinct i (decls.Type d) there none = refl
  none-of-decl distinct i other there none = refl

  pub same-observers : AreDistinct ds → filter (observes types) (observers ds (flat_map (entries ds) (filter (observes_one types) ds)))
      ≡ filter (observes types) (observers ds (beans ds))
  unfolding beans
  same-observers distinct =
      ap (filter (observes types)) (flat-twice of_record (entries ds) (filter (observes_one types) ds))
      ∙ filter-under (λ d. flat_map of_record (entries ds d)) (observes_one types) (observes types) ds (none-of-decl distinct)
      ∙ sym (ap (filter (observes types)) (flat-twice of_record (entries ds) ds))

-- of the beans of the declarations that observe one of some types
pub observing_enough : (ds : List Decl) (types : List (List ℕ)) (quals : List Qual) → AreDistinct ds
    → notified_by ds (flat_map (entries ds) (filter (observes_one types) ds)) types quals ≡ notified_by ds (beans ds) types quals
observing_enough ds types quals distinct =
    ap (λ os. map observer_id (filter (is_notified ds quals) (sorted_by is_before os))) (same-observers ds types distinct)
