-- The types of an event that some observer method observes are enough to find its observer methods.
use Rattle.std.proofs.Common.{◌≡◌, ℕ, Bool, true, false, cond, not, ◌&&◌, ◌||◌, List, [], ◌∷◌, ◌++◌, map, flat_map, filter, Option, Some, None}
use Rattle.std.proofs.Common.{is_some, refl, sym, ap, ◌∙◌}
use Rattle.std.specs.List.{list_any, AllByRecursion}
use Rattle.std.specs.Str.{bytes_eq}
use Rattle.std.proofs.lemmas.{Bool.or_left, Bool.or_right, Bool.false≢true, List.Elements.filter-append}
use Rattle.base_lists.specs.Sorting.{sorted_by}
use Rattle.std.specs.Cmp.Lexicographic.{bytes_decides}
use Rattle.cdi_model.specs.declared.decl.{BeanDecl.BeanDecl, Decl.Decl, ObserverDecl.ObserverDecl}
use Rattle.cdi_model.specs.{declared.quals.Qual.Qual, DeclList.find_decl, DeclList.is_of, DeclList.AreDistinct}
use Rattle.cdi_model.specs.declared.decl.Decl.TheVariants as decls
use Rattle.cdi_model.specs.declared.decl.Kind.TheVariants as kinds
use Rattle.cdi_match.specs.{Chain.has, Types.types_of}
use Rattle.cdi_effective.specs.{Beans.beans, Beans.entries, Disposers.as_bean, Disposers.find_bean, declared.records.Effective.Effective}
use Rattle.cdi_index.specs.Under.{is_observed, observes_one}
use Rattle.cdi_observe.specs.Observers.{Observer, declared_by, enabled_bean, is_before, is_notified, notified, notified_by, observer_id}
use Rattle.cdi_observe.specs.Observers.{observers, observes, observing, resolved}
use Rattle.cdi_questions.specs.Observed.{observed_types}
use Rattle.cdi_questions.proofs.CandidateLemmas.{same-observers}

-- a name that passes is among those that are left, where it was among all
still-has : (p : List ℕ → Bool) (xs : List (List ℕ)) (x : List ℕ) → p x ≡ true → has (filter p xs) x ≡ has xs x
still-has p [] x passes = refl
still-has p (y ∷ xs) x passes = by (p y) refl (bytes_eq y x) refl (still-has p xs x passes)
  where
    by : (b : Bool) → p y ≡ b → (c : Bool) → bytes_eq y x ≡ c → has (filter p xs) x ≡ has xs x
        → has (cond b (y ∷ filter p xs) (filter p xs)) x ≡ (c || has xs x)
    by true e c same rest = ap (λ a. a || has (filter p xs) x) same ∙ ap (λ a. c || a) rest
    by false e true same rest = absurd (false≢true (sym e ∙ ap p ((bytes_decides y x).0 same) ∙ passes))
    by false e false same rest = rest

-- what holds of a bean that is found holds of one of the declarations
any-bean : (p : Decl → Bool) (class : List ℕ) (bean : BeanDecl) (ds : List Decl) → find_bean class ds ≡ Some bean
    → p (decls.Bean bean) ≡ true → list_any p ds ≡ true
any-bean p class bean [] found holds = absurd (let no : None ≡ Some bean = found in cc)
any-bean p class bean (d ∷ ds) found holds = by (is_of kinds.Bean class d) found (λ rest. any-bean p class bean ds rest holds)
  where
    this : (e : Decl) → as_bean (Some e) ≡ Some bean → p e ≡ true
    this (decls.Bean b) is = let same : b ≡ bean = cc in ap (λ x. p (decls.Bean x)) same ∙ holds
    this (decls.Type b) is = absurd (let no : None ≡ Some bean = is in cc)
    this other is = absurd (let no : None ≡ Some bean = is in cc)

    by : (b : Bool) → as_bean (cond b (Some d) (find_decl kinds.Bean class ds)) ≡ Some bean
        → (find_bean class ds ≡ Some bean → list_any p ds ≡ true) → (p d || list_any p ds) ≡ true
    by true is more = or_left (p d) (list_any p ds) (this d is)
    by false is more = or_right (p d) (list_any p ds) (more is)

module _ (ds : List Decl) (all : List (List ℕ)) where
  abbrev some : List (List ℕ)
  some = filter (is_observed ds) all

  -- methods of which each type is observed
  all-observed : (methods : List ObserverDecl)
      → ((x : List ℕ) → list_any (λ (m : ObserverDecl). has (x ∷ []) m.event_type) methods ≡ true → is_observed ds x ≡ true)
      → AllByRecursion (λ (m : ObserverDecl). is_observed ds m.event_type ≡ true) methods
  all-observed [] each = tt
  all-observed (m ∷ methods) each = (
    each m.event_type (or_left (has (m.event_type ∷ []) m.event_type) _ (or_left (bytes_eq m.event_type m.event_type) false
        ((bytes_decides m.event_type m.event_type).1 refl))),
    all-observed methods (λ x h. each x (or_right (has (x ∷ []) m.event_type) _ h)),
  )

  same-methods : (bean : BeanDecl) (methods : List ObserverDecl)
      → AllByRecursion (λ (m : ObserverDecl). is_observed ds m.event_type ≡ true) methods
      → filter (observes some) (map (λ method. record { bean = bean; method = method }) methods)
      ≡ filter (observes all) (map (λ method. record { bean = bean; method = method }) methods)
  same-methods bean [] each = refl
  same-methods bean (m ∷ methods) each =
      let observer : ObserverDecl → Observer = λ method. record { bean = bean; method = method } in
      ap (λ b. cond b (observer m ∷ filter (observes some) (map observer methods)) (filter (observes some) (map observer methods)))
      (still-has (is_observed ds) all m.event_type each.0)
      ∙ ap (λ os. cond (has all m.event_type) (observer m ∷ os) os) (same-methods bean methods each.1)

  same-of-bean : (class : List ℕ) (o : Option BeanDecl) → find_bean class ds ≡ o
      → filter (observes some) (declared_by o) ≡ filter (observes all) (declared_by o)
  same-of-bean class None found = refl
  same-of-bean class (Some bean) found = same-methods bean bean.observers
      (all-observed bean.observers (λ x h. any-bean (observes_one (x ∷ [])) class bean ds found h))

  same-of-record : (b : Effective) → filter (observes some) (declared_by (enabled_bean ds b)) ≡ filter (observes all) (declared_by (enabled_bean ds b))
  same-of-record b = by (not (is_some b.id.producer) && b.is_enabled)
    where
      by : (c : Bool) → filter (observes some) (declared_by (cond c (find_bean b.id.class ds) None))
          ≡ filter (observes all) (declared_by (cond c (find_bean b.id.class ds) None))
      by true = same-of-bean b.id.class (find_bean b.id.class ds) refl
      by false = refl

  same-of-records : (bs : List Effective) → filter (observes some) (observers ds bs) ≡ filter (observes all) (observers ds bs)
  same-of-records [] = refl
  same-of-records (b ∷ bs) =
      let own : List Observer = declared_by (enabled_bean ds b) in
      filter-append (observes some) own (observers ds bs)
      ∙ ap (λ os. os ++ filter (observes some) (observers ds bs)) (same-of-record b)
      ∙ ap (λ os. filter (observes all) own ++ os) (same-of-records bs)
      ∙ sym (filter-append (observes all) own (observers ds bs))

pub observed_enough : (ds : List Decl) (t : List ℕ) (quals : List Qual)
    → notified_by ds (beans ds) (observed_types ds t) quals ≡ notified ds (beans ds) t quals
unfolding resolved observing
observed_enough ds t quals =
    ap (λ os. map observer_id (filter (is_notified ds quals) (sorted_by is_before os))) (same-of-records ds (types_of ds t) (beans ds))

-- of the beans of the declarations that observe one of the observed types of an event, all that it sees
pub observing_observed : (ds : List Decl) (types : List (List ℕ)) → AreDistinct ds → (t : List ℕ) → types ≡ observed_types ds t
    → sorted_by is_before (filter (observes types) (observers ds (flat_map (entries ds) (filter (observes_one types) ds))))
    ≡ observing ds (beans ds) t
unfolding observing
observing_observed ds types distinct t are =
    ap (sorted_by is_before) (same-observers ds types distinct
    ∙ ap (λ ts. filter (observes ts) (observers ds (beans ds))) are ∙ same-of-records ds (types_of ds t) (beans ds))
