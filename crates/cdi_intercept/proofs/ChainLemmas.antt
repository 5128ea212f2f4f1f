-- Which interceptors are in order, and where they stand.
use Rattle.std.proofs.Common.{arith, ◌≡◌, ℕ, zero, suc, Bool, true, false, not, cond, List, [], ◌∷◌, ◌++◌, map, filter, Some, option_map}
use Rattle.std.proofs.Common.{refl, ap, ◌∙◌, inl, inr}
use Rattle.std.specs.List.{AllByRecursion, slice_get}
use Rattle.std.proofs.lemmas.{Bool.cases_Bool, Option.none-some, Option.same_Some, Option.slice_get-map, Map.Keys.any_passes_from_place}
use Rattle.base_lists.proofs.{Each.all-at, Places.at-front, Places.at-back, Sorting.all-sorted}
use Rattle.cdi_model.specs.declared.decl.{BeanDecl.BeanDecl, Decl.Decl, InterceptorDecl.InterceptorDecl, MethodDecl.MethodDecl}
use Rattle.cdi_model.specs.declared.{decl.ObserverDecl.ObserverDecl, decl.ProducerDecl.ProducerDecl, place.BeanPlace.BeanPlace}
use Rattle.cdi_model.specs.declared.quals.Qual.{Qual}
use Rattle.cdi_model.specs.declared.decl.Decl.TheVariants as decls
use Rattle.cdi_model.specs.declared.place.BeanPlace.TheVariants as places
use Rattle.cdi_intercept.specs.Chains.{in_order, interceptors, is_enabled, surrounds, surrounds_one}
use Rattle.cdi_intercept.specs.Sets.{methods_of, producers_of, observers_of, places_of, set_by, sets_of}

-- ---- each of those in order is declared, and enabled

abbrev pub IsDeclared : List Decl → InterceptorDecl → Type 0
IsDeclared ds i = (k : ℕ) × (slice_get ds k ≡ Some (decls.Interceptor i))

all-later : (d : Decl) (ds : List Decl) (is : List InterceptorDecl) → AllByRecursion (IsDeclared ds) is
    → AllByRecursion (IsDeclared (d ∷ ds)) is
all-later d ds [] all = tt
all-later d ds (i ∷ is) all = ((suc all.0.0, all.0.1), all-later d ds is all.1)

all-declared : (ds : List Decl) → AllByRecursion (IsDeclared ds) (interceptors ds)
all-declared [] = tt
all-declared (decls.Interceptor i ∷ ds) = ((0, refl), all-later (decls.Interceptor i) ds (interceptors ds) (all-declared ds))
all-declared (other ∷ ds) = all-later other ds (interceptors ds) (all-declared ds)

all-kept : {X : Type 0} (P : X → Type 0) (p : X → Bool) (xs : List X) → AllByRecursion P xs
    → AllByRecursion (λ x. P x × (p x ≡ true)) (filter p xs)
all-kept P p [] all = tt
all-kept {X = X} P p (x ∷ xs) all = grind (arith, all-kept P p xs all.1, all.0, all.1)

pub in_order-declared : (ds : List Decl) (q : ℕ) (i : InterceptorDecl) → slice_get (in_order ds) q ≡ Some i
    → IsDeclared ds i × (is_enabled i ≡ true)
unfolding in_order
in_order-declared ds q i at = grind (arith, all-at, all-sorted, all-kept, all-declared)

-- ---- one that stands around a place of a bean stands around some place of it

-- the place is one of the bean
abbrev pub IsPlace : BeanDecl → BeanPlace → Type 0
IsPlace bean place = (k : ℕ) × (slice_get (places_of bean) k ≡ Some place)

in-filter : {X : Type 0} (p : X → Bool) (xs : List X) (k : ℕ) (x : X) → slice_get xs k ≡ Some x → p x ≡ true
    → (j : ℕ) × (slice_get (filter p xs) j ≡ Some x)
in-filter p [] k x at is = absurd (none-some x at)
in-filter {X = X} p (v ∷ xs) zero x at is = grind (arith, same_Some)
in-filter {X = X} p (v ∷ xs) (suc k) x at is =
    let rest = in-filter p xs k x at is in
    elim (cases_Bool (p v)) [
      | inl e ↦ (suc rest.0, ap (λ (b : Bool). slice_get (cond b (v ∷ filter p xs) (filter p xs)) (suc rest.0)) e ∙ rest.1)
      | inr e ↦ (rest.0, ap (λ (b : Bool). slice_get (cond b (v ∷ filter p xs) (filter p xs)) rest.0) e ∙ rest.1)
    ]

pub construct_place : (bean : BeanDecl) → IsPlace bean places.Construct
construct_place bean = (0, refl)

pub post_place : (bean : BeanDecl) → IsPlace bean places.Post
post_place bean = (1, refl)

pub pre_place : (bean : BeanDecl) → IsPlace bean places.Pre
pre_place bean = (2, refl)

pub method_place : (bean : BeanDecl) (k : ℕ) (method : MethodDecl) → slice_get bean.methods k ≡ Some method
    → IsPlace bean (places.Method method.name)
method_place bean k method at =
    let name : MethodDecl → BeanPlace = λ m. places.Method m.name in
    let found = slice_get-map name bean.methods k ∙ ap (option_map name) at in
    let own = at-front (map name bean.methods) (producers_of bean) k (places.Method method.name) found in
    (suc (suc (suc k)), at-front (map name bean.methods ++ producers_of bean) (observers_of bean) k (places.Method method.name) own)

pub producer_place : (bean : BeanDecl) (k : ℕ) (producer : ProducerDecl) → slice_get bean.producers k ≡ Some producer
    → producer.is_static ≡ false → IsPlace bean (places.Producer producer.name)
producer_place bean k producer at is =
    let name : ProducerDecl → BeanPlace = λ p. places.Producer p.name in
    let own = in-filter (λ p. not p.is_static) bean.producers k producer at (ap not is) in
    let found = slice_get-map name (filter (λ p. not p.is_static) bean.producers) own.0 ∙ ap (option_map name) own.1 in
    let all = at-back (methods_of bean) (producers_of bean) own.0 (places.Producer producer.name) found in
    (suc (suc (suc all.0)), at-front (methods_of bean ++ producers_of bean) (observers_of bean) all.0 (places.Producer producer.name) all.1)

pub observer_place : (bean : BeanDecl) (k : ℕ) (observer : ObserverDecl) → slice_get bean.observers k ≡ Some observer
    → IsPlace bean (places.Observer observer.name)
observer_place bean k observer at =
    let name : ObserverDecl → BeanPlace = λ o. places.Observer o.name in
    let found = slice_get-map name bean.observers k ∙ ap (option_map name) at in
    let all = at-back (methods_of bean ++ producers_of bean) (observers_of bean) k (places.Observer observer.name) found in
    (suc (suc (suc all.0)), all.1)

pub surrounds_some : (ds : List Decl) (class : List Qual) (bean : BeanDecl) (place : BeanPlace) (i : InterceptorDecl) → IsPlace bean place
    → surrounds ds (set_by ds class bean place) place i ≡ true → surrounds_one ds (sets_of ds class bean) i ≡ true
surrounds_some ds class bean place i there is =
    let with_set : BeanPlace → BeanPlace × List Qual = λ p. (p, set_by ds class bean p) in
    any_passes_from_place (λ z. surrounds ds z.1 z.0 i) (sets_of ds class bean) there.0 (with_set place)
    (slice_get-map with_set (places_of bean) there.0 ∙ ap (option_map with_set) there.1) is
