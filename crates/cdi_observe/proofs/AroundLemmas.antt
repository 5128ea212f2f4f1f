-- The names of the interceptors around a bean tell which of them stand around it.
use Rattle.cdi_observe.proofs.Common.{◌≡◌, ℕ, zero, suc, Bool, true, false, cond, not, ◌&&◌, ◌||◌, List, [], ◌∷◌, ◌++◌, map, length, Some}
use Rattle.cdi_observe.proofs.Common.{Ok, Err, get_or, refl, sym, ap, ◌∙◌, AllByRecursion, flat_map, list_any, bytes_eq, false≢true}
use Rattle.cdi_observe.proofs.Common.{recursion_from_All, slice_get-get_or, find_decl, AreDistinct, BeanDecl, Decl, BeanPlace, Refusal}
use Rattle.cdi_observe.proofs.Common.{find_bean, own-found, chain_told, has_place, places_of, one_text, names_at, names_of_bean, filter}
use Rattle.cdi_observe.proofs.Common.{slice_get, arith}
use Rattle.std.proofs.{Common.Result, Common.nat_eq, Math.Bool.and-false, lemmas.Option.none-some, lemmas.Option.same_Some}
use Rattle.base_lists.proofs.Any.{any-flat_map, any-same, any-left, some_left}
use Rattle.base_lists.proofs.Sorting.{any-sorted}
use Rattle.base_numbers.proofs.Texts.{same_text}
use Rattle.cdi_model.specs.declared.decl.InterceptorDecl.{InterceptorDecl}
use Rattle.cdi_model.specs.declared.decl.Decl.TheVariants as decls
use Rattle.cdi_model.specs.declared.decl.Kind.TheVariants as kinds
use Rattle.cdi_match.specs.Chain.{has}
use Rattle.cdi_effective.specs.Bindings.{class_bindings}
use Rattle.cdi_intercept.specs.Chains.{around_any, chain_by, chain_of, in_order, interceptors, is_before, is_enabled, stands_around}
use Rattle.cdi_intercept.specs.Chains.{surrounds, surrounds_one}
use Rattle.cdi_intercept.specs.Sets.{set_by, sets_of}
use Rattle.cdi_intercept.proofs.AroundLemmas.{any-sets, intercepted-by_places, is_around}
use Rattle.cdi_intercept.proofs.ChainLemmas.{in_order-declared, IsDeclared}

-- ---- the names at a place are those that are told of it

told-where : {X : Type 0} (has : Bool) (x : X) (refusal : Refusal) → has ≡ true → cond has (Ok x) (Err refusal) ≡ Ok x
told-where has x refusal e = grind (arith, false≢true)

pub told-names : (ds : List Decl) (bean : BeanDecl) (place : BeanPlace) → find_bean bean.name ds ≡ Some bean → has_place bean place ≡ true
    → chain_of ds bean.name place ≡ Ok (names_at ds bean place)
told-names ds bean place found there = ap (λ o. chain_told ds o place) found ∙ told-where (has_place bean place) _ _ there

told-one : {X : Type 0} (r : Result X Refusal) (x y : X) → r ≡ Ok x → r ≡ Ok y → y ≡ x
told-one r x y is other = let same : Ok y ≡ Ok x = sym other ∙ is in cc

-- so what is told of it is they
pub told-same : (ds : List Decl) (bean : BeanDecl) (place : BeanPlace) (names : List (List ℕ)) → find_bean bean.name ds ≡ Some bean
    → has_place bean place ≡ true → chain_of ds bean.name place ≡ Ok names → names ≡ names_at ds bean place
told-same ds bean place names found there is =
    told-one (chain_of ds bean.name place) (names_at ds bean place) names (told-names ds bean place found there) is

-- ---- an interceptor among those around a place

kept-or-not : (b c own rest any : Bool) → (b ≡ true → c ≡ own) → rest ≡ (own && any) → cond c (b || rest) rest ≡ (own && (b || any))
kept-or-not b c own rest any same is = grind arith

module _ (i : InterceptorDecl) where
  -- it has the name
  abbrev is_named : InterceptorDecl → Bool
  is_named x = bytes_eq x.name i.name

  has-filtered : (p : InterceptorDecl → Bool) (xs : List InterceptorDecl) → AllByRecursion (λ x. is_named x ≡ true → x ≡ i) xs
      → has (map (λ x. x.name) (filter p xs)) i.name ≡ (p i && list_any is_named xs)
  has-filtered p [] all = sym (and-false (p i))
  has-filtered p (x ∷ xs) all = grind (arith, has-filtered p xs all.1, all.0, all.1, x.name, kept-or-not)

  named-so : is_named i ≡ true
  named-so = same_text i.name i.name refl

  -- one that is declared and enabled is among those that are
  any-declared : (ds : List Decl) (k : ℕ) → slice_get ds k ≡ Some (decls.Interceptor i) → is_enabled i ≡ true
      → list_any is_named (filter is_enabled (interceptors ds)) ≡ true
  any-declared [] k at enabled = absurd (none-some (decls.Interceptor i) at)
  any-declared (d ∷ ds) zero at enabled = grind (arith, same_Some, named-so)
  any-declared (decls.Interceptor x ∷ ds) (suc k) at enabled = grind (arith, any-declared ds k at enabled)
  any-declared (other ∷ ds) (suc k) at enabled = any-declared ds k at enabled

module _ (ds : List Decl) (distinct : AreDistinct ds) where
  -- two of one name are one
  one-named : (x i : InterceptorDecl) → IsDeclared ds x → IsDeclared ds i → bytes_eq x.name i.name ≡ true → x ≡ i
  one-named x i at there e =
      let name : x.name ≡ i.name = one_text x.name i.name e in
      let first : find_decl kinds.Interceptor x.name ds ≡ Some (decls.Interceptor x) = own-found ds at.0
      (decls.Interceptor x) distinct at.1 in
      let second : find_decl kinds.Interceptor i.name ds ≡ Some (decls.Interceptor i) =
      own-found ds there.0 (decls.Interceptor i) distinct there.1 in
      let same : decls.Interceptor x ≡ decls.Interceptor i =
      same_Some (decls.Interceptor x) (decls.Interceptor i) (sym first ∙ ap (λ n. find_decl kinds.Interceptor n ds) name ∙ second) in
      cc

  only-named : (i : InterceptorDecl) → IsDeclared ds i → AllByRecursion (λ x. is_named i x ≡ true → x ≡ i) (in_order ds)
  only-named i there = recursion_from_All (λ x. is_named i x ≡ true → x ≡ i) (in_order ds) (λ k d lt.
      one-named (get_or (in_order ds) k d) i (in_order-declared ds k (get_or (in_order ds) k d) (slice_get-get_or (in_order ds) k d lt)).0
      there)

  any-named : (i : InterceptorDecl) → IsDeclared ds i → is_enabled i ≡ true → list_any (is_named i) (in_order ds) ≡ true
  unfolding in_order
  any-named i there enabled = any-sorted is_before (is_named i) (filter is_enabled (interceptors ds))
      ∙ any-declared i ds there.0 there.1 enabled

  and-true : (a b : Bool) → b ≡ true → (a && b) ≡ a
  and-true a b e = grind arith

  has-of : (p : InterceptorDecl → Bool) (i : InterceptorDecl) → IsDeclared ds i → is_enabled i ≡ true
      → has (map (λ x. x.name) (filter p (in_order ds))) i.name ≡ p i
  has-of p i there enabled = has-filtered i p (in_order ds) (only-named i there)
      ∙ and-true (p i) (list_any (is_named i) (in_order ds)) (any-named i there enabled)

-- those around a place
has-at : (ds : List Decl) (bean : BeanDecl) (place : BeanPlace) (i : InterceptorDecl) → AreDistinct ds → IsDeclared ds i
    → is_enabled i ≡ true
    → has (names_at ds bean place) i.name ≡ surrounds ds (set_by ds (class_bindings ds bean) bean place) place i
unfolding chain_by
has-at ds bean place i distinct there enabled = has-of ds distinct
    (surrounds ds (set_by ds (class_bindings ds bean) bean place) place) i there enabled

pub has-names_at : (ds : List Decl) (bean : BeanDecl) (place : BeanPlace) (k : ℕ) (i : InterceptorDecl) → AreDistinct ds
    → slice_get (in_order ds) k ≡ Some i
    → has (names_at ds bean place) i.name ≡ surrounds ds (set_by ds (class_bindings ds bean) bean place) place i
has-names_at ds bean place k i distinct at = grind (arith, in_order-declared, has-at)

-- ---- among those around all places

has-all : (ds : List Decl) (bean : BeanDecl) (i : InterceptorDecl) → AreDistinct ds → IsDeclared ds i → is_enabled i ≡ true
    → has (names_of_bean ds bean) i.name ≡ surrounds_one ds (sets_of ds (class_bindings ds bean) bean) i
unfolding names_of_bean
has-all ds bean i distinct there enabled =
    any-flat_map (λ n. bytes_eq n i.name) (names_at ds bean) (places_of bean)
    ∙ any-same (λ place. has (names_at ds bean place) i.name)
    (λ place. surrounds ds (set_by ds (class_bindings ds bean) bean place) place i) (places_of bean)
    (λ place. has-at ds bean place i distinct there enabled)
    ∙ sym (any-sets ds (class_bindings ds bean) bean i (places_of bean))

pub has-names : (ds : List Decl) (bean : BeanDecl) (k : ℕ) (i : InterceptorDecl) → AreDistinct ds → slice_get (in_order ds) k ≡ Some i
    → has (names_of_bean ds bean) i.name ≡ surrounds_one ds (sets_of ds (class_bindings ds bean) bean) i
has-names ds bean k i distinct at = grind (arith, in_order-declared, has-all)

-- one that is declared and enabled
pub stands-named : (ds : List Decl) (bean : BeanDecl) (k : ℕ) (i : InterceptorDecl) → AreDistinct ds
    → slice_get ds k ≡ Some (decls.Interceptor i)
    → is_enabled i ≡ true → has (names_of_bean ds bean) i.name ≡ stands_around ds i bean
unfolding stands_around
stands-named ds bean k i distinct at enabled = grind (arith, has-all)

-- ---- whether there is one

abbrev some : {X : Type 0} → List X → Bool
some [] = false
some (x ∷ xs) = true

left-some : {X : Type 0} (xs : List X) → not (nat_eq (length xs) 0) ≡ some xs
left-some [] = refl
left-some (x ∷ xs) = some_left (length xs)

some-append : {X : Type 0} (xs ys : List X) → some (xs ++ ys) ≡ (some xs || some ys)
some-append [] ys = refl
some-append (x ∷ xs) ys = refl

some-flat : {X Y : Type 0} (f : X → List Y) (xs : List X) → some (flat_map f xs) ≡ list_any (λ x. some (f x)) xs
some-flat f [] = refl
some-flat f (x ∷ xs) = some-append (f x) (flat_map f xs) ∙ ap (λ b. some (f x) || b) (some-flat f xs)

some-map : {X Y : Type 0} (f : X → Y) (xs : List X) → some (map f xs) ≡ some xs
some-map f [] = refl
some-map f (x ∷ xs) = refl

some-at : (ds : List Decl) (bean : BeanDecl) (place : BeanPlace)
    → some (names_at ds bean place) ≡ is_around ds (class_bindings ds bean) bean place
unfolding chain_by in_order
some-at ds bean place =
    let set = set_by ds (class_bindings ds bean) bean place in
    some-map (λ (i : InterceptorDecl). i.name) (chain_by ds set place)
    ∙ sym (left-some (filter (surrounds ds set place) (in_order ds)))
    ∙ any-left (surrounds ds set place) (in_order ds)
    ∙ any-sorted is_before (surrounds ds set place) (filter is_enabled (interceptors ds))

-- there is a name just where an interceptor stands around some place
pub some-names : (ds : List Decl) (bean : BeanDecl)
    → not (nat_eq (length (names_of_bean ds bean)) 0) ≡ not (nat_eq (length (around_any ds (class_bindings ds bean) bean)) 0)
unfolding names_of_bean
some-names ds bean =
    left-some (names_of_bean ds bean)
    ∙ some-flat (names_at ds bean) (places_of bean)
    ∙ any-same (λ place. some (names_at ds bean place)) (is_around ds (class_bindings ds bean) bean) (places_of bean) (some-at ds bean)
    ∙ intercepted-by_places ds (class_bindings ds bean) bean
