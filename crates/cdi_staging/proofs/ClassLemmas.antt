-- The interceptors around the places of a bean that is declared, by the names that are told of them.
use Rattle.cdi_staging.proofs.Common.{◌≡◌, ℕ, zero, suc, Bool, true, false, List, [], ◌∷◌, ◌++◌, map, Some, Contains, refl, sym, ap, ◌∙◌}
use Rattle.cdi_staging.proofs.Common.{slice_get, false≢true, slice_get-get_or, AreDistinct, BeanDecl, Decl, InterceptorDecl, same_text}
use Rattle.cdi_staging.proofs.Common.{MethodDecl, ObserverDecl, ProducerDecl, BeanPlace, in_order, has_place, ◌+◌, cond, filter, length}
use Rattle.cdi_staging.proofs.Common.{◌≢◌, ◌&&◌, bytes_eq, has, ◌<◌, not, get_or, is_some, option_map, append_assoc, slice_get-map}
use Rattle.cdi_staging.proofs.Common.{class_bindings, surrounds, surrounds_one, set_by, sets_of, names_at, around_in, names_among, Around}
use Rattle.cdi_staging.proofs.Common.{around_of, chain_at, injections_around, injections_from, places_from, targets, Injection, at-map}
use Rattle.cdi_staging.proofs.Common.{arith}
use Rattle.std.proofs.lemmas.{List.map-id, Option.get_or_from_slice_get, Option.slice_get_within, Simd.map-map}
use Rattle.cdi_model.specs.declared.place.BeanPlace.TheVariants as spots
use Rattle.cdi_contexts.specs.declared.instance.Actor.TheVariants.{Interceptor as By}
use Rattle.cdi_intercept.specs.Chains.{chain_by}
use Rattle.cdi_observe.specs.Around.{names_of_bean}
use Rattle.cdi_observe.proofs.AroundLemmas.{has-names, has-names_at}
use Rattle.cdi_staging.proofs.BesideLemmas.{found}
use Rattle.cdi_staging.specs.declared.around.Around.{Around as Shown}

-- ---- tests that agree on each element

filter-same : {X : Type 0} (p q : X → Bool) (xs : List X) → ((k : ℕ) (x : X) → slice_get xs k ≡ Some x → p x ≡ q x)
    → filter p xs ≡ filter q xs
filter-same p q [] same = refl
filter-same p q (x ∷ xs) same =
    ap (λ b. cond b (x ∷ filter p xs) (filter p xs)) (same zero x refl)
    ∙ ap (λ rest. cond (q x) (x ∷ rest) rest) (filter-same p q xs (λ k y at. same (suc k) y at))

places-same : {X : Type 0} (p q : X → Bool) (n : ℕ) (xs : List X) → ((k : ℕ) (x : X) → slice_get xs k ≡ Some x → p x ≡ q x)
    → places_from p n xs ≡ places_from q n xs
places-same p q n [] same = refl
places-same p q n (x ∷ xs) same =
    ap (λ b. cond b (n ∷ []) [] ++ places_from p (n + 1) xs) (same zero x refl)
    ∙ ap (λ rest. cond (q x) (n ∷ []) [] ++ rest) (places-same p q (n + 1) xs (λ k y at. same (suc k) y at))

injections-same : (p q : InterceptorDecl → Bool) (n : ℕ) (xs : List Around)
    → ((k : ℕ) (a : Around) → slice_get xs k ≡ Some a → p a.0 ≡ q a.0) → injections_around p n xs ≡ injections_around q n xs
injections-same p q n [] same = refl
injections-same p q n (a ∷ xs) same =
    ap (λ b. cond b (injections_from (By n) 0 a.1) [] ++ injections_around p (n + 1) xs) (same zero a refl)
    ∙ ap (λ rest. cond (q a.0) (injections_from (By n) 0 a.1) [] ++ rest)
    (injections-same p q (n + 1) xs (λ k y at. same (suc k) y at))

filter-mapped : {X Y : Type 0} (f : X → Y) (p : Y → Bool) (xs : List X) → filter p (map f xs) ≡ map f (filter (λ x. p (f x)) xs)
filter-mapped f p [] = refl
filter-mapped {X = X} f p (x ∷ xs) = grind (arith, filter-mapped f p xs)

-- ---- the interceptors that are enabled, by their names

-- an interceptor with what is chosen for its injection points
abbrev with_targets : List Decl → InterceptorDecl → Around
with_targets ds i = (i, targets ds i.points)

-- each that the code has is one that is enabled
shown-enabled : (ds : List Decl) (around : List Shown) → map around_in around ≡ around_of ds → map (λ a. a.decl.now) around ≡ in_order ds
unfolding around_of
shown-enabled ds around enabled =
    sym (map-map (λ (a : Around). a.0) around_in around)
    ∙ ap (map (λ (a : Around). a.0)) enabled
    ∙ map-map (λ (a : Around). a.0) (with_targets ds) (in_order ds)
    ∙ map-id (in_order ds)

pub is-enabled : (ds : List Decl) (around : List Shown) (k : ℕ) (a : Shown) → map around_in around ≡ around_of ds → k < length around
    → a ≡ get_or around k a → Contains (in_order ds) a.decl.now
is-enabled ds around k a enabled within is =
    let decl : Shown → InterceptorDecl = λ b. b.decl.now in
    let at : slice_get (in_order ds) k ≡ Some a.decl.now = ap (λ list. slice_get list k) (sym (shown-enabled ds around enabled))
    ∙ slice_get-map decl around k
    ∙ ap (option_map decl) (slice_get-get_or around k a within ∙ ap Some (sym is)) in
    (k, slice_get_within (in_order ds) k a.decl.now at, get_or_from_slice_get (in_order ds) k a.decl.now a.decl.now at)

-- what the names tell of the interceptors that are enabled, they tell of these with what is chosen for them
told : (ds : List Decl) (names : List (List ℕ)) (test : InterceptorDecl → Bool)
    → ((k : ℕ) (i : InterceptorDecl) → slice_get (in_order ds) k ≡ Some i → has names i.name ≡ test i)
    → (k : ℕ) (a : Around) → slice_get (around_of ds) k ≡ Some a → has names a.0.name ≡ test a.0
unfolding around_of
told ds names test each k a at = grind (arith, at-map)

-- the interceptors that stand around a place
abbrev stands_at : List Decl → BeanDecl → BeanPlace → InterceptorDecl → Bool
stands_at ds bean place i = surrounds ds (set_by ds (class_bindings ds bean) bean place) place i

-- the names at a place are those of the interceptors that they name
pub names-at_place : (ds : List Decl) (bean : BeanDecl) (place : BeanPlace) → AreDistinct ds
    → names_at ds bean place ≡ names_among (names_at ds bean place) (around_of ds)
unfolding around_of chain_by
names-at_place ds bean place distinct =
    let names = names_at ds bean place in
    let named : InterceptorDecl → Bool = λ i. has names i.name in
    ap (map (λ i. i.name))
    (filter-same (stands_at ds bean place) named (in_order ds) (λ k i at. sym (has-names_at ds bean place k i distinct at)))
    ∙ sym (map-map (λ (a : Around). a.0.name) (with_targets ds) (filter named (in_order ds)))
    ∙ ap (map (λ (a : Around). a.0.name)) (sym (filter-mapped (with_targets ds) (λ (a : Around). has names a.0.name) (in_order ds)))

-- and the positions of these are the chain
pub positions-at_place : (ds : List Decl) (bean : BeanDecl) (place : BeanPlace) → AreDistinct ds
    → places_from (λ a. has (names_at ds bean place) a.0.name) 0 (around_of ds) ≡ chain_at ds bean place
positions-at_place ds bean place distinct =
    places-same (λ (a : Around). has (names_at ds bean place) a.0.name) (λ (a : Around). stands_at ds bean place a.0) 0 (around_of ds)
    (told ds (names_at ds bean place) (stands_at ds bean place) (λ k i at. has-names_at ds bean place k i distinct at))

-- what is chosen for those around some place
pub injections-named : (ds : List Decl) (bean : BeanDecl) → AreDistinct ds
    → injections_around (λ i. has (names_of_bean ds bean) i.name) 0 (around_of ds)
    ≡ injections_around (surrounds_one ds (sets_of ds (class_bindings ds bean) bean)) 0 (around_of ds)
injections-named ds bean distinct =
    let around : InterceptorDecl → Bool = surrounds_one ds (sets_of ds (class_bindings ds bean) bean) in
    injections-same (λ i. has (names_of_bean ds bean) i.name) around 0 (around_of ds)
    (told ds (names_of_bean ds bean) around (λ k i at. has-names ds bean k i distinct at))

-- ---- names that are left

first-named : (names : List (List ℕ)) (n : List ℕ) (others : List (List ℕ)) (rest : List Around)
    → names_among names rest ≡ n ∷ others → has names n ≡ true
first-named names n others [] are = absurd (cc)
first-named names n others (a ∷ rest) are = grind (arith, first-named names n others rest, a.0.name)

-- where the first that is left is the name of the next interceptor, this is named
pub named-next : (names left others : List (List ℕ)) (a : Around) (rest : List Around) → left ≡ names_among names (a ∷ rest)
    → left ≡ a.0.name ∷ others → (has names a.0.name ≡ true) × (others ≡ names_among names rest)
named-next names left others a rest among first = grind (arith, a.0.name, false≢true, first-named)

-- and else it is not
pub not-named-next : (names left : List (List ℕ)) (a : Around) (rest : List Around) → left ≡ names_among names (a ∷ rest)
    → ((others : List (List ℕ)) → left ≢ a.0.name ∷ others) → (has names a.0.name ≡ false) × (left ≡ names_among names rest)
not-named-next names left a rest among none = grind (arith, a.0.name)

pub places-next : {X : Type 0} (test : X → Bool) (n : ℕ) (x : X) (xs : List X) (olds all : List ℕ) → test x ≡ true
    → olds ++ places_from test n (x ∷ xs) ≡ all → (olds ++ n ∷ []) ++ places_from test (n + 1) xs ≡ all
places-next test n x xs olds all is before = append_assoc olds (n ∷ []) (places_from test (n + 1) xs)
    ∙ ap (λ b. olds ++ (cond b (n ∷ []) [] ++ places_from test (n + 1) xs)) (sym is) ∙ before

pub places-past : {X : Type 0} (test : X → Bool) (n : ℕ) (x : X) (xs : List X) (olds all : List ℕ) → test x ≡ false
    → olds ++ places_from test n (x ∷ xs) ≡ all → olds ++ places_from test (n + 1) xs ≡ all
places-past test n x xs olds all is before =
    ap (λ b. olds ++ (cond b (n ∷ []) [] ++ places_from test (n + 1) xs)) (sym is) ∙ before

pub injected-next : (test : InterceptorDecl → Bool) (n : ℕ) (a : Around) (rest : List Around) (olds news all : List Injection)
    → test a.0 ≡ true → news ≡ olds ++ injections_from (By n) 0 a.1 → olds ++ injections_around test n (a ∷ rest) ≡ all
    → news ++ injections_around test (n + 1) rest ≡ all
injected-next test n a rest olds news all is pushed before = grind (arith, a.1, append_assoc)

pub injected-past : (test : InterceptorDecl → Bool) (n : ℕ) (a : Around) (rest : List Around) (olds all : List Injection)
    → test a.0 ≡ false → olds ++ injections_around test n (a ∷ rest) ≡ all → olds ++ injections_around test (n + 1) rest ≡ all
injected-past test n a rest olds all is before =
    ap (λ b. olds ++ (cond b (injections_from (By n) 0 a.1) [] ++ injections_around test (n + 1) rest)) (sym is) ∙ before

-- ---- the places of a bean

pub has-method : (bean : BeanDecl) (m : MethodDecl) → Contains bean.methods m → has_place bean (spots.Method m.name) ≡ true
has-method bean m (k, within, at) =
    let one = found (λ (n : MethodDecl). bytes_eq n.name m.name) bean.methods k m (slice_get-get_or bean.methods k m within ∙ ap Some at)
    (same_text m.name m.name refl) in
    ap (λ o. is_some (option_map (λ (n : MethodDecl). n.bindings) o)) one.find_is

pub has-observer : (bean : BeanDecl) (m : ObserverDecl) → Contains bean.observers m → has_place bean (spots.Observer m.name) ≡ true
has-observer bean m (k, within, at) =
    let one = found (λ (n : ObserverDecl). bytes_eq n.name m.name) bean.observers k m
    (slice_get-get_or bean.observers k m within ∙ ap Some at)
    (same_text m.name m.name refl) in
    ap (λ o. is_some (option_map (λ (n : ObserverDecl). n.bindings) o)) one.find_is

-- a producer method that is not static is a place
pub has-producer : (bean : BeanDecl) (p : ProducerDecl) → Contains bean.producers p → p.is_static ≡ false
    → has_place bean (spots.Producer p.name) ≡ true
has-producer bean p (k, within, at) own =
    let one = found (λ (q : ProducerDecl). bytes_eq q.name p.name && not q.is_static) bean.producers k p
    (slice_get-get_or bean.producers k p within ∙ ap Some at)
    (ap (λ b. b && not p.is_static) (same_text p.name p.name refl) ∙ ap not own) in
    ap (λ o. is_some (option_map (λ (q : ProducerDecl). q.bindings) o)) one.find_is
