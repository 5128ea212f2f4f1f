-- Who lives where, as instances come, change and go.
use Rattle.std.proofs.Common.{◌≡◌, ℕ, zero, suc, ◌<◌, Bool, true, false, ◌==◌, ◌&&◌, cond, List, [], ◌∷◌, ◌++◌, map, length, get_or, drop}
use Rattle.std.proofs.Common.{Option, Some, None, refl, arith, ap, sym, ◌∙◌}
use Rattle.std.specs.{List.find, List.remove, Option.option_map}
use Rattle.std.proofs.lemmas.{Bool.Decides.nat_tests, List.Folds.find-append, Bool.cond-false}
use Rattle.base_options.proofs.Booleans.{and-false}
use Rattle.cdi_model.specs.declared.outcome.Val.{Val}
use Rattle.cdi_model.specs.declared.decl.Scope.TheVariants as scopes
use Rattle.cdi_contexts.proofs.Places.{above, number_at}
use Rattle.cdi_contexts.proofs.Rising.{IsSame, finish_same, kept_same}
use Rattle.cdi_contexts.specs.Homes.{home_of, is_home_of, lives_at, living_at, oldest_at, joined, left_of, kept_at, AreHomesOf}
use Rattle.cdi_contexts.specs.Standing.{found, numbered, finish, keep}
use Rattle.cdi_contexts.specs.declared.instance.Owner.TheVariants.{Request, Application, Point, Nobody}
use Rattle.cdi_contexts.specs.{Owned.is_of, Places.IsPlace, Rising.IsRising, Rising.RisesFrom, SameHomes.same_home}
use Rattle.cdi_contexts.specs.declared.{homes.Home.Home, homes.Homes.Homes, instance.Instance.Instance}
use Rattle.cdi_contexts.specs.declared.instance.Owner.{Owner}
use Rattle.cdi_contexts.specs.declared.homes.Home.TheVariants as homes

-- ---- an instance lives at its home and nowhere else

and_true : (b : Bool) → (b && true) ≡ b
and_true b = grind arith

-- whether it is this home, where there is one
abbrev is_this : Option Home → Home → Bool
is_this (Some home) h = same_home home h
is_this None h = false

lives_home : (h : Home) (bean : ℕ) (o : Owner) → is_home_of h bean o ≡ is_this (home_of bean o) h
lives_home (homes.Request b) bean Request = and_true (bean == b)
lives_home (homes.Request b) bean Application = and-false (bean == b)
lives_home (homes.Request b) bean (Point n actor p) = and-false (bean == b)
lives_home (homes.Request b) bean Nobody = and-false (bean == b)
lives_home (homes.Application b) bean Request = and-false (bean == b)
lives_home (homes.Application b) bean Application = and_true (bean == b)
lives_home (homes.Application b) bean (Point n actor p) = and-false (bean == b)
lives_home (homes.Application b) bean Nobody = and-false (bean == b)
lives_home (homes.Point n actor p) bean Request = refl
lives_home (homes.Point n actor p) bean Application = refl
lives_home (homes.Point n actor p) bean (Point m who q) = refl
lives_home (homes.Point n actor p) bean Nobody = refl

-- no instance is found in a context of dependent ones
pub found-dependent : (live : List Instance) (b : ℕ) → found live scopes.Dependent b ≡ None
found-dependent [] b = refl
found-dependent (i ∷ is) b = none (i.id.bean == b) (is_of scopes.Dependent i.owner) (never i.owner) ∙ found-dependent is b
  where
    never : (o : Owner) → is_of scopes.Dependent o ≡ false
    never Request = refl
    never other = refl

    none : (here of : Bool) → of ≡ false → cond (here && of) (Some i) (found is scopes.Dependent b) ≡ found is scopes.Dependent b
    none here of e =
        ap (λ x. cond (here && x) (Some i) (found is scopes.Dependent b)) e
        ∙ ap (λ x. cond x (Some i) (found is scopes.Dependent b)) (and-false here)

-- ---- who is found is found by number

-- who is found is found by its number, which is above this one
abbrev IsNumbered : ℕ → List Instance → Instance → Type 0
IsNumbered low live j = (low < j.id.number) × (numbered live j.id.number ≡ Some j)

first_numbered : (low : ℕ) (i j : Instance) (is : List Instance) → low < i.id.number → Some i ≡ Some j → IsNumbered low (i ∷ is) j
first_numbered low i j is less e = grind (arith, i.id.number)

later_numbered : (low : ℕ) (i j : Instance) (is : List Instance) → low < i.id.number → IsNumbered i.id.number is j
    → IsNumbered low (i ∷ is) j
later_numbered low i j is less rest = grind (arith, rest.0, i.id.number, j.id.number, rest.1, above, nat_tests, cond-false)

found_step : (b : Bool) (low : ℕ) (i j : Instance) (is : List Instance) (o : Option Instance) → low < i.id.number
    → cond b (Some i) o ≡ Some j → (o ≡ Some j → IsNumbered i.id.number is j) → IsNumbered low (i ∷ is) j
found_step b low i j is o less e rest = grind (arith, first_numbered, later_numbered)

found_numbered : (p : Instance → Bool) (low given : ℕ) (live : List Instance) (j : Instance) → RisesFrom low given live
    → find p live ≡ Some j → IsNumbered low live j
found_numbered p low given [] j r e = cc
found_numbered p low given (i ∷ is) j r e =
    found_step (p i) low i j is (find p is) r.0 e (found_numbered p i.id.number given is j r.2)

-- the number that stands at a home is that of who lives there
pub living_numbered : (given : ℕ) (live : List Instance) (h : Home) (n : ℕ) → IsRising given live → Some n ≡ oldest_at h live
    → numbered live n ≡ living_at h live
living_numbered given live h n r e = grind (arith, found_numbered)

pub living_nowhere : (live : List Instance) (h : Home) → None ≡ oldest_at h live → None ≡ living_at h live
living_nowhere live h e = grind arith

-- ---- an instance changes what it holds

oldest_of : (b : Bool) (i j : Instance) (o p : Option Instance) → j.id ≡ i.id
    → option_map (λ (x : Instance). x.id.number) o ≡ option_map (λ (x : Instance). x.id.number) p
    → option_map (λ (x : Instance). x.id.number) (cond b (Some j) o) ≡ option_map (λ (x : Instance). x.id.number) (cond b (Some i) p)
oldest_of b i j o p same rest = grind arith

oldest-map : (h : Home) (f : Instance → Instance) (live : List Instance) → ((i : Instance) → IsSame i (f i))
    → oldest_at h (map f live) ≡ oldest_at h live
oldest-map h f [] same = refl
oldest-map h f (i ∷ is) same = grind (arith, oldest-map h f is same, map, oldest_of)

pub homes-same : (homes : Homes) (f : Instance → Instance) (live xs : List Instance) → ((i : Instance) → IsSame i (f i))
    → xs ≡ map f live → AreHomesOf homes live → AreHomesOf homes xs
homes-same homes f live xs same e are home = are home ∙ sym (ap (oldest_at home) e ∙ oldest-map home f live same)

pub homes-finished : (homes : Homes) (n : ℕ) (product : Option Val) (live xs : List Instance) → xs ≡ map (finish n product) live
    → AreHomesOf homes live → AreHomesOf homes xs
homes-finished homes n product live xs e are = homes-same homes (finish n product) live xs (finish_same n product) e are

pub homes-stored : (homes : Homes) (n : ℕ) (v : Val) (live xs : List Instance) → xs ≡ map (keep n v) live
    → AreHomesOf homes live → AreHomesOf homes xs
homes-stored homes n v live xs e are = homes-same homes (keep n v) live xs (λ i. kept_same (i.id.number == n) v i) e are

-- ---- an instance is added

oldest-more : (h : Home) (live : List Instance) (i : Instance)
    → oldest_at h (live ++ i ∷ []) ≡ joined (oldest_at h live) (lives_at h i) i.id.number
oldest-more h live i = grind (arith, i.id.number, find-append)

-- ---- an instance goes

pub left-elsewhere : (o : Option ℕ) (n : ℕ) (next : Option ℕ) → left_of o false n next ≡ o
left-elsewhere (Some m) n next = refl
left-elsewhere None n next = refl

left-here : (n : ℕ) (next : Option ℕ) → left_of (Some n) true n next ≡ next
left-here n next = let itself : (n == n) ≡ true = grind arith in rw itself refl

left-older : (m n : ℕ) (here : Bool) (next : Option ℕ) → m < n → left_of (Some m) here n next ≡ Some m
left-older m n here next less = grind (arith, nat_tests, and-false)

removed_first : (h : Home) (i : Instance) (is : List Instance) (b : Bool)
    → oldest_at h is
    ≡ left_of (option_map (λ (j : Instance). j.id.number) (cond b (Some i) (living_at h is))) b i.id.number (oldest_at h is)
removed_first h i is b = grind (arith, i.id.number, left-here, left-elsewhere)

removed_later : (b here : Bool) (i : Instance) (o p : Option Instance) (n : ℕ) (next : Option ℕ) → i.id.number < n
    → option_map (λ (j : Instance). j.id.number) o ≡ left_of (option_map (λ (j : Instance). j.id.number) p) here n next
    → option_map (λ (j : Instance). j.id.number) (cond b (Some i) o)
    ≡ left_of (option_map (λ (j : Instance). j.id.number) (cond b (Some i) p)) here n next
removed_later b here i o p n next less rest = grind (arith, i.id.number, left-older)

oldest-removed : (h : Home) (low given : ℕ) (live : List Instance) (k : ℕ) (d : Instance) → RisesFrom low given live → k < length live
    → oldest_at h (remove live k)
    ≡ left_of (oldest_at h live) (lives_at h (get_or live k d)) (number_at live k d) (oldest_at h (drop k (remove live k)))
oldest-removed h low given [] k d r within = absurd (omega (arith, within))
oldest-removed h low given (i ∷ is) zero d r within = removed_first h i is (lives_at h i)
oldest-removed h low given (i ∷ is) (suc k) d r within =
    let less : k < length is = omega (arith, within) in
    removed_later (lives_at h i) (lives_at h (get_or is k d)) i (living_at h (remove is k)) (living_at h is) (number_at is k d)
    (oldest_at h (drop k (remove is k))) (above i.id.number given is k d r.2 less) (oldest-removed h i.id.number given is k d r.2 less)

-- what is kept behind the one at a place is right once it is gone
pub homes-removed : (homes new : Homes) (given n : ℕ) (live : List Instance) (k : ℕ) (i : Instance) → IsRising given live
    → AreHomesOf homes live → IsPlace live n (Some k) → i ≡ get_or live k i
    → ((h : Home) → kept_at new h ≡ left_of (kept_at homes h) (lives_at h i) i.id.number (oldest_at h (drop k (remove live k))))
    → AreHomesOf new (remove live k)
homes-removed homes new given n live k i r are place at kept h = grind (arith, place.0, i.id.number, drop, oldest-removed)

-- who has no home is kept nowhere
abbrev IsNobodys : Instance → Type 0
IsNobodys i = home_of i.id.bean i.owner ≡ None

nobodys : (i : Instance) (h : Home) → IsNobodys i → lives_at h i ≡ false
nobodys i h e = lives_home h i.id.bean i.owner ∙ ap (λ o. is_this o h) e

pub joined-nobodys : (i : Instance) (h : Home) (o : Option ℕ) → None ≡ home_of i.id.bean i.owner
    → o ≡ joined o (lives_at h i) i.id.number
joined-nobodys i h o e = grind (arith, i.id.number, nobodys)

-- ---- an instance is begun

pub homes-more : (homes new : Homes) (live : List Instance) (i : Instance) → AreHomesOf homes live
    → ((h : Home) → kept_at new h ≡ joined (kept_at homes h) (lives_at h i) i.id.number) → AreHomesOf new (live ++ i ∷ [])
homes-more homes new live i are kept h =
    kept h ∙ ap (λ o. joined o (lives_at h i) i.id.number) (are h) ∙ sym (oldest-more h live i)
