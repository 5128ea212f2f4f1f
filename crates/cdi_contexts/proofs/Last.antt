-- The youngest of some instances.
use Rattle.std.proofs.Common.{◌≡◌, ℕ, ◌<◌, ◌≤◌, Bool, true, ◌==◌, cond, List, [], ◌∷◌, ◌++◌, reverse, Option, Some, None, IsSome, IfSome}
use Rattle.std.proofs.Common.{refl, arith, subst, sym}
use Rattle.std.specs.{List.find, List.AllByRecursion, Option.option_map}
use Rattle.std.proofs.lemmas.List.{reverse-append}
use Rattle.cdi_model.specs.declared.decl.Scope.{Scope}
use Rattle.cdi_contexts.proofs.Rising.{rises_bound}
use Rattle.cdi_contexts.specs.Standing.{last_where, last_of, last_in, numbered, IsLive}
use Rattle.cdi_contexts.specs.{Owned.is_part_of, Rising.IsRising, Rising.RisesFrom, Rising.IsOwnerOf}
use Rattle.cdi_contexts.specs.declared.instance.{Instance.Instance, InstanceId.InstanceId, Owner.Owner, Owner.TheVariants.Point}

-- ---- what stands of each live instance

-- its number was given, its owner is older, and it is live
abbrev pub Stands : ℕ → List Instance → Instance → Type 0
Stands given live i = IsOwnerOf i.id.number i.owner × IsLive given live i.id.number

here_first : (b : Bool) (i : Instance) (o : Option Instance) → b ≡ true → IsSome (cond b (Some i) o)
here_first b i o h = grind arith

here_later : (b : Bool) (i : Instance) (o : Option Instance) → IsSome o → IsSome (cond b (Some i) o)
here_later b i o h = grind arith

all_later : (given : ℕ) (i : Instance) (live is : List Instance) → AllByRecursion (Stands given live) is
    → AllByRecursion (Stands given (i ∷ live)) is
all_later given i live [] a = tt
all_later given i live (j ∷ js) a =
    let still = here_later (i.id.number == j.id.number) i (numbered live j.id.number) a.0.1.1 in
    ((a.0.0, (a.0.1.0, still)), all_later given i live js a.1)

all_stand : (low given : ℕ) (live : List Instance) → RisesFrom low given live → AllByRecursion (Stands given live) live
all_stand low given [] r = tt
all_stand low given (i ∷ is) r =
    grind (arith, all_stand i.id.number given is r.2, i.id.number, r.1, r.2, here_first, rises_bound, all_later)

-- ---- what is found from the end

all_end : (P : Instance → Type 0) (xs : List Instance) (x : Instance) → AllByRecursion P xs → P x → AllByRecursion P (xs ++ x ∷ [])
all_end P [] x a p = (p, tt)
all_end P (y ∷ ys) x a p = (a.0, all_end P ys x a.1 p)

all_reversed : (P : Instance → Type 0) (xs : List Instance) → AllByRecursion P xs → AllByRecursion P (reverse xs)
all_reversed P [] a = tt
all_reversed P (x ∷ xs) a =
    subst (AllByRecursion P) (sym (reverse-append (x ∷ []) xs)) (all_end P (reverse xs) x (all_reversed P xs a.1) a.0)

-- it is one of which P holds, with such an owner
abbrev pub IsSuch : (Instance → Type 0) → (Owner → Bool) → InstanceId → Type 0
IsSuch P f d = (i : Instance) × P i × (f i.owner ≡ true) × (i.id ≡ d)

such_first : (P : Instance → Type 0) (f : Owner → Bool) (d : InstanceId) (i : Instance) (b : Bool) (o : Option Instance)
    → f i.owner ≡ b → P i → (option_map (λ i. i.id) o ≡ Some d → IsSuch P f d)
    → option_map (λ i. i.id) (cond b (Some i) o) ≡ Some d → IsSuch P f d
such_first P f d i b o h p rest e = grind arith

such_found : (P : Instance → Type 0) (f : Owner → Bool) (d : InstanceId) (xs : List Instance) → AllByRecursion P xs
    → option_map (λ i. i.id) (find (λ i. f i.owner) xs) ≡ Some d → IsSuch P f d
such_found P f d [] a e = cc
such_found P f d (x ∷ xs) a e =
    such_first P f d x (f x.owner) (find (λ i. f i.owner) xs) refl a.0 (such_found P f d xs a.1) e

-- what holds of each live instance holds of the youngest with such an owner
pub last_of_all : (P : Instance → Type 0) (f : Owner → Bool) (live : List Instance) (d : InstanceId) → AllByRecursion P live
    → last_where f live ≡ Some d → IsSuch P f d
last_of_all P f live d a e = such_found P f d (reverse live) (all_reversed P live a) e

last_such : (f : Owner → Bool) (given : ℕ) (live : List Instance) (d : InstanceId) → IsRising given live
    → last_where f live ≡ Some d → IsSuch (Stands given live) f d
last_such f given live d r e =
    last_of_all (Stands given live) f live d (all_stand 0 given live r) e

-- ---- the youngest dependent, and the youngest in a context

pub part_above : (b n : ℕ) (o : Owner) → IsOwnerOf b o → is_part_of n o ≡ true → n < b
part_above b n (Point m actor p) h e = let k : m ≡ n = grind arith in subst (λ (x : ℕ). x < b) k h
part_above b n other h e = cc

live_along : (P : ℕ → Type 0) (a b : InstanceId) → a ≡ b → P a.number → P b.number
live_along P a b e p = subst (λ (x : InstanceId). P x.number) e p

pub young_if : (given n : ℕ) (live : List Instance) (o : Option InstanceId) → IsRising given live → o ≡ last_of live n
    → IfSome o (λ d. (n < d.number) × (d.number ≤ given) × IsSome (numbered live d.number))
young_if given n live (Some d) r e = grind (arith, last_such, part_above, live_along)
young_if given n live None r e = tt

pub lives_if : (given : ℕ) (scope : Scope) (live : List Instance) (o : Option InstanceId) → IsRising given live
    → o ≡ last_in live scope → IfSome o (λ d. IsLive given live d.number)
lives_if given scope live (Some d) r e = grind (arith, last_such, live_along)
lives_if given scope live None r e = tt
