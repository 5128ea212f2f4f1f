-- How the live instances change under the steps of a standing.
use Rattle.std.proofs.Common.{◌≡◌, ℕ, ◌+◌, ◌<◌, ◌≤◌, Bool, true, not, ◌==◌, cond, if◌then◌else◌, List, [], ◌∷◌, ◌++◌, map, Option, Some}
use Rattle.std.proofs.Common.{None, arith}
use Rattle.cdi_model.specs.declared.outcome.Val.{Val}
use Rattle.cdi_contexts.specs.{Rising.IsRising, Rising.RisesFrom, Rising.IsOwnerOf, Standing.without, Standing.finish, Standing.keep}
use Rattle.cdi_contexts.specs.declared.instance.{Instance.Instance, Owner.Owner}

pub rises_bound : (low given : ℕ) (live : List Instance) → RisesFrom low given live → low ≤ given
rises_bound low given [] r = r
rises_bound low given (i ∷ is) r = omega (arith, r.0, rises_bound i.id.number given is r.2)

pub rises_lower : (low high given : ℕ) (live : List Instance) → low ≤ high → RisesFrom high given live → RisesFrom low given live
rises_lower low high given [] h r = omega (arith, h, r)
rises_lower low high given (i ∷ is) h r = (omega (arith, h, r.0), r.1, r.2)

-- ---- an instance goes

rises_cond : (low given : ℕ) (b : Bool) (i : Instance) (is : List Instance) → low < i.id.number → IsOwnerOf i.id.number i.owner
    → RisesFrom i.id.number given is → RisesFrom low given (cond b (i ∷ is) is)
rises_cond low given b i is h o r = grind (arith, i.id.number, rises_lower)

rises-without : (low given n : ℕ) (live : List Instance) → RisesFrom low given live → RisesFrom low given (without n live)
rises-without low given n [] r = r
rises-without low given n (i ∷ is) r =
    rises_cond low given (not (i.id.number == n)) i (without n is) r.0 r.1 (rises-without i.id.number given n is r.2)

pub IsRising-without : (given n : ℕ) (live : List Instance) → IsRising given live → IsRising given (without n live)
IsRising-without given n live r = rises-without 0 given n live r

-- ---- an instance changes what it holds

-- it is the same one
abbrev pub IsSame : Instance → Instance → Type 0
IsSame i j = (j.id ≡ i.id) × (j.owner ≡ i.owner)

ready_same : (b : Bool) (i : Instance) → IsSame i (if b then record i { is_ready = true } else i)
ready_same b i = grind arith

produced_same : (b : Bool) (v : Val) (i : Instance) → IsSame i (if b then record i { is_ready = true; state = v } else i)
produced_same b v i = grind arith

pub kept_same : (b : Bool) (v : Val) (i : Instance) → IsSame i (if b then record i { state = v } else i)
kept_same b v i = grind arith

pub finish_same : (n : ℕ) (product : Option Val) (i : Instance) → IsSame i (finish n product i)
finish_same n None i = ready_same (i.id.number == n) i
finish_same n (Some v) i = produced_same (i.id.number == n) v i

rises-map : (low given : ℕ) (f : Instance → Instance) (live : List Instance) → ((i : Instance) → IsSame i (f i))
    → RisesFrom low given live → RisesFrom low given (map f live)
rises-map low given f [] same r = r
rises-map low given f (i ∷ is) same r =
    rw ((same i).0, (same i).1) (r.0, r.1, rises-map i.id.number given f is same r.2)

pub IsRising-finished : (given n : ℕ) (product : Option Val) (live : List Instance) → IsRising given live
    → IsRising given (map (finish n product) live)
IsRising-finished given n product live r = rises-map 0 given (finish n product) live (finish_same n product) r

pub IsRising-stored : (given n : ℕ) (v : Val) (live : List Instance) → IsRising given live → IsRising given (map (keep n v) live)
IsRising-stored given n v live r = rises-map 0 given (keep n v) live (λ i. kept_same (i.id.number == n) v i) r

-- ---- an instance is added

rises-more : (low given : ℕ) (live : List Instance) (i : Instance) → RisesFrom low given live → i.id.number ≡ given + 1
    → IsOwnerOf i.id.number i.owner → RisesFrom low (given + 1) (live ++ i ∷ [])
rises-more low given [] i r e o = (omega (arith, r, e), o, omega (arith, e))
rises-more low given (j ∷ js) i r e o = (r.0, r.1, rises-more j.id.number given js i r.2 e o)

pub IsRising-more : (given : ℕ) (live : List Instance) (i : Instance) → IsRising given live → i.id.number ≡ given + 1
    → IsOwnerOf i.id.number i.owner → IsRising (given + 1) (live ++ i ∷ [])
IsRising-more given live i r e o = rises-more 0 given live i r e o

-- ---- along equations

pub IsRising_along : (given : ℕ) (xs ys : List Instance) → ys ≡ xs → IsRising given xs → IsRising given ys
IsRising_along given xs ys e r = rw e r

pub IsOwnerOf_along : (a b : ℕ) (o : Owner) → a ≡ b → IsOwnerOf a o → IsOwnerOf b o
IsOwnerOf_along a b o e h = rw (← e) h
