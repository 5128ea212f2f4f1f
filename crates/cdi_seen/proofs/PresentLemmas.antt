-- Declarations that are present.
use Rattle.cdi_seen.proofs.Common.{◌≡◌, ℕ, Bool, true, cond, List, [], ◌∷◌, Some, ap, ◌∙◌, list_any, AreDistinct, Decl, IsPresent, key_of}
use Rattle.cdi_seen.proofs.Common.{kind_of, name_of_decl, ◌≢◌, ◌<◌, zero, suc, inl, inr, arith, AllByRecursion, false≢true, or_cases}
use Rattle.cdi_seen.proofs.Common.{same_key_equiv, find_decl, Kind, length}
use Rattle.std.specs.Prelude.{slice_index_or}
use Rattle.cdi_effective.proofs.PlaceLemmas.{other-key}

-- ---- each declaration of a list is present, where no two have one key

present-after : (d e : Decl) (ds : List Decl) → key_of d ≢ key_of e → IsPresent ds e → IsPresent (d ∷ ds) e
present-after d e ds other found =
    ap (λ b. cond b (Some d) (find_decl (kind_of e) (name_of_decl e) ds)) (other-key e d other) ∙ found

from-apart : (d : Decl) (ds : List Decl) → ((k : ℕ) (f : Decl) → k < length ds → key_of d ≢ key_of (slice_index_or ds k f))
    → AllByRecursion (λ e. key_of d ≢ key_of e) ds
from-apart d [] h = tt
from-apart d (e ∷ es) h = (h zero e (omega arith), from-apart d es (λ k f less. h (suc k) f (omega (arith, less))))

-- no other has the key of the first, and none of the others that of another
pub all_apart : (d : Decl) (ds : List Decl) → AreDistinct (d ∷ ds) → AllByRecursion (λ e. key_of d ≢ key_of e) ds
all_apart d ds distinct = from-apart d ds (λ k f less. distinct zero (suc k) f (omega arith) (omega (arith, less)))

pub after_first : (d : Decl) (ds : List Decl) → AreDistinct (d ∷ ds) → AreDistinct ds
after_first d ds distinct = λ i j f before within. distinct (suc i) (suc j) f (omega (arith, before)) (omega (arith, within))

pub all_present : (ds : List Decl) → AreDistinct ds → AllByRecursion (IsPresent ds) ds
all_present [] distinct = tt
all_present (d ∷ ds) distinct = (
  ap (λ b. cond b (Some d) (find_decl (kind_of d) (name_of_decl d) ds)) (same_key_equiv.refl (key_of d)),
  rest ds (all_apart d ds distinct) (all_present ds (after_first d ds distinct)),
)
  where
    rest : (es : List Decl) → AllByRecursion (λ e. key_of d ≢ key_of e) es → AllByRecursion (IsPresent ds) es
        → AllByRecursion (IsPresent (d ∷ ds)) es
    rest [] apart all = tt
    rest (e ∷ es) apart all = (present-after d e ds apart.0 all.0, rest es apart.1 all.1)

-- ---- what holds of each, and of some

pub each_all : {P Q : Decl → Type 0} → ((d : Decl) → P d → Q d) → (ds : List Decl) → AllByRecursion P ds → AllByRecursion Q ds
each_all f [] all = tt
each_all f (d ∷ ds) all = (f d all.0, each_all f ds all.1)

pub witness : (P : Decl → Type 0) (p : Decl → Bool) (ds : List Decl) → AllByRecursion P ds → list_any p ds ≡ true
    → (d : Decl) × P d × (p d ≡ true)
witness P p [] all h = absurd (false≢true h)
witness P p (d ∷ ds) all h = elim (or_cases (p d) (list_any p ds) h) [
  | inl here ↦ (d, all.0, here)
  | inr there ↦ witness P p ds all.1 there
]

-- a test passes for some where it does for one that is found
pub found_any : (kind : Kind) (name : List ℕ) (ds : List Decl) (d : Decl) (p : Decl → Bool) → find_decl kind name ds ≡ Some d
    → p d ≡ true → list_any p ds ≡ true
found_any kind name [] d p found h = absurd (cc)
found_any kind name (e ∷ es) d p found h = grind (arith, found_any kind name es d p)
