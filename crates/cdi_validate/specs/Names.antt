-- The faults of names, as they are found.
use Rattle.std.specs.Prelude.{◌≡◌, ℕ, Bool, true, false, ◌&&◌, List, [], ◌++◌, ◌∷◌, map, filter, fold, nat_eq, Option, Some, None}
use Rattle.std.specs.Prelude.{unwrap_or, if◌then◌else◌}
use Rattle.std.specs.BTreeMap.{BTreeMap, get}
use Rattle.std.specs.Cmp.Lexicographic.{slice_cmp}
use Rattle.std.specs.Ordering.{nat_cmp}
use Rattle.std.specs.List.{slice_get}
use Rattle.cdi_model.specs.Bytes.{dot}
use Rattle.cdi_model.specs.Grammar.{is_name}
use Rattle.cdi_match.specs.Chain.{has}
use Rattle.cdi_effective.specs.declared.records.Effective.{Effective}
use Rattle.cdi_resolve.specs.Choices.{candidate, is_named, named}
use Rattle.cdi_resolve.specs.Leaders.{nobody, with_candidate}
use Rattle.cdi_resolve.specs.declared.leaders.Leaders.{Leaders}
use Rattle.cdi_faults.specs.declared.fault.Fault.{Fault}
use Rattle.cdi_faults.specs.declared.fault.Fault.TheVariants as faults_are
use Rattle.cdi_validate.specs.Faults.{goes_on}

-- all are names by the grammar
abbrev pub AreNames : List (List ℕ) → Type 0
AreNames names = (s : List ℕ) → has names s ≡ true → is_name s ≡ true

-- the leaders of some beans: none of none
abbrev pub leaders_in : List Effective → Option Leaders
leaders_in [] = None
leaders_in (b ∷ bs) = Some (fold with_candidate nobody (map candidate (b ∷ bs)))

-- the leaders of a name with a bean beside those that had it, where the bean is enabled and has it
abbrev pub with_bean : Option Leaders → Effective → List ℕ → Option Leaders
with_bean leaders b n = if b.is_enabled && is_named n b.name
    then Some (with_candidate (unwrap_or leaders nobody) (candidate b))
    else leaders

-- each name of enabled beans has the leaders of those that have it
abbrev pub AreLed : BTreeMap (List ℕ) Leaders → List Effective → Type 0
AreLed leaders bs = (s : List ℕ) → get (slice_cmp nat_cmp) leaders s ≡ leaders_in (named bs s)

abbrev pub is_dot : Option ℕ → Bool
is_dot None = false
is_dot (Some byte) = nat_eq dot byte

-- a dot is the i-th byte
abbrev pub has_dot_at : List ℕ → ℕ → Bool
has_dot_at bytes i = is_dot (slice_get bytes i)

-- each name with those after it that go on behind it
abbrev pub prefix_pairs : List (List ℕ) → List Fault
prefix_pairs [] = []
prefix_pairs (x ∷ xs) = map (faults_are.NamePrefix x) (filter (goes_on x) xs) ++ prefix_pairs xs
