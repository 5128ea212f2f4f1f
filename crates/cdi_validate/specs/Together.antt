-- Where some declarations have no faults together: none of names, none of circles, and none of two beans that specialize one.
use Rattle.std.specs.Prelude.{◌≡◌, AllPairs, ℕ, Bool, true, false, not, ◌&&◌, ◌||◌, List, [], length, nat_eq}
use Rattle.std.specs.List.{flat_map, list_any, AllByRecursion}
use Rattle.std.specs.Str.{bytes_eq}
use Rattle.cdi_model.specs.Decl.{name_of_decl}
use Rattle.cdi_model.specs.Grammar.{is_name}
use Rattle.cdi_model.specs.declared.decl.Decl.{Decl}
use Rattle.cdi_model.specs.declared.decl.Decl.TheVariants as decls
use Rattle.cdi_match.specs.Chain.{Circle, leads}
use Rattle.cdi_effective.specs.Beans.{entries}
use Rattle.cdi_intercept.specs.Chains.{is_enabled}
use Rattle.cdi_observe.specs.Around.{names_of_bean}
use Rattle.cdi_validate.specs.Circles.{between, dependents, is_dependent, needs_in}
use Rattle.cdi_validate.specs.Faults.{enabled_name, goes_on}
use Rattle.cdi_validate.specs.Linked.{specializing_by}
use Rattle.cdi_validate.specs.Twice.{faults_of_two}

abbrev pub is_empty : {X : Type 0} → List X → Bool
is_empty xs = nat_eq (length xs) 0

-- ---- names

-- those of the enabled beans of a declaration
abbrev pub names_by : List Decl → Decl → List (List ℕ)
names_by ds d = flat_map enabled_name (entries ds d)

-- a declaration has none
abbrev pub is_nameless : List Decl → Decl → Bool
is_nameless ds d = is_empty (names_by ds d)

-- two names differ, and neither continues the other
pub record AreNamesApart (x y : List ℕ) : Type 0 where
  pub differ : bytes_eq x y ≡ false
  pub onward : goes_on x y ≡ false
  pub back : goes_on y x ≡ false

-- each two names of enabled beans of some declarations are
abbrev pub HaveNoClash : List Decl → List Decl → Type 0
HaveNoClash ds own = AllPairs AreNamesApart (flat_map (names_by ds) own)

-- ---- circles

-- the dependent beans of some declarations
abbrev pub dependents_in : List Decl → List Decl → List (List ℕ)
dependents_in ds own = dependents (flat_map (entries ds) own)

-- those of them that one of them needs by these declarations
abbrev pub next_in : List Decl → List Decl → List ℕ → List (List ℕ)
next_in ds own x = between (dependents_in ds own) (flat_map (needs_in ds) own) x

-- all have a name by the grammar
abbrev pub AreNamed : List Decl → Type 0
AreNamed ds = AllByRecursion (λ d. is_name (name_of_decl d) ≡ true) ds

-- none of them needs itself by these declarations
abbrev pub HaveNoCircle : List Decl → List Decl → Type 0
HaveNoCircle ds own = (x : List ℕ) → Circle (leads (next_in ds own)) x → ⊥

-- no dependent bean of a declaration needs anything, and an interceptor gives none anything to need
abbrev pub is_needless : List Decl → Decl → Bool
is_needless ds (decls.Bean b) = not (list_any is_dependent (entries ds (decls.Bean b)))
    || ((is_empty b.points && is_empty b.producers) && is_empty (names_of_bean ds b))
is_needless ds (decls.Interceptor i) = not (is_enabled i) || is_empty i.points
is_needless ds d = true

-- ---- chains

-- a declaration is not that of an enabled bean that says that it specializes another
abbrev pub is_chainless : List Decl → Decl → Bool
is_chainless ds d = is_empty (specializing_by ds d)

-- no two of the enabled beans of some declarations that say so specialize one bean
abbrev pub HaveNoneTwice : List Decl → List Decl → Type 0
HaveNoneTwice ds own = AllPairs (λ a b. faults_of_two ds a b ≡ []) (flat_map (specializing_by ds) own)
