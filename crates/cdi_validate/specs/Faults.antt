-- The faults of a deployment (CDI 4.0, Problems detected automatically by the container).
use Rattle.std.specs.Prelude.{◌≡◌, ◌≢◌, AllPairs, Contains, ℕ, nat_eq, Bool, true, List, [], ◌∷◌, ◌++◌, map, filter, if◌then◌else◌}
use Rattle.std.specs.List.{flat_map, starts_with}
use Rattle.std.specs.List.Sorted.{IsStrictlySortedBy}
use Rattle.std.specs.Option.{option_to_list}
use Rattle.cdi_bodies.specs.Book.{Promised}
use Rattle.cdi_model.specs.Bytes.{byte_order, dot}
use Rattle.cdi_model.specs.Decl.{kind_of, name_of_decl}
use Rattle.cdi_model.specs.DeclList.{AreDistinct}
use Rattle.cdi_model.specs.Grammar.{is_name}
use Rattle.cdi_model.specs.declared.decl.Decl.{Decl}
use Rattle.cdi_match.specs.Order.{in_order}
use Rattle.cdi_effective.specs.Beans.{beans}
use Rattle.cdi_effective.specs.declared.records.BeanId.{BeanId}
use Rattle.cdi_effective.specs.declared.records.Effective.{Effective}
use Rattle.cdi_resolve.specs.Choices.{chosen_by_name}
use Rattle.cdi_faults.specs.Codes.{all_codes}
use Rattle.cdi_faults.specs.declared.fault.Code.{Code}
use Rattle.cdi_faults.specs.declared.fault.Fault.{Fault}
use Rattle.cdi_faults.specs.declared.fault.Fault.TheVariants as faults_are
use Rattle.cdi_faults.specs.FaultText.{in_text_order, text_of_fault}
use Rattle.cdi_subjects.specs.Subjects.{is_ambiguous, subjects_at_fault}
use Rattle.cdi_validate.specs.Circles.{circular}
use Rattle.cdi_validate.specs.Twice.{specialized_twice}

-- the faults of a declaration of one code, by the texts of its subjects
abbrev pub faults_of_code : List Decl → List Promised → Decl → Code → List Fault
faults_of_code ds book d code =
    map (λ m. faults_are.Declared code (kind_of d) (name_of_decl d) m) (in_text_order (subjects_at_fault code ds book d))

abbrev pub faults_of : List Decl → List Promised → Decl → List Fault
faults_of ds book d = flat_map (faults_of_code ds book d) all_codes

-- the name of an enabled bean, if it has one
abbrev pub enabled_name : Effective → List (List ℕ)
enabled_name b = if b.is_enabled then option_to_list b.name else []

-- the names of enabled beans, each once, in byte order
abbrev pub enabled_names : List Effective → List (List ℕ)
enabled_names bs = in_order (flat_map enabled_name bs)

-- those of which no bean is chosen
abbrev pub name_clashes : List Effective → List Fault
name_clashes bs = map faults_are.NameClash (filter (λ n. is_ambiguous (chosen_by_name bs n)) (enabled_names bs))

-- the second begins with the first and a dot
abbrev pub goes_on : List ℕ → List ℕ → Bool
goes_on x y = starts_with nat_eq y (x ++ dot ∷ [])

-- pairs of them
abbrev pub name_prefixes : List Effective → List Fault
name_prefixes bs = flat_map (λ x. map (faults_are.NamePrefix x) (filter (goes_on x) (enabled_names bs))) (enabled_names bs)

-- the fault of a dependent bean that needs itself
abbrev pub circle : BeanId → Fault
circle id = faults_are.Circular id.class id.producer

abbrev pub circles : List Decl → List Fault
circles ds = map circle (circular ds)

-- where these bodies are stored: the declarations in order, each with its faults by code and then by text; then the names, then
-- the circles, and then those of two beans that specialize one (profile)
unfoldable pub faults : List Decl → List Promised → List Fault
faults ds book = flat_map (faults_of ds book) ds ++ name_clashes (beans ds) ++ name_prefixes (beans ds) ++ circles ds
    ++ specialized_twice ds

-- Where no two declarations have one kind and name, no fault stands twice.
abbrev pub FaultsStandOnce : Type 0
FaultsStandOnce = (ds : List Decl) (book : List Promised) → AreDistinct ds → AllPairs (λ f g. f ≢ g) (faults ds book)

-- ---- the faults of several beans

-- the lines that some faults print rise in byte order
abbrev pub LinesRise : List Fault → Type 0
LinesRise fs = IsStrictlySortedBy byte_order (map text_of_fault fs)

-- The second is the first, a dot and a text, which is a name where the second is one by the grammar.
pub record IsNameBehind (x y : List ℕ) : Type 0 where
  pub rest : List ℕ
  pub joined : y ≡ x ++ dot ∷ rest
  pub named : is_name y ≡ true → is_name rest ≡ true

-- Of the two names of a prefix the longer is the shorter, a dot and a text, which is a name where the longer is one by the grammar.
abbrev pub PrefixesGoOn : Type 0
PrefixesGoOn = (ds : List Decl) (book : List Promised) (x y : List ℕ) → Contains (faults ds book) (faults_are.NamePrefix x y)
    → IsNameBehind x y
