-- Two enabled beans that specialize one bean (CDI 4.0, Inconsistent specialization).
use Rattle.std.specs.Prelude.{◌≡◌, AllPairs, ℕ, Bool, true, not, ◌&&◌, List, [], ◌∷◌, ◌++◌, map, fold, Option, if◌then◌else◌}
use Rattle.std.specs.BTreeMap.{insert_entry}
use Rattle.std.specs.List.{find, flat_map}
use Rattle.std.specs.Option.{option_to_list}
use Rattle.cdi_model.specs.Bytes.{byte_order}
use Rattle.cdi_model.specs.DeclList.{AreDistinct}
use Rattle.cdi_model.specs.declared.decl.BeanDecl.{BeanDecl}
use Rattle.cdi_model.specs.declared.decl.Decl.{Decl}
use Rattle.cdi_model.specs.declared.decl.Decl.TheVariants as decls
use Rattle.cdi_match.specs.Chain.{has}
use Rattle.cdi_effective.specs.Beans.{managed}
use Rattle.cdi_effective.specs.Specialized.{chain, class_names}
use Rattle.cdi_faults.specs.declared.fault.Fault.{Fault}
use Rattle.cdi_faults.specs.declared.fault.Fault.TheVariants as faults_are
use Rattle.cdi_faults.specs.FaultText.{text_of_fault}

-- ---- enabled beans

-- the declaration of a bean, where its managed bean is enabled
abbrev pub enabled_bean : List Decl → Decl → List BeanDecl
enabled_bean ds (decls.Bean b) = if (managed ds b).is_enabled then b ∷ [] else []
enabled_bean ds d = []

-- those of the enabled managed beans, in the order of the bean list
abbrev pub enabled_beans : List Decl → List BeanDecl
enabled_beans ds = flat_map (enabled_bean ds) ds

-- ---- what their chains share

-- the bean of the class is in the chain of the bean
abbrev pub is_in_chain : List Decl → BeanDecl → List ℕ → Bool
is_in_chain ds b class = has (class_names (chain ds b)) class

-- neither is in the chain of the other
abbrev pub are_apart : List Decl → BeanDecl → BeanDecl → Bool
are_apart ds a b = not (is_in_chain ds b a.name) && not (is_in_chain ds a b.name)

-- the first class of the chain of the one that is in the chain of the other
abbrev pub first_shared : List Decl → BeanDecl → BeanDecl → Option (List ℕ)
first_shared ds a b = find (is_in_chain ds b) (class_names (chain ds a))

-- two beans specialize the bean of a class
abbrev pub twice : List ℕ → List ℕ → List ℕ → Fault
twice first second class = faults_are.SpecializedTwice class first second

-- the fault of two beans of which neither is in the chain of the other, where their chains share a class
abbrev pub faults_of_two : List Decl → BeanDecl → BeanDecl → List Fault
faults_of_two ds a b = if are_apart ds a b then map (twice a.name b.name) (option_to_list (first_shared ds a b)) else []

-- what each of some gives with each after it
abbrev pub of_pairs : {X Y : Type 0} → (X → X → List Y) → List X → List Y
of_pairs f [] = []
of_pairs f (x ∷ later) = flat_map (f x) later ++ of_pairs f later

-- those of all enabled beans: each with each after it
abbrev pub faults_of_pairs : List Decl → List Fault
faults_of_pairs ds = of_pairs (faults_of_two ds) (enabled_beans ds)

-- ---- in order

-- a fault beside others at the line that it prints
abbrev pub with_line : List (List ℕ × Fault) → Fault → List (List ℕ × Fault)
with_line entries f = insert_entry byte_order entries (text_of_fault f) f

-- faults by their lines, in the byte order of these
abbrev pub by_line : List Fault → List (List ℕ × Fault)
by_line fs = fold with_line [] fs

abbrev pub in_line_order : List Fault → List Fault
in_line_order fs = map (λ entry. entry.1) (by_line fs)

-- the faults of the enabled beans, in the byte order of their lines (the order: profile)
unfoldable pub specialized_twice : List Decl → List Fault
specialized_twice ds = in_line_order (faults_of_pairs ds)

-- ---- two enabled beans whose chains share a class

-- They have one fault, about a class that is in both chains, and its line is one of those of the faults.
pub record AreTold (ds : List Decl) (a b : BeanDecl) : Type 0 where
  pub class : List ℕ
  pub first : is_in_chain ds a class ≡ true
  pub second : is_in_chain ds b class ≡ true
  pub alone : faults_of_two ds a b ≡ twice a.name b.name class ∷ []
  pub line : has (map text_of_fault (specialized_twice ds)) (text_of_fault (twice a.name b.name class)) ≡ true

-- Each two of them are told.
abbrev pub SharersAreTold : Type 0
SharersAreTold = (ds : List Decl) → AreDistinct ds
    → AllPairs (λ a b. (class : List ℕ) → is_in_chain ds a class ≡ true → is_in_chain ds b class ≡ true → AreTold ds a b) (enabled_beans ds)
