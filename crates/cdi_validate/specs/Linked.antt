-- The chains of enabled beans, as they are found.
use Rattle.std.specs.Prelude.{◌≡◌, ◌<◌, ℕ, Bool, false, ◌&&◌, List, [], ◌∷◌, map, filter, length, nat_eq, position, slice_index_or}
use Rattle.std.specs.Prelude.{Option, if◌then◌else◌}
use Rattle.std.specs.List.{find, flat_map, list_any}
use Rattle.std.specs.Option.{option_map, option_to_list}
use Rattle.cdi_model.specs.DeclList.{is_of}
use Rattle.cdi_model.specs.declared.decl.BeanDecl.{BeanDecl}
use Rattle.cdi_model.specs.declared.decl.Decl.{Decl}
use Rattle.cdi_model.specs.declared.decl.Decl.TheVariants as decls
use Rattle.cdi_model.specs.declared.decl.Kind.TheVariants as kinds
use Rattle.cdi_effective.specs.Records.{records_in}
use Rattle.cdi_effective.specs.Specialized.{behind, class_names}
use Rattle.cdi_effective.specs.declared.records.Effective.{Effective}
use Rattle.cdi_faults.specs.declared.fault.Fault.{Fault}
use Rattle.cdi_validate.specs.declared.twice.BeanChain.{BeanChain}
use Rattle.cdi_validate.specs.declared.twice.Link.{Link}
use Rattle.cdi_validate.specs.Twice.{enabled_beans, of_pairs, twice}

-- ---- which beans have a chain of more than themselves

-- the enabled beans that say that they specialize another
abbrev pub specializing : List Decl → List BeanDecl
specializing ds = filter (λ b. b.specializes) (enabled_beans ds)

-- the first of some beans is enabled
abbrev pub is_first_enabled : List Effective → Bool
is_first_enabled [] = false
is_first_enabled (bean ∷ beans) = bean.is_enabled

-- the declaration of a bean that says so, where the bean that is found by its name is enabled
abbrev pub specializing_by : List Decl → Decl → List BeanDecl
specializing_by ds (decls.Bean b) = if b.specializes && is_first_enabled (records_in ds b.name) then b ∷ [] else []
specializing_by ds d = []

-- ---- links

-- a class with the position of the declaration of its bean, if there is one
abbrev pub link_to : List Decl → List ℕ → List Link
link_to ds class =
    map (λ i. record { position = i; class = class }) (option_to_list (position (is_of kinds.Bean class) ds))

abbrev pub links_to : List Decl → List (List ℕ) → List Link
links_to ds classes = flat_map (link_to ds) classes

-- those to the beans behind a bean
abbrev pub links_behind : List Decl → BeanDecl → List Link
links_behind ds b = links_to ds (class_names (behind ds b))

-- ---- marks

-- one of some links has the position
abbrev pub has_position : List Link → ℕ → Bool
has_position links i = list_any (λ link. nat_eq link.position i) links

abbrev pub is_marked : List Bool → ℕ → Bool
is_marked marks i = slice_index_or marks i false

-- of so many positions just those of some links are marked
abbrev pub AreMarked : ℕ → List Link → List Bool → Type 0
AreMarked n links marks = (i : ℕ) → i < n → is_marked marks i ≡ has_position links i

-- the class of the first of some links whose position is marked
abbrev pub first_marked : List Link → List Bool → Option (List ℕ)
first_marked links marks = option_map (λ link. link.class) (find (λ link. is_marked marks link.position) links)

-- ---- chains

-- this is kept of a bean
pub record KeepsChain (ds : List Decl) (chain : BeanChain) (b : BeanDecl) : Type 0 where
  pub named : chain.class ≡ b.name
  pub linked : chain.behind.items ≡ links_behind ds b
  pub marked : AreMarked (length ds) (links_behind ds b) chain.marks.items

-- the fault of two chains, where they share a class behind their beans
abbrev pub faults_of_chains : BeanChain → BeanChain → List Fault
faults_of_chains a b = map (twice a.class b.class) (option_to_list (first_marked a.behind.items b.marks.items))

-- those of all: each with each after it
abbrev pub faults_between : List BeanChain → List Fault
faults_between chains = of_pairs faults_of_chains chains
