-- Specialization (CDI 4.0, Specialization).
use Rattle.std.specs.Prelude.{◌≡◌, ◌≢◌, ◌≤◌, ◌↔◌, ℕ, zero, suc, Bool, true, ◌||◌, List, [], ◌∷◌, length, map, AllPairs}
use Rattle.std.specs.Prelude.{Option, Some, None, if◌then◌else◌}
use Rattle.std.specs.List.{flat_map, list_any}
use Rattle.std.specs.Option.{option_or, option_to_list}
use Rattle.cdi_model.specs.BeanName.{own_name, default_name}
use Rattle.cdi_model.specs.DeclList.{find_decl, limit}
use Rattle.cdi_model.specs.declared.decl.Attributes.{Attributes}
use Rattle.cdi_model.specs.declared.decl.BeanDecl.{BeanDecl}
use Rattle.cdi_model.specs.declared.decl.Decl.{Decl}
use Rattle.cdi_model.specs.declared.decl.Decl.TheVariants as decls
use Rattle.cdi_model.specs.declared.decl.Kind.TheVariants as kinds
use Rattle.cdi_model.specs.declared.quals.Qual.{Qual}
use Rattle.cdi_match.specs.Chain.{Chain, has, leads}
use Rattle.cdi_match.specs.Stereotypes.{stereotype_decls}
use Rattle.cdi_effective.specs.Disposers.{find_bean}
use Rattle.cdi_effective.specs.Enabled.{is_enabled}
use Rattle.cdi_effective.specs.Given.{given_by}
use Rattle.cdi_effective.specs.declared.given.Given.{Given}

-- ---- the chain of a bean

-- the class that a type extends
abbrev pub extended : Option Decl → Option (List ℕ)
extended (Some (decls.Type d)) = d.extends
extended other = None

-- the bean of a class, where one is named
abbrev pub bean_named : List Decl → Option (List ℕ) → Option BeanDecl
bean_named ds None = None
bean_named ds (Some class) = find_bean class ds

-- the bean that a bean specializes: where it says so, the bean of the class that its class extends, if there is one
abbrev pub specialized : List Decl → BeanDecl → Option BeanDecl
specialized ds b = if b.specializes then bean_named ds (extended (find_decl kinds.Type b.name ds)) else None

-- the bean that comes next, unless it is met again, and what it leads to
abbrev pub on_from : List (List ℕ) → (BeanDecl → List BeanDecl) → Option BeanDecl → List BeanDecl
on_from met more None = []
on_from met more (Some s) = if has met s.name then [] else s ∷ more s

-- the beans after b, of whose names none was met, at most so many
unfoldable pub chain_behind : ℕ → List Decl → List (List ℕ) → BeanDecl → List BeanDecl
chain_behind zero ds met b = []
chain_behind (suc n) ds met b = on_from met (λ s. chain_behind n ds (s.name ∷ met) s) (specialized ds b)

-- those after a bean: the one that it specializes, the one that this specializes, and so on, ending before a repeat
unfoldable pub behind : List Decl → BeanDecl → List BeanDecl
behind ds b = chain_behind limit ds (b.name ∷ []) b

-- the chain of a bean: it, and those after it
abbrev pub chain : List Decl → BeanDecl → List BeanDecl
chain ds b = b ∷ behind ds b

abbrev pub class_names : List BeanDecl → List (List ℕ)
class_names beans = map (λ b. b.name) beans

-- the class of the bean that a bean specializes
abbrev pub class_after : List Decl → Option BeanDecl → List (List ℕ)
class_after ds None = []
class_after ds (Some b) = class_names (option_to_list (specialized ds b))

abbrev pub next_class : List Decl → List ℕ → List (List ℕ)
next_class ds class = class_after ds (find_bean class ds)

-- the bean of class x says that it specializes, its class extends y, and y has a bean
abbrev pub specializes : List Decl → List ℕ → List ℕ → Bool
specializes ds x y = leads (next_class ds) x y

-- In the chain of a declared bean are exactly those to which steps of specialization lead from it, each once.
pub record IsChainOf (ds : List Decl) (b : BeanDecl) (beans : List BeanDecl) : Type 0 where
  pub each : (y : List ℕ) → (has (class_names beans) y ≡ true) ↔ Chain (specializes ds) b.name y
  pub once : AllPairs (λ x y. x ≢ y) (class_names beans)

abbrev pub ChainsAreThese : Type 0
ChainsAreThese = (ds : List Decl) (b : BeanDecl) → length ds ≤ limit → find_bean b.name ds ≡ Some b → IsChainOf ds b (chain ds b)

-- ---- what a bean gets by its chain

-- what its stereotypes give a bean
abbrev pub given_of : List Decl → Attributes → Given
given_of ds attributes = given_by (stereotype_decls ds attributes.stereotypes)

-- the name that a bean gives itself, or else its default name where a stereotype gives that (CDI 4.0, Bean names; Declaring a @Named
-- stereotype)
abbrev pub name_of : Attributes → List ℕ → Given → Option (List ℕ)
name_of attributes default given = option_or (own_name attributes default) (if given.is_named then Some default else None)

-- that of a managed bean, by itself
abbrev pub name_alone : List Decl → BeanDecl → Option (List ℕ)
name_alone ds b = name_of b.attributes (default_name b.name) (given_of ds b.attributes)

-- the name of the last of some beans which has one (profile)
abbrev pub last_name : List Decl → List BeanDecl → Option (List ℕ)
last_name ds [] = None
last_name ds (b ∷ bs) = option_or (last_name ds bs) (name_alone ds b)

-- the qualifiers that they declare
abbrev pub all_declared : List BeanDecl → List Qual
all_declared beans = flat_map (λ b. b.attributes.qualifiers) beans

-- those that the last of them declares, or else these
abbrev pub last_declared : List Qual → List BeanDecl → List Qual
last_declared quals [] = quals
last_declared quals (b ∷ bs) = last_declared b.attributes.qualifiers bs

-- ---- which beans are replaced

-- a bean is offered where it is no alternative, or an alternative with a priority
abbrev pub is_offered : List Decl → BeanDecl → Bool
is_offered ds b = is_enabled (b.attributes.is_alternative || (given_of ds b.attributes).is_alternative) b.priority

-- the classes of the beans that an offered bean replaces: those after it in its chain
unfoldable pub replaced_by : List Decl → Decl → List (List ℕ)
replaced_by ds (decls.Bean b) = if is_offered ds b then class_names (behind ds b) else []
replaced_by ds other = []

-- an offered bean has the bean of the class after itself in its chain
unfoldable pub is_replaced : List Decl → List ℕ → Bool
is_replaced ds class = list_any (λ d. has (replaced_by ds d) class) ds
