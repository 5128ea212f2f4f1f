-- The places of beans among the declarations, and what their chains take from each place.
use Rattle.std.specs.Prelude.{◌≡◌, ⊤, ℕ, Bool, false, ◌||◌, List, [], ◌∷◌, ◌++◌, length, Option, Some, None, option_map}
use Rattle.std.specs.Prelude.{slice_index_or}
use Rattle.std.specs.List.{position, slice_get}
use Rattle.std.specs.Option.{option_or}
use Rattle.cdi_match.specs.Bindings.{uses_in}
use Rattle.cdi_match.specs.Chain.{has}
use Rattle.cdi_effective.specs.Enabled.{is_enabled}
use Rattle.cdi_effective.specs.declared.gained.Gained.{Gained}
use Rattle.cdi_effective.specs.declared.given.Given.{Given}
use Rattle.cdi_model.specs.DeclList.{is_of}
use Rattle.cdi_model.specs.declared.decl.BeanDecl.{BeanDecl}
use Rattle.cdi_model.specs.declared.decl.Decl.{Decl}
use Rattle.cdi_model.specs.declared.decl.Decl.TheVariants as decls
use Rattle.cdi_model.specs.declared.decl.Kind.TheVariants as kinds
use Rattle.cdi_effective.specs.Given.{nothing}
use Rattle.cdi_effective.specs.Specialized.{given_of, is_replaced, name_alone, replaced_by, specialized}
use Rattle.cdi_effective.specs.declared.chains.Link.{Link}

-- the place of the declaration of a bean
abbrev pub place_of : List Decl → List ℕ → Option ℕ
place_of ds class = position (is_of kinds.Bean class) ds

-- the bean is declared at the place
abbrev pub IsPlace : List Decl → ℕ → BeanDecl → Type 0
IsPlace ds place bean = (place_of ds bean.name ≡ Some place) × (slice_get ds place ≡ Some (decls.Bean bean))

-- these beans are declared at these places
abbrev pub ArePlaces : List Decl → List ℕ → List BeanDecl → Type 0
ArePlaces ds [] [] = ⊤
ArePlaces ds (place ∷ places) (bean ∷ beans) = IsPlace ds place bean × ArePlaces ds places beans
ArePlaces ds _ _ = ⊥

abbrev pub place_of_next : List Decl → Option BeanDecl → Option ℕ
place_of_next ds None = None
place_of_next ds (Some next) = place_of ds next.name

abbrev pub next_in : Option Link → Option ℕ
next_in None = None
next_in (Some link) = link.next

-- what chains take from a declaration: of a bean the place of the one that it specializes, what its stereotypes give, and its name by
-- itself
abbrev pub link_of : List Decl → Decl → Link
link_of ds (decls.Bean bean) = record {
  next = place_of_next ds (specialized ds bean);
  given = given_of ds bean.attributes;
  name = name_alone ds bean;
}
link_of ds other = record { next = None; given = nothing; name = None }

-- the place of the bean that the one at a place specializes
abbrev pub next_at : List Decl → ℕ → Option ℕ
next_at ds place = next_in (option_map (link_of ds) (slice_get ds place))

-- a bean is offered, where its stereotypes give this
abbrev pub is_offered_by : BeanDecl → Given → Bool
is_offered_by bean given = is_enabled (bean.attributes.is_alternative || given.is_alternative) bean.priority

-- what the next bean of a chain gives is added
pub record AddsGained (ds : List Decl) (bean : BeanDecl) (old new : Gained) : Type 0 where
  pub name : new.name ≡ option_or (name_alone ds bean) old.name
  pub declared : uses_in new.declared.items ≡ uses_in old.declared.items ++ bean.attributes.qualifiers
  pub last : new.last.now ≡ bean.attributes.qualifiers

-- the beans that a declaration replaces are marked at their places, beside those that were
abbrev pub MarksReplaced : List Decl → Decl → List Bool → List Bool → Type 0
MarksReplaced ds d old new = (class : List ℕ) (place : ℕ) → place_of ds class ≡ Some place
    → slice_index_or new place false ≡ (slice_index_or old place false || has (replaced_by ds d) class)

-- at the place of each bean it says whether it is replaced
pub record TellReplaced (ds : List Decl) (marks : List Bool) : Type 0 where
  pub sized : length marks ≡ length ds
  pub told : (class : List ℕ) (place : ℕ) → place_of ds class ≡ Some place → slice_index_or marks place false ≡ is_replaced ds class
