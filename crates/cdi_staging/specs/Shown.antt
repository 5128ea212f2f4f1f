-- What the code has of interceptors and classes, as the definitions have it, and what is known of it.
use Rattle.std.specs.Prelude.{◌≡◌, ℕ, true, List, map, filter, Some}
use Rattle.cdi_model.specs.DeclList.{find_decl}
use Rattle.cdi_model.specs.declared.decl.Decl.{Decl}
use Rattle.cdi_model.specs.declared.decl.Decl.TheVariants as decls
use Rattle.cdi_model.specs.declared.decl.Kind.TheVariants as kinds
use Rattle.cdi_model.specs.declared.decl.PartDecl.{PartDecl}
use Rattle.cdi_match.specs.Chain.{has}
use Rattle.cdi_observe.specs.Kept.{Kept}
use Rattle.cdi_observe.specs.Lending.{are_answerable}
use Rattle.cdi_observe.specs.Wanted.{key_of_event}
use Rattle.cdi_staging.specs.Staged.{Around, targets}
use Rattle.cdi_staging.specs.declared.around.Around.{Around as Shown}
use Rattle.cdi_staging.specs.declared.class.Class.{Class}

abbrev pub around_in : Shown → Around
around_in a = (a.decl.now, a.targets.items)

-- the bean is declared, and that is chosen for its injection points
pub record IsClassOf (ds : List Decl) (c : Class) : Type 0 where
  pub declared : find_decl kinds.Bean c.bean.now.name ds ≡ Some (decls.Bean c.bean.now)
  pub chosen : c.targets.now ≡ targets ds c.bean.now.points

-- whom each fire site of the part notifies may be asked for
abbrev pub IsFireable : Kept → PartDecl → Type 0
IsFireable kept part = are_answerable kept (map key_of_event part.fires) ≡ true

-- of some interceptors, the names of those that have one of these names, in the order of the interceptors
abbrev pub names_among : List (List ℕ) → List Around → List (List ℕ)
names_among names around = map (λ a. a.0.name) (filter (λ a. has names a.0.name) around)
