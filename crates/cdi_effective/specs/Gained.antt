-- What a managed bean gets by its chain.
use Rattle.std.specs.Prelude.{◌≡◌, List, []}
use Rattle.cdi_model.specs.declared.decl.BeanDecl.{BeanDecl}
use Rattle.cdi_model.specs.declared.decl.Decl.{Decl}
use Rattle.cdi_match.specs.Bindings.{uses_in}
use Rattle.cdi_effective.specs.Specialized.{all_declared, last_declared, last_name}
use Rattle.cdi_effective.specs.declared.gained.Gained.{Gained}

-- the name of the last of some beans that has one, the qualifiers that they declare, and those that the last of them declares
pub record IsGained (ds : List Decl) (beans : List BeanDecl) (gained : Gained) : Type 0 where
  pub name : gained.name ≡ last_name ds beans
  pub declared : uses_in gained.declared.items ≡ all_declared beans
  pub last : gained.last.now ≡ last_declared [] beans
