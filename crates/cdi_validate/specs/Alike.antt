-- What edits leave of a declaration.
use Rattle.std.specs.Prelude.{◌≡◌, List, Some}
use Rattle.std.specs.List.{AllByRecursion}
use Rattle.cdi_model.specs.Decl.{kind_of, name_of_decl}
use Rattle.cdi_model.specs.DeclList.{find_decl}
use Rattle.cdi_model.specs.declared.decl.BeanDecl.{BeanDecl}
use Rattle.cdi_model.specs.declared.decl.Decl.{Decl}
use Rattle.cdi_model.specs.declared.decl.Decl.TheVariants as decls
use Rattle.cdi_model.specs.declared.place.BeanPlace.{BeanPlace}
use Rattle.cdi_effective.specs.Beans.{entries}
use Rattle.cdi_effective.specs.Specialized.{chain}
use Rattle.cdi_intercept.specs.Chains.{chain_of}
use Rattle.cdi_observe.specs.Answers.{answer_to}
use Rattle.cdi_observe.specs.Wanted.{points_of}

-- A declaration is in two lists. Its beans have the same records, the same is chosen for its points, and a bean has the same interceptors
-- around its places and the same chain.
pub record IsAlike (ds es : List Decl) (d : Decl) : Type 0 where
  pub before : find_decl (kind_of d) (name_of_decl d) ds ≡ Some d
  pub after : find_decl (kind_of d) (name_of_decl d) es ≡ Some d
  pub records : entries es d ≡ entries ds d
  pub answers : AllByRecursion (λ p. answer_to ds p ≡ answer_to es p) (points_of d)
  pub around : (b : BeanDecl) → d ≡ decls.Bean b → (place : BeanPlace) → chain_of es b.name place ≡ chain_of ds b.name place
  pub chains : (b : BeanDecl) → d ≡ decls.Bean b → chain es b ≡ chain ds b
