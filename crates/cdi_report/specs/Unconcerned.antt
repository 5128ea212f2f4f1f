-- Which declarations need not be looked at again after an edit.
use Rattle.std.specs.Prelude.{◌≡◌, false, List, Some}
use Rattle.std.specs.List.{AllByRecursion}
use Rattle.cdi_model.specs.Decl.{key_of, kind_of, name_of_decl}
use Rattle.cdi_model.specs.DeclList.{find_decl, AreDistinct}
use Rattle.cdi_model.specs.Edits.{edited_all, edited_keys}
use Rattle.cdi_model.specs.declared.decl.Decl.{Decl}
use Rattle.cdi_model.specs.declared.edit.Edit.{Edit}
use Rattle.cdi_model.specs.declared.place.BeanPlace.{BeanPlace}
use Rattle.cdi_effective.specs.declared.records.BeanId.{BeanId}
use Rattle.cdi_intercept.specs.Chains.{chain_of}
use Rattle.cdi_resolve.specs.declared.choice.Choice.TheVariants.{One}
use Rattle.cdi_observe.specs.Answers.{answer_to}
use Rattle.cdi_observe.specs.Wanted.{points_of}
use Rattle.cdi_concern.specs.Concern.{is_concerned}
use Rattle.cdi_concern.specs.declared.moved.Moved.{Moved}
use Rattle.cdi_report.specs.Apart.{IsApart}
use Rattle.cdi_index.specs.Told.{Tells}

-- A declaration is not to be looked at again after edits that move so much: the same is chosen for its points, and the interceptors around
-- the places of a chosen bean are the same.
pub record IsUnconcerned (ds : List Decl) (edits : List Edit) (m : Moved) (d : Decl) : Type 0 where
  pub unconcerned : is_concerned ds m (key_of d) ≡ false
  pub answers : AllByRecursion (λ p. answer_to ds p ≡ answer_to (edited_all ds edits) p) (points_of d)
  pub chains : AllByRecursion (λ p. (id : BeanId) → answer_to ds p ≡ One id
      → (place : BeanPlace) → chain_of (edited_all ds edits) id.class place ≡ chain_of ds id.class place) (points_of d)

-- So edits meet no word of it.
abbrev pub UnconcernedAreApart : Type 0
UnconcernedAreApart = (edits : List Edit) (ds : List Decl) (m : Moved) (d : Decl) → AreDistinct ds
    → find_decl (kind_of d) (name_of_decl d) ds ≡ Some d → m.edited.now ≡ edited_keys edits
    → Tells ds (edited_all ds edits) (edited_keys edits) m.affected.now → IsUnconcerned ds edits m d → IsApart ds edits m.affected.now d
