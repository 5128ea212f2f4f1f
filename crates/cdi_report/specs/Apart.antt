-- Which declarations edits spare, by the words under which they are listed.
use Rattle.std.specs.Prelude.{◌≡◌, ℕ, true, false, List, Some}
use Rattle.std.specs.List.{AllByRecursion}
use Rattle.cdi_model.specs.Decl.{key_of, kind_of, name_of_decl}
use Rattle.cdi_model.specs.DeclKey.{key_at}
use Rattle.cdi_model.specs.DeclList.{find_decl}
use Rattle.cdi_model.specs.Edits.{edited_all, edited_keys, is_among}
use Rattle.cdi_model.specs.Mentions.{mentions}
use Rattle.cdi_model.specs.declared.decl.Decl.{Decl}
use Rattle.cdi_model.specs.declared.decl.Kind.TheVariants as kinds
use Rattle.cdi_model.specs.declared.edit.Edit.{Edit}
use Rattle.cdi_model.specs.declared.key.DeclKey.{DeclKey}
use Rattle.cdi_model.specs.declared.place.BeanPlace.{BeanPlace}
use Rattle.cdi_postings.specs.declared.word.Reason.TheVariants as reasons
use Rattle.cdi_postings.specs.Words.{word_at}
use Rattle.cdi_effective.specs.declared.records.BeanId.{BeanId}
use Rattle.cdi_intercept.specs.Chains.{chain_of}
use Rattle.cdi_resolve.specs.declared.choice.Choice.TheVariants.{One}
use Rattle.cdi_index.specs.Made.{made_of, reads, words_have}
use Rattle.cdi_index.specs.Told.{Tells}
use Rattle.cdi_index.specs.Under.{words_by}
use Rattle.cdi_observe.specs.Answers.{answer_to}
use Rattle.cdi_observe.specs.Wanted.{points_of}
use Rattle.cdi_subjects.specs.Rests.{named_in}
use Rattle.cdi_report.specs.Spared.{AreInheritedSpared, IsNotEdited, IsSpared}

-- The bean declaration of a class is not affected, and the interceptors around its places are the same.
pub record IsStill (ds : List Decl) (edits : List Edit) (told : List DeclKey) (class : List ℕ) : Type 0 where
  pub unaffected : is_among told (key_at kinds.Bean class) ≡ false
  pub chains : (place : BeanPlace) → chain_of (edited_all ds edits) class place ≡ chain_of ds class place

-- Edits of a list, which affect the told keys, meet no word of a declaration: it is not edited or affected, it names nothing that is edited,
-- it has no word of an edited qualifier or of an affected binding type, it reads no affected bean, and the same is chosen for its points, a
-- bean that stays still.
pub record IsApart (ds : List Decl) (edits : List Edit) (told : List DeclKey) (d : Decl) : Type 0 where
  pub unedited : is_among (edited_keys edits) (key_of d) ≡ false
  pub unaffected : is_among told (key_of d) ≡ false
  pub names : AllByRecursion (λ m. IsNotEdited (edited_keys edits) (named_in m)) (mentions d)
  pub qualifiers : (q : List ℕ) → is_among (edited_keys edits) (key_at kinds.Qualifier q) ≡ true
      → words_have (words_by ds d) (word_at reasons.Qualifies q) ≡ false
  pub bindings : (b : List ℕ) → is_among told (key_at kinds.Binding b) ≡ true → words_have (words_by ds d) (word_at reasons.Binds b) ≡ false
  pub beans : (class : List ℕ) → is_among told (key_at kinds.Bean class) ≡ true
      → reads (made_of ds (key_of d)) (key_at kinds.Bean class) ≡ false
  pub inherited : AreInheritedSpared ds edits d
  pub answers : AllByRecursion (λ p. answer_to ds p ≡ answer_to (edited_all ds edits) p) (points_of d)
  pub chosen : AllByRecursion (λ p. (id : BeanId) → answer_to ds p ≡ One id → IsStill ds edits told id.class) (points_of d)

-- So they spare it.
abbrev pub ApartAreSpared : Type 0
ApartAreSpared = (edits : List Edit) (ds : List Decl) (told : List DeclKey) (d : Decl)
    → find_decl (kind_of d) (name_of_decl d) ds ≡ Some d → Tells ds (edited_all ds edits) (edited_keys edits) told
    → IsApart ds edits told d → IsSpared ds edits told d
