-- Which declarations edits spare: what their faults rest on stays.
use Rattle.std.specs.Prelude.{◌≡◌, ⊤, ℕ, false, List, Option, Some, None, IfSome}
use Rattle.std.specs.List.{AllByRecursion}
use Rattle.cdi_bodies.specs.Book.{Promised}
use Rattle.cdi_model.specs.Decl.{key_of, kind_of, name_of_decl}
use Rattle.cdi_model.specs.DeclKey.{key_at}
use Rattle.cdi_model.specs.DeclList.{find_decl}
use Rattle.cdi_model.specs.Edits.{edited_all, edited_keys, is_among, Avoid}
use Rattle.cdi_model.specs.Mentions.{mentions, Mention, UseOf}
use Rattle.cdi_model.specs.Quals.{name_of_use}
use Rattle.cdi_model.specs.declared.decl.Decl.{Decl}
use Rattle.cdi_model.specs.declared.decl.Decl.TheVariants as decls
use Rattle.cdi_model.specs.declared.decl.Kind.{Kind}
use Rattle.cdi_model.specs.declared.decl.Kind.TheVariants as kinds
use Rattle.cdi_model.specs.declared.decl.UseKind.TheVariants as uses
use Rattle.cdi_model.specs.declared.edit.Edit.{Edit}
use Rattle.cdi_model.specs.declared.key.DeclKey.{DeclKey}
use Rattle.cdi_match.specs.Locality.{stereotype_reads}
use Rattle.cdi_effective.specs.Beans.{entries}
use Rattle.cdi_effective.specs.Specialized.{specialized}
use Rattle.cdi_effective.specs.declared.records.Effective.{Effective}
use Rattle.cdi_index.specs.Told.{Tells}
use Rattle.cdi_observe.specs.Wanted.{points_of}
use Rattle.cdi_faults.specs.declared.fault.Code.{Code}
use Rattle.cdi_subjects.specs.Rests.{named_in, IsAnsweredAlike}
use Rattle.cdi_subjects.specs.Subjects.{subjects_at_fault}

-- what is named in a place is not edited
abbrev pub IsNotEdited : List DeclKey → Option (Kind × List ℕ) → Type 0
IsNotEdited keys None = ⊤
IsNotEdited keys (Some named) = is_among keys (key_at named.0 named.1) ≡ false

-- a use of a binding type that is not affected, or no use of one
abbrev pub IsBindingSpared : List DeclKey → Mention → Type 0
IsBindingSpared told (UseOf uses.Binding u) = is_among told (key_at kinds.Binding (name_of_use u)) ≡ false
IsBindingSpared told m = ⊤

-- the bindings that a bean writes are of binding types that are not affected
abbrev pub AreBindingsSpared : List DeclKey → Decl → Type 0
AreBindingsSpared told (decls.Bean d) = AllByRecursion (IsBindingSpared told) (mentions (decls.Bean d))
AreBindingsSpared told d = ⊤

-- none of the qualifiers that a bean has is edited
abbrev pub AreQualifiersSpared : List DeclKey → Effective → Type 0
AreQualifiersSpared keys b = AllByRecursion (λ u. is_among keys (key_at kinds.Qualifier u.name) ≡ false) b.qualifiers

-- the bean that a bean specializes is not affected
abbrev pub IsSpecializedSpared : List Decl → List DeclKey → Decl → Type 0
IsSpecializedSpared ds told (decls.Bean d) = IfSome (specialized ds d) (λ s. is_among told (key_at kinds.Bean s.name) ≡ false)
IsSpecializedSpared ds told d = ⊤

-- edits of no stereotype that a stereotype inherits
abbrev pub AreInheritedSpared : List Decl → List Edit → Decl → Type 0
AreInheritedSpared ds edits (decls.Stereotype d) = Avoid (stereotype_reads ds d.stereotypes) edits
AreInheritedSpared ds edits d = ⊤

-- Edits of a list, which affect the told keys, spare a declaration: it is not edited or affected, it names nothing that is edited, a bean
-- has no use of a binding type that is affected and no qualifier that is edited, and its points are answered alike.
pub record IsSpared (ds : List Decl) (edits : List Edit) (told : List DeclKey) (d : Decl) : Type 0 where
  pub unedited : is_among (edited_keys edits) (key_of d) ≡ false
  pub unaffected : is_among told (key_of d) ≡ false
  pub names : AllByRecursion (λ m. IsNotEdited (edited_keys edits) (named_in m)) (mentions d)
  pub bindings : AreBindingsSpared told d
  pub qualifiers : AllByRecursion (AreQualifiersSpared (edited_keys edits)) (entries ds d)
  pub specialized : IsSpecializedSpared ds told d
  pub inherited : AreInheritedSpared ds edits d
  pub answers : AllByRecursion (IsAnsweredAlike ds (edited_all ds edits)) (points_of d)

-- The faults of a declaration that edits spare stay.
abbrev pub SparedKeepFaults : Type 0
SparedKeepFaults = (edits : List Edit) (ds : List Decl) (told : List DeclKey) (d : Decl)
    → find_decl (kind_of d) (name_of_decl d) ds ≡ Some d → Tells ds (edited_all ds edits) (edited_keys edits) told
    → IsSpared ds edits told d → (code : Code) (book : List Promised)
    → subjects_at_fault code ds book d ≡ subjects_at_fault code (edited_all ds edits) book d
