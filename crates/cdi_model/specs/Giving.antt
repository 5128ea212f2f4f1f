-- What declarations give, one after another, and which edits leave it.
use Rattle.std.specs.Prelude.{◌≡◌, true, false, List, [], flat_map}
use Rattle.std.specs.List.{AllByRecursion}
use Rattle.cdi_model.specs.Decl.{key_of}
use Rattle.cdi_model.specs.declared.decl.Decl.{Decl}
use Rattle.cdi_model.specs.declared.edit.Edit.{Edit}
use Rattle.cdi_model.specs.Edits.{edited_all, edited_keys, is_among}

-- each of these declarations that the edits put or remove gives nothing
abbrev pub EditedGiveNothing : {X : Type 0} → (Decl → List X) → List Edit → List Decl → Type 0
EditedGiveNothing give edits ds = AllByRecursion (λ d. is_among (edited_keys edits) (key_of d) ≡ true → give d ≡ []) ds

-- each other one gives the same by both
abbrev pub OthersGiveTheSame : {X : Type 0} → (Decl → List X) → (Decl → List X) → List Edit → List Decl → Type 0
OthersGiveTheSame give other edits ds = AllByRecursion (λ d. is_among (edited_keys edits) (key_of d) ≡ false → give d ≡ other d) ds

-- What the edits put and remove gives nothing, before and after, and each other declaration gives the same.
pub record LeaveGiven {X : Type 0} (give : List Decl → Decl → List X) (edits : List Edit) (ds : List Decl) : Type 0 where
  pub before : EditedGiveNothing (give ds) edits ds
  pub after : EditedGiveNothing (give (edited_all ds edits)) edits (edited_all ds edits)
  pub others : OthersGiveTheSame (give ds) (give (edited_all ds edits)) edits ds

-- Then all declarations give the same, in one order, before and after.
abbrev pub EditsKeepGiven : Type 0 → Type 0
EditsKeepGiven X = (give : List Decl → Decl → List X) (edits : List Edit) (ds : List Decl) → LeaveGiven give edits ds
    → flat_map (give (edited_all ds edits)) (edited_all ds edits) ≡ flat_map (give ds) ds
