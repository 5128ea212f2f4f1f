-- What stays of declarations that a draft does not concern, where answers are kept.
use Rattle.std.specs.Prelude.{◌≡◌, true, false, List, Some}
use Rattle.cdi_bodies.specs.Book.{Promised}
use Rattle.cdi_model.specs.Decl.{key_of, kind_of, name_of_decl}
use Rattle.cdi_model.specs.DeclList.{find_decl, AreDistinct}
use Rattle.cdi_model.specs.Edits.{is_among}
use Rattle.cdi_model.specs.Grammar.{is_name}
use Rattle.cdi_model.specs.declared.decl.Decl.{Decl}
use Rattle.cdi_model.specs.declared.key.DeclKey.{DeclKey}
use Rattle.cdi_index.specs.State.{Drafted, IsEdited, Staged}
use Rattle.cdi_faults.specs.declared.fault.Code.{Code}
use Rattle.cdi_subjects.specs.Subjects.{subjects_at_fault}
use Rattle.cdi_live.specs.Concerned.{Concerns}
use Rattle.cdi_live.specs.State.{knows, State, TakesOver}
use Rattle.cdi_report.specs.Known.{IsKnown}
use Rattle.cdi_report.specs.Settled.{is_changed, AreSettled}
use Rattle.cdi_report.specs.declared.unsettled.Unsettled.{Unsettled}

-- A draft that is taken over does not concern a declaration that is there after it.
pub record IsLeft (old : State) (draft : Drafted) (next : Staged) (new : State) (keys : List DeclKey) (d : Decl) : Type 0 where
  pub before : AreDistinct old.decls
  pub after : AreDistinct draft.decls
  pub edited : IsEdited old.decls draft
  pub concerned : Concerns old draft keys
  pub staged : next.decls ≡ draft.decls
  pub taken : TakesOver old next new
  pub present : find_decl (kind_of d) (name_of_decl d) draft.decls ≡ Some d
  pub apart : is_among keys (key_of d) ≡ false

-- Its faults are the same, and all is known of it still.
pub record Stays (old new : State) (d : Decl) : Type 0 where
  pub known : IsKnown new.decls (knows new) d
  pub faults : (code : Code) (book : List Promised) → subjects_at_fault code old.decls book d ≡ subjects_at_fault code new.decls book d

-- It was there before.
abbrev pub LeftWerePresent : Type 0
LeftWerePresent = (old : State) (draft : Drafted) (next : Staged) (new : State) (keys : List DeclKey) (d : Decl)
    → IsLeft old draft next new keys d → find_decl (kind_of d) (name_of_decl d) old.decls ≡ Some d

-- Where all was known of it, it stays.
abbrev pub LeftStay : Type 0
LeftStay = (old : State) (draft : Drafted) (next : Staged) (new : State) (keys : List DeclKey) (d : Decl)
    → IsLeft old draft next new keys d → IsKnown old.decls (knows old) d → Stays old new d

-- The declarations that a draft concerns are among those that may have changed, if the draft is staged.
pub record IsReadied (old : State) (next : Staged) (u : Unsettled) : Type 0 where
  pub draft : Drafted
  pub keys : List DeclKey
  pub edited : IsEdited old.decls draft
  pub concerned : Concerns old draft keys
  pub staged : next.decls ≡ draft.decls
  pub looked : (k : DeclKey) → is_among keys k ≡ true → is_changed u k ≡ true
  pub named : (k : DeclKey) → is_among keys k ≡ true → is_name k.name ≡ true

-- Once it is taken over, all others are settled that were.
abbrev pub SettledStay : Type 0
SettledStay = (old : State) (next : Staged) (new : State) (book : List Promised) (u : Unsettled) → AreDistinct old.decls
    → AreDistinct new.decls
    → IsReadied old next u → TakesOver old next new → AreSettled old.decls (knows old) book u → AreSettled new.decls (knows new) book u
