-- What an edit changes, and why one is refused: by itself, and in a batch.
use Rattle.std.specs.Prelude.{ℕ, ◌+◌, nat_lt, List, [], ◌∷◌, ◌++◌, length, map, flat_map, is_some, Option, Some, None, Result, Ok, Err, if◌then◌else◌}
use Rattle.cdi_model.specs.declared.decl.Decl.{Decl}
use Rattle.cdi_model.specs.declared.edit.Edit.{Edit as Change}
use Rattle.cdi_model.specs.declared.edit.Edit.TheVariants as changes
use Rattle.cdi_model.specs.declared.refusal.Refusal.{Refusal}
use Rattle.cdi_model.specs.declared.refusal.Refusal.TheVariants.{BatchTooLong, TooMany}
use Rattle.cdi_model.specs.Decl.{kind_of, name_of_decl}
use Rattle.cdi_model.specs.DeclList.{find_decl, is_too_many}
use Rattle.cdi_model.specs.Edits.{edited_all, edited_keys, refusal_of_edit}
use Rattle.cdi_index.specs.State.{Drafted, drafted_from}
use Rattle.cdi_admission.specs.Admission.{refusal_of_decl}
use Rattle.cdi_text.specs.Reading.{decl_of}
use Rattle.cdi_lines.specs.declared.edit.Edit.{Edit}
use Rattle.cdi_lines.specs.declared.edit.Edit.TheVariants as edits
use Rattle.cdi_container.specs.declared.answer.PutDone.{PutDone}

-- ---- one edit

-- a put of a declaration, or why there is none
abbrev pub put_of : Result Decl Refusal → Result Change Refusal
put_of (Ok d) = Ok (changes.Put d)
put_of (Err refusal) = Err refusal

-- what a put of a declaration into a list does
abbrev pub put_among : List Decl → Decl → PutDone
put_among ds d = record {
  kind = kind_of d;
  name = name_of_decl d;
  has_replaced = is_some (find_decl (kind_of d) (name_of_decl d) ds);
}

-- what a put of a declaration answers, or of what is none
abbrev pub answer_of_put : List Decl → Result Decl Refusal → Result PutDone Refusal
answer_of_put ds (Ok d) = if is_too_many ds d then Err TooMany else Ok (put_among ds d)
answer_of_put ds (Err refusal) = Err refusal

-- a declaration that a program made, unless it is refused
abbrev pub admitted : Option Refusal → Decl → Result Decl Refusal
admitted None d = Ok d
admitted (Some refusal) d = Err refusal

-- the change of the list of declarations that an edit asks for, or why it asks for none
abbrev pub change_of : Edit → Result Change Refusal
change_of (edits.Put text) = put_of (decl_of text)
change_of (edits.PutDecl boxed) = put_of (admitted (refusal_of_decl boxed.value) boxed.value)
change_of (edits.Remove kind name) = Ok (changes.Remove kind name)

-- it, if there is one
abbrev pub changes_in : Result Change Refusal → List Change
changes_in (Ok change) = change ∷ []
changes_in (Err refusal) = []

abbrev pub changes_of : Edit → List Change
changes_of edit = changes_in (change_of edit)

-- why it is refused on some declarations, if it is
abbrev pub refusal_of_change : List Decl → Result Change Refusal → Option Refusal
refusal_of_change ds (Ok change) = refusal_of_edit ds change
refusal_of_change ds (Err refusal) = Some refusal

-- ---- drafts

-- what a draft is after some further changes
abbrev pub drafted_all : Drafted → List Change → Drafted
drafted_all draft changes = record { decls = edited_all draft.decls changes; keys = draft.keys ++ edited_keys changes }

-- a draft of these changes of some declarations
abbrev pub drafted_by : List Decl → List Change → Drafted
drafted_by ds changes = drafted_all (drafted_from ds) changes

-- ---- a batch

-- why a command is refused, and the number of the edit of a batch for which it is
abbrev pub Reason : Type 0
Reason = Refusal × Option ℕ

-- the number of no edit
abbrev pub alone : Option Refusal → Option Reason
alone None = None
alone (Some refusal) = Some (refusal, None)

-- the edit of a number is refused, or else what is refused later
abbrev pub refused_first : ℕ → Option Refusal → Option Reason → Option Reason
refused_first number (Some refusal) later = Some (refusal, Some number)
refused_first number None later = later

-- what its edits ask for, in order
abbrev pub asked_by : List Edit → List (Result Change Refusal)
asked_by es = map change_of es

-- the first of what is asked for that is refused on the declarations that the changes before it leave, counted from this number
abbrev pub first_refusal : ℕ → List Decl → List (Result Change Refusal) → Option Reason
first_refusal number ds [] = None
first_refusal number ds (asked ∷ later) = refused_first number (refusal_of_change ds asked)
    (first_refusal (number + 1) (edited_all ds (changes_in asked)) later)

-- why a batch is refused, if it is: more than 256 edits (profile), or the first of them that is refused
abbrev pub refusal_of_batch : List Decl → List Edit → Option Reason
refusal_of_batch ds es = if nat_lt 256 (length es) then Some (BatchTooLong, None) else first_refusal 1 ds (asked_by es)

-- the changes of all its edits, in order
abbrev pub changes_of_all : List Edit → List Change
changes_of_all es = flat_map changes_in (asked_by es)
