-- What an edit and a batch answer and leave makes a step.
use Rattle.cdi_container.proofs.Common.{◌≡◌, ℕ, List, None, Some, refl, Result, Ok, Err, Decl, [], ap, ◌∙◌, Error, Answers, Refusal, alone}
use Rattle.cdi_container.proofs.Common.{State, AsksSome, left_by, change_of, changes_of, changes_of_all, answer_of_change, EditsFrom, OnOk}
use Rattle.cdi_container.proofs.Common.{IfErr, IsStep, arith}
use Rattle.cdi_model.specs.declared.edit.Edit.{Edit as Change}
use Rattle.cdi_model.specs.{Edits.refusal_of_edit, Edits.answer_of_edit}
use Rattle.cdi_model.specs.declared.refusal.Error.TheVariants as errors
use Rattle.cdi_model.specs.declared.edit.Edit.TheVariants as changes
use Rattle.cdi_admission.specs.Admission.{refusal_of_decl}
use Rattle.cdi_lines.specs.declared.command.Command.TheVariants.{Edit as EditCommand}
use Rattle.cdi_lines.specs.declared.edit.Edit.{Edit}
use Rattle.cdi_lines.specs.declared.edit.Edit.TheVariants as edits
use Rattle.cdi_text.specs.Reading.{decl_of}
use Rattle.cdi_container.proofs.AskedLemmas.{apart-none}
use Rattle.cdi_container.specs.Editing.{admitted, answer_of_put, changes_in, put_among, put_of, refusal_of_batch, refusal_of_change}
use Rattle.cdi_container.specs.Seen.{EditStep, PutStep, PutDeclStep, BatchStep, AnswersBatch, left_by_batch, put_answer}
use Rattle.cdi_container.specs.declared.{answer.PutDone.PutDone, batch.BatchError.BatchError}
use Rattle.cdi_container.specs.declared.batch.BatchError.TheVariants as batch_errors

-- a change that is accepted has no refusal
accepted : (ds : List Decl) (change : Change) (u : Unit {0}) → answer_of_edit ds change ≡ Ok u → refusal_of_edit ds change ≡ None
accepted ds change u h = grind arith

-- the refusal of a change that is refused
refused : (ds : List Decl) (change : Change) (r : Refusal) → answer_of_edit ds change ≡ Err r → refusal_of_edit ds change ≡ Some r
refused ds change r h = grind arith

-- the same of what asks for a change, or for none
pub accepted_change : (ds : List Decl) (asked : Result Change Refusal) (u : Unit {0}) → answer_of_change ds asked ≡ Ok u
    → refusal_of_change ds asked ≡ None
accepted_change ds (Ok change) u h = accepted ds change u h
accepted_change ds (Err r) u h = cc

pub refused_change : (ds : List Decl) (asked : Result Change Refusal) (r : Refusal) → answer_of_change ds asked ≡ Err r
    → refusal_of_change ds asked ≡ Some r
refused_change ds (Ok change) r h = refused ds change r h
refused_change ds (Err s) r h = cc

-- an edit evaluates nothing
no_keys : (old : State) → AsksSome old [] old
no_keys old = record { some = []; among = refl; apart = apart-none; are = refl }

-- what asks for a change answers as the edit that asks for it
edit_step : (old new : State) (edit : Edit) (result : Result (Unit {0}) Error)
    → Answers result (answer_of_change old.decls (change_of edit))
    → OnOk result (EditsFrom old (changes_of edit) new)
    → IfErr result (λ error. new ≡ left_by error old) → EditStep old edit result new
edit_step old new edit (Ok u) answer ok err = (ap alone (accepted_change old.decls (change_of edit) u answer), (refl, ok))
edit_step old new edit (Err errors.OutOfMemory) answer ok err = record { left = old; asks = no_keys old; rest = err }
edit_step old new edit (Err (errors.Refused r)) answer ok err = (ap alone (refused_change old.decls (change_of edit) r answer), err)

-- ---- a put

-- what a change of a declaration answers, a put of it answers with what was put
pub put_accepted : (ds : List Decl) (d : Decl) (u : Unit {0}) → answer_of_edit ds (changes.Put d) ≡ Ok u
    → answer_of_put ds (Ok d) ≡ Ok (put_among ds d)
put_accepted ds d u h = grind arith

pub put_refused : (ds : List Decl) (d : Decl) (r : Refusal) → answer_of_edit ds (changes.Put d) ≡ Err r
    → answer_of_put ds (Ok d) ≡ Err r
put_refused ds d r h = grind arith

-- and what a put answers, the change does
change_accepted : (ds : List Decl) (asked : Result Decl Refusal) (p : PutDone) → answer_of_put ds asked ≡ Ok p
    → answer_of_change ds (put_of asked) ≡ Ok tt
change_accepted ds (Err r) p h = cc
change_accepted ds (Ok d) p h = grind arith

change_refused : (ds : List Decl) (asked : Result Decl Refusal) (r : Refusal) → answer_of_put ds asked ≡ Err r
    → answer_of_change ds (put_of asked) ≡ Err r
change_refused ds (Err s) r h = cc
change_refused ds (Ok d) r h = grind arith

-- a put of what an edit puts is that edit
puts_as_edit : (old new : State) (edit : Edit) (asked : Result Decl Refusal) (result : Result PutDone Error)
    → change_of edit ≡ put_of asked → Answers result (answer_of_put old.decls asked)
    → OnOk result (EditsFrom old (changes_of edit) new)
    → IfErr result (λ error. new ≡ left_by error old) → IsStep old (EditCommand edit) (put_answer result) new
puts_as_edit old new edit asked (Ok p) is answer ok err =
    edit_step old new edit (Ok tt) (ap (answer_of_change old.decls) is ∙ change_accepted old.decls asked p answer) ok err
puts_as_edit old new edit asked (Err errors.OutOfMemory) is answer ok err =
    edit_step old new edit (Err errors.OutOfMemory) answer ok err
puts_as_edit old new edit asked (Err (errors.Refused r)) is answer ok err =
    edit_step old new edit (Err (errors.Refused r)) (ap (answer_of_change old.decls) is ∙ change_refused old.decls asked r answer) ok err

pub put_step : (old new : State) (text : List ℕ) (result : Result PutDone Error)
    → Answers result (answer_of_put old.decls (decl_of text))
    → OnOk result (EditsFrom old (changes_in (put_of (decl_of text))) new)
    → IfErr result (λ error. new ≡ left_by error old) → PutStep old text result new
put_step old new text result answer ok err = puts_as_edit old new (edits.Put text) (decl_of text) result refl answer ok err

pub put_decl_step : (old new : State) (d : Decl) (result : Result PutDone Error)
    → Answers result (answer_of_put old.decls (admitted (refusal_of_decl d) d))
    → OnOk result (EditsFrom old (changes_in (put_of (admitted (refusal_of_decl d) d))) new)
    → IfErr result (λ error. new ≡ left_by error old) → PutDeclStep old d result new
put_decl_step old new d result answer ok err boxed is = grind (arith, boxed.value, old.decls, puts_as_edit)

pub ruleset put_answered = (put_accepted, put_refused)

pub batch_step : (old new : State) (edits : List Edit) (result : Result (Unit {0}) BatchError)
    → AnswersBatch result (refusal_of_batch old.decls edits)
    → OnOk result (EditsFrom old (changes_of_all edits) new)
    → IfErr result (λ error. new ≡ left_by_batch error old) → BatchStep old edits result new
batch_step old new edits (Ok u) answer ok err = (answer, (refl, ok))
batch_step old new edits (Err batch_errors.OutOfMemory) answer ok err = record { left = old; asks = no_keys old; rest = err }
batch_step old new edits (Err (batch_errors.Refused refusal edit)) answer ok err = (answer, err)
