-- The steps of the calls of a container.
use Rattle.std.specs.Prelude.{◌≡◌, ℕ, List, Option, None, Some, Result, Ok, Err, Box, alloc_error}
use Rattle.std.specs.declared.alloc.AllocError.{AllocError}
use Rattle.std.specs.declared.alloc.Global.{Global}
use Rattle.std.specs.declared.vec.Vec.{Vec}
use Rattle.cdi_model.specs.declared.decl.Decl.{Decl}
use Rattle.cdi_model.specs.declared.decl.Kind.{Kind}
use Rattle.cdi_model.specs.declared.outcome.Outcome.{Outcome}
use Rattle.cdi_model.specs.declared.outcome.Val.{Val}
use Rattle.cdi_model.specs.declared.place.BeanPlace.{BeanPlace}
use Rattle.cdi_model.specs.declared.quals.Qual.{Qual}
use Rattle.cdi_model.specs.declared.refusal.Error.{Error}
use Rattle.cdi_model.specs.declared.refusal.Error.TheVariants as errors
use Rattle.cdi_model.specs.declared.refusal.Refusal.{Refusal}
use Rattle.cdi_model.specs.declared.edit.Edit.{Edit as Change}
use Rattle.cdi_model.specs.Edits.{answer_of_edit}
use Rattle.cdi_index.specs.declared.counts.Counts.{Counts}
use Rattle.cdi_observe.specs.declared.observers.ObserverId.{ObserverId}
use Rattle.cdi_resolve.specs.declared.choice.Choice.{Choice}
use Rattle.cdi_faults.specs.declared.fault.Fault.{Fault}
use Rattle.cdi_validate.specs.Faults.{faults}
use Rattle.cdi_lines.specs.declared.command.Command.{Command}
use Rattle.cdi_lines.specs.declared.command.Command.TheVariants as commands
use Rattle.cdi_lines.specs.declared.command.Command.TheVariants.{Edit, Batch, Choose, Named, Chain, Observers, Report, LookUp, Call, Fire}
use Rattle.cdi_lines.specs.declared.command.Command.TheVariants.{BeginRequest, EndRequest}
use Rattle.cdi_lines.specs.declared.command.Command.TheVariants.{Stop}
use Rattle.cdi_lines.specs.declared.edit.Edit.{Edit as AnyEdit}
use Rattle.cdi_lines.specs.declared.edit.Edit.TheVariants as edits
use Rattle.cdi_container.specs.Editing.{Reason}
use Rattle.cdi_container.specs.declared.answer.Answer.{Answer}
use Rattle.cdi_container.specs.declared.answer.PutDone.{PutDone}
use Rattle.cdi_container.specs.declared.answer.WorkDone.{WorkDone}
use Rattle.cdi_container.specs.declared.batch.BatchError.{BatchError}
use Rattle.cdi_container.specs.declared.batch.BatchError.TheVariants as batch_errors
use Rattle.cdi_container.specs.declared.answer.Answer.TheVariants.{Done, Chosen, Intercepted, Observed, Reported, Counted, Worked, Given, Refused}
use Rattle.cdi_container.specs.History.{State, LegalAnswer, emptied, untold}

-- what an edit answers that asks for a change, or for none
abbrev pub answer_of_change : List Decl → Result Change Refusal → Result (Unit {0}) Refusal
answer_of_change ds (Ok change) = answer_of_edit ds change
answer_of_change ds (Err refusal) = Err refusal

-- what a call that is refused for this reason, if for one, answers, where it gives no value
abbrev pub done_or : Option Refusal → Result (Unit {0}) Refusal
done_or None = Ok tt
done_or (Some refusal) = Err refusal

-- the answer of a call that was refused or found no memory
abbrev pub failed_answer : Error → Result Answer AllocError
failed_answer errors.OutOfMemory = Err alloc_error
failed_answer (errors.Refused refusal) = Ok (Refused refusal None)

-- the answer of a call that gives no value
abbrev pub edit_answer : Result (Unit {0}) Error → Result Answer AllocError
edit_answer (Ok u) = Ok Done
edit_answer (Err error) = failed_answer error

-- the answer of a call that puts a declaration
abbrev pub put_answer : Result PutDone Error → Result Answer AllocError
put_answer (Ok put) = Ok Done
put_answer (Err error) = failed_answer error

-- the answer of a batch
abbrev pub batch_answer : Result (Unit {0}) BatchError → Result Answer AllocError
batch_answer (Ok u) = Ok Done
batch_answer (Err batch_errors.OutOfMemory) = Err alloc_error
batch_answer (Err (batch_errors.Refused refusal edit)) = Ok (Refused refusal edit)

-- the edit of a number was refused or found no memory
abbrev pub refused_at : ℕ → Error → BatchError
refused_at number errors.OutOfMemory = batch_errors.OutOfMemory
refused_at number (errors.Refused refusal) = batch_errors.Refused refusal (Some number)

-- an error says that this is the reason; where memory ran out, it says nothing
abbrev pub SaysReason : BatchError → Option Reason → Type 0
SaysReason batch_errors.OutOfMemory reason = Unit {0}
SaysReason (batch_errors.Refused refusal edit) reason = reason ≡ Some (refusal, edit)

-- what a batch answers that is refused for this reason, if for one
abbrev pub AnswersBatch : {X : Type 0} → Result X BatchError → Option Reason → Type 0
AnswersBatch (Ok value) reason = reason ≡ None
AnswersBatch (Err error) reason = SaysReason error reason

-- what a batch leaves that was refused or found no memory
abbrev pub left_by_batch : BatchError → State → State
left_by_batch batch_errors.OutOfMemory old = old
left_by_batch (batch_errors.Refused refusal edit) old = untold old

-- what is left of a run that did not begin: it was refused, or ran out of memory
abbrev pub unplayed : Error → State → State
unplayed errors.OutOfMemory old = emptied old
unplayed (errors.Refused refusal) old = untold old

-- the answer of a call that gives no value and takes no memory
abbrev pub plain_answer : Result (Unit {0}) Refusal → Result Answer AllocError
plain_answer (Ok u) = Ok Done
plain_answer (Err refusal) = Ok (Refused refusal None)

-- the answer of a call that gives no value and is never refused
abbrev pub end_answer : Result (Unit {0}) AllocError → Result Answer AllocError
end_answer (Ok u) = Ok Done
end_answer (Err error) = Err error

-- the answer of a call that gives a choice and is never refused
abbrev pub choice_answer : Result Choice AllocError → Result Answer AllocError
choice_answer (Ok choice) = Ok (Chosen choice)
choice_answer (Err error) = Err error

-- the answer of a question for interceptors
abbrev pub chain_answer : Result (List (List ℕ)) Error → Result Answer AllocError
chain_answer (Ok names) = Ok (Intercepted names)
chain_answer (Err error) = failed_answer error

-- the answer of a question for observer methods
abbrev pub observers_answer : Result (List ObserverId) AllocError → Result Answer AllocError
observers_answer (Ok ids) = Ok (Observed ids)
observers_answer (Err error) = Err error

-- the answer of a report
abbrev pub report_answer : Result (Vec Fault Global) AllocError → Result Answer AllocError
report_answer (Ok list) = Ok (Reported list.items)
report_answer (Err error) = Err error

-- the answer of a report whose list is not handed out
abbrev pub kept_answer : {X : Type 0} → State → Result X AllocError → Result Answer AllocError
kept_answer old (Ok x) = Ok (Reported (faults old.decls old.book))
kept_answer old (Err error) = Err error

-- the answer of a question for the counts
abbrev pub counts_answer : Counts → Result Answer AllocError
counts_answer counts = Ok (Counted counts)

-- the answer of a question for the work
abbrev pub work_answer : WorkDone → Result Answer AllocError
work_answer done = Ok (Worked done)

-- the answer of a look-up, a call or an event
abbrev pub outcome_answer : Result Outcome Error → Result Answer AllocError
outcome_answer (Ok outcome) = Ok (Given outcome)
outcome_answer (Err error) = failed_answer error

-- a call is a legal step, whose trace the container shows afterwards, from the state that it held to the one that it holds
abbrev pub IsStep : State → Command → Result Answer AllocError → State → Type 0
IsStep old command answer new = LegalAnswer old command answer new

abbrev pub PutStep : State → List ℕ → Result PutDone Error → State → Type 0
PutStep old text result new = IsStep old (Edit (edits.Put text)) (put_answer result) new

-- whatever box the declaration is in
abbrev pub PutDeclStep : State → Decl → Result PutDone Error → State → Type 0
PutDeclStep old decl result new = (boxed : Box Decl Global) → boxed.value ≡ decl
    → IsStep old (Edit (edits.PutDecl boxed)) (put_answer result) new

abbrev pub RemoveStep : State → Kind → List ℕ → Result (Unit {0}) Error → State → Type 0
RemoveStep old kind name result new = IsStep old (Edit (edits.Remove kind name)) (edit_answer result) new

abbrev pub EditStep : State → AnyEdit → Result (Unit {0}) Error → State → Type 0
EditStep old edit result new = IsStep old (Edit edit) (edit_answer result) new

abbrev pub BatchStep : State → List AnyEdit → Result (Unit {0}) BatchError → State → Type 0
BatchStep old edits result new = IsStep old (Batch edits) (batch_answer result) new

abbrev pub ChooseStep : State → List ℕ → List Qual → Result Choice AllocError → State → Type 0
ChooseStep old t quals result new = IsStep old (Choose t quals) (choice_answer result) new

abbrev pub NamedStep : State → List ℕ → Result Choice AllocError → State → Type 0
NamedStep old name result new = IsStep old (Named name) (choice_answer result) new

abbrev pub ChainStep : State → List ℕ → BeanPlace → Result (List (List ℕ)) Error → State → Type 0
ChainStep old bean place result new = IsStep old (Chain bean place) (chain_answer result) new

abbrev pub ObserversStep : State → List ℕ → List Qual → Result (List ObserverId) AllocError → State → Type 0
ObserversStep old t quals result new = IsStep old (Observers t quals) (observers_answer result) new

abbrev pub ReportStep : State → Result (Vec Fault Global) AllocError → State → Type 0
ReportStep old result new = IsStep old Report (report_answer result) new

-- the step of a report
abbrev pub EvaluateStep : {X : Type 0} → State → Result X AllocError → State → Type 0
EvaluateStep old result new = IsStep old Report (kept_answer old result) new

abbrev pub CountsStep : State → Counts → State → Type 0
CountsStep old result new = IsStep old commands.Counts (counts_answer result) new

abbrev pub WorkStep : State → WorkDone → State → Type 0
WorkStep old result new = IsStep old commands.Work (work_answer result) new

abbrev pub LookUpStep : State → List ℕ → List Qual → Result Outcome Error → State → Type 0
LookUpStep old t quals result new = IsStep old (LookUp t quals) (outcome_answer result) new

abbrev pub CallStep : State → List ℕ → Val → List ℕ → List Qual → Result Outcome Error → State → Type 0
CallStep old method arg t quals result new = IsStep old (Call method arg t quals) (outcome_answer result) new

abbrev pub FireStep : State → Val → List ℕ → List Qual → Result Outcome Error → State → Type 0
FireStep old arg t quals result new = IsStep old (Fire arg t quals) (outcome_answer result) new

abbrev pub BeginStep : State → Result (Unit {0}) Refusal → State → Type 0
BeginStep old result new = IsStep old BeginRequest (plain_answer result) new

abbrev pub EndStep : State → Result (Unit {0}) Error → State → Type 0
EndStep old result new = IsStep old EndRequest (edit_answer result) new

abbrev pub StopStep : State → Result (Unit {0}) AllocError → State → Type 0
StopStep old result new = IsStep old Stop (end_answer result) new
