-- The state of a container, and its legal steps and histories.
use Rattle.std.specs.Prelude.{◌≡◌, ◌≢◌, ◌≤◌, ℕ, Bool, true, false, List, [], ◌∷◌, ◌++◌, AllPairs, Option, None, Some, Result, Ok, Err, if◌then◌else◌}
use Rattle.std.specs.List.{list_all}
use Rattle.std.specs.declared.alloc.AllocError.{AllocError}
use Rattle.cdi_model.specs.declared.decl.Decl.{Decl}
use Rattle.cdi_model.specs.declared.outcome.Outcome.{Outcome}
use Rattle.cdi_model.specs.declared.place.BeanPlace.{BeanPlace}
use Rattle.cdi_model.specs.declared.refusal.Error.{Error}
use Rattle.cdi_model.specs.declared.refusal.Error.TheVariants as errors
use Rattle.cdi_model.specs.declared.refusal.Refusal.{Refusal}
use Rattle.cdi_model.specs.declared.refusal.Refusal.TheVariants.{BadCommand, RequestActive, NoRequest}
use Rattle.cdi_model.specs.declared.edit.Edit.{Edit as Change}
use Rattle.cdi_model.specs.Edits.{edited_all, edited_keys}
use Rattle.cdi_bodies.specs.Book.{Promised}
use Rattle.cdi_contexts.specs.Standing.{Standing, opened, cleared}
use Rattle.cdi_scene.specs.Sound.{IsSound}
use Rattle.cdi_scene.specs.declared.scene.Scene.{Scene}
use Rattle.cdi_legal.specs.Laws.{HasCause, IsFaultless, IsOrdered, IsRequested, IsSingleAt, IsWithinLimit}
use Rattle.cdi_legal.specs.LegalRun.{Command as Run, LegalRun, LegalRequestEnd, LegalEnd}
use Rattle.cdi_legal.specs.Single.{IsSingle}
use Rattle.cdi_legal.specs.Throughout.{Throughout}
use Rattle.cdi_legal.specs.declared.entry.Entry.{Entry}
use Rattle.cdi_effective.specs.Beans.{beans}
use Rattle.cdi_index.specs.Counted.{counted}
use Rattle.cdi_index.specs.State.{Staged}
use Rattle.cdi_index.specs.declared.counts.Counts.{Counts}
use Rattle.cdi_resolve.specs.Choices.{chosen, chosen_by_name}
use Rattle.cdi_intercept.specs.Chains.{chain_of}
use Rattle.cdi_observe.specs.Keys.{Key, ChainKey, EventKey, choice_key, has_key}
use Rattle.cdi_observe.specs.Observers.{notified}
use Rattle.cdi_observe.specs.Wanted.{wanted}
use Rattle.cdi_staging.specs.Naming.{names_of}
use Rattle.cdi_staging.specs.Staged.{scene_of}
use Rattle.cdi_staging.specs.declared.names.Names.{Names}
use Rattle.cdi_trace.specs.TraceText.{text_of_entries}
use Rattle.cdi_validate.specs.Faults.{faults}
use Rattle.cdi_lines.specs.declared.command.Command.{Command}
use Rattle.cdi_lines.specs.declared.command.Command.TheVariants as commands
use Rattle.cdi_lines.specs.declared.command.Command.TheVariants.{Edit, Batch, Choose, Named, Chain, Observers, Report, LookUp, Call, Fire}
use Rattle.cdi_lines.specs.declared.command.Command.TheVariants.{BeginRequest, EndRequest}
use Rattle.cdi_lines.specs.declared.command.Command.TheVariants.{Stop, Unreadable}
use Rattle.cdi_container.specs.Known.{keys_of_chain, keys_of_event, keys_of_use, known_still, known_with, work_with, worked}
use Rattle.cdi_container.specs.Editing.{Reason, alone, change_of, changes_of, changes_of_all, refusal_of_batch, refusal_of_change}
use Rattle.cdi_container.specs.declared.answer.Answer.{Answer}
use Rattle.cdi_container.specs.declared.answer.Answer.TheVariants.{Done, Chosen, Intercepted, Observed, Reported, Counted, Worked, Given, Refused}
use Rattle.cdi_container.specs.Asked.{to_look, to_call, run_of_event, run_of_use}

-- what a container holds
pub record State : Type 0 where
  -- the present declarations
  pub decls : List Decl
  -- how many records were computed
  pub counts : Counts
  -- the keys whose answers are known, in the order in which the declarations ask for them
  pub known : List Key
  -- how many answers were computed
  pub work : ℕ
  -- the stored bodies, which never change
  pub book : List Promised
  -- the live instances, what they hold, how many numbers were given, and whether a request is active
  pub standing : Standing
  -- the entries of the last command that was answered
  pub trace : List Entry
  -- what is printed of them
  pub text : List ℕ

-- no record was computed
abbrev pub no_counts : Counts
no_counts = record { closures = 0; beans = 0 }

abbrev pub empty : List Promised → State
empty book = record { decls = []; counts = no_counts; known = []; work = 0; book = book; standing = cleared 0; trace = []; text = [] }

abbrev pub scene : State → Scene
scene state = scene_of state.decls state.book

-- what is printed of entries on these declarations
abbrev pub told_on : State → List Entry → List ℕ
told_on state trace = text_of_entries (names_of state.decls) trace

-- the same, behind a command that makes, calls and destroys nothing
abbrev pub untold : State → State
untold state = record state { trace = []; text = [] }

-- no instance is live and no request active; numbers go on
abbrev pub emptied : State → State
emptied state = record state { standing = cleared state.standing.given; trace = []; text = [] }

abbrev pub with_request : State → State
with_request state = record state { standing = opened state.standing; trace = []; text = [] }

-- ---- what is evaluated

-- some keys were evaluated, each of which is listed once
abbrev pub asked : State → List Key → State
asked state keys = record state { known = known_with state.decls state.known keys; work = work_with state.known keys state.work }

-- some of these keys were evaluated, or none
pub record AsksSome (old : State) (keys : List Key) (new : State) : Type 0 where
  pub some : List Key
  pub among : list_all (has_key keys) some ≡ true
  pub apart : AllPairs (λ k l. k ≢ l) some
  pub are : new ≡ asked old some

-- the keys that a command evaluates
abbrev pub evaluates : State → Command → List Key
evaluates state (Choose t quals) = choice_key t quals ∷ []
evaluates state (Chain bean place) = keys_of_chain (chain_of state.decls bean place) (ChainKey bean place)
evaluates state (Observers t quals) = EventKey t quals ∷ []
evaluates state Report = wanted state.decls
evaluates state (LookUp t quals) = keys_of_use state.decls state.book t quals
evaluates state (Call method arg t quals) = keys_of_use state.decls state.book t quals
evaluates state (Fire arg t quals) = keys_of_event state.decls state.book t quals
evaluates state command = []

-- ---- refusals

abbrev pub refusal_of_begin : Standing → Option Refusal
refusal_of_begin standing = if standing.active then Some RequestActive else None

abbrev pub refusal_of_end : Standing → Option Refusal
refusal_of_end standing = if standing.active then None else Some NoRequest

abbrev pub refusal_in : {X : Type 0} → Result X Refusal → Option Refusal
refusal_in (Ok x) = None
refusal_in (Err refusal) = Some refusal

-- the first refusal whose condition holds, and of a batch the number of the edit for which it does
abbrev pub refusal_of : State → Command → Option Reason
refusal_of state (Edit edit) = alone (refusal_of_change state.decls (change_of edit))
refusal_of state (Batch edits) = refusal_of_batch state.decls edits
refusal_of state (Choose t quals) = None
refusal_of state (Named name) = None
refusal_of state (Chain bean place) = alone (refusal_in (chain_of state.decls bean place))
refusal_of state (Observers t quals) = None
refusal_of state Report = None
refusal_of state commands.Counts = None
refusal_of state commands.Work = None
refusal_of state (LookUp t quals) = alone (refusal_in (run_of_use state.decls state.book (to_look t quals)))
refusal_of state (Call method arg t quals) = alone (refusal_in (run_of_use state.decls state.book (to_call method arg t quals)))
refusal_of state (Fire arg t quals) = alone (refusal_in (run_of_event state.decls state.book arg t quals))
refusal_of state BeginRequest = alone (refusal_of_begin state.standing)
refusal_of state EndRequest = alone (refusal_of_end state.standing)
refusal_of state Stop = None
refusal_of state Unreadable = Some (BadCommand, None)

-- ---- what commands do

-- nothing but what stands and the trace is changed
abbrev pub IsRunFrom : State → State → Type 0
IsRunFrom old new = new ≡ record old { standing = new.standing; trace = new.trace; text = told_on old new.trace }

-- the run that so begins is legal and has this outcome
pub record RunsFrom (old : State) (begun : Result Run Refusal) (answer : Answer) (new : State) : Type 0 where
  pub run : Run
  pub begins : begun ≡ Ok run
  pub outcome : Outcome
  pub given : answer ≡ Given outcome
  pub legal : LegalRun (scene old) run old.standing new.trace outcome new.standing
  pub rest : IsRunFrom old new

-- the request context ends legally, and then no request is active
pub record EndsRequest (old : State) (answer : Answer) (new : State) : Type 0 where
  pub done : answer ≡ Done
  pub legal : LegalRequestEnd (scene old) old.standing new.trace new.standing
  pub rest : IsRunFrom old new

-- both contexts end legally, and then no request is active
pub record EndsContexts (old : State) (answer : Answer) (new : State) : Type 0 where
  pub done : answer ≡ Done
  pub legal : LegalEnd (scene old) old.standing new.trace new.standing
  pub rest : IsRunFrom old new

-- first both contexts end, as at a stop, on the declarations before; then these declarations and counts are present, the known keys
-- are those that were known, are still wanted and are not touched, and nothing else is changed
pub record Redeploys (old : State) (next : Staged) (new : State) : Type 0 where
  pub stopped : State
  pub ends : EndsContexts old Done stopped
  pub rest : new ≡ record stopped { decls = next.decls; counts = next.counts; known = known_still old.decls next.decls old.known }

-- the counts after changes that are made at once
abbrev pub counts_with : List Decl → Counts → List Change → Counts
counts_with ds counts changes = counted counts ds (edited_all ds changes) (edited_keys changes)

abbrev pub next_by : List Decl → Counts → List Change → Staged
next_by ds counts changes = record { decls = edited_all ds changes; counts = counts_with ds counts changes }

-- so it is at an accepted edit, and once at an accepted batch (profile)
abbrev pub EditsFrom : State → List Change → State → Type 0
EditsFrom old changes new = Redeploys old (next_by old.decls old.counts changes) new

-- the interceptors around a place of a bean are told
pub record TellsChain (old : State) (bean : List ℕ) (place : BeanPlace) (answer : Answer) (new : State) : Type 0 where
  pub names : List (List ℕ)
  pub around : chain_of old.decls bean place ≡ Ok names
  pub given : answer ≡ Intercepted names
  pub rest : new ≡ untold old

-- what a command that isn't refused answers, and the state that it leaves
abbrev pub Acts : State → Command → Answer → State → Type 0
Acts old (Edit edit) answer new = (answer ≡ Done) × EditsFrom old (changes_of edit) new
Acts old (Batch edits) answer new = (answer ≡ Done) × EditsFrom old (changes_of_all edits) new
Acts old (Choose t quals) answer new = (answer ≡ Chosen (chosen old.decls (beans old.decls) t quals)) × (new ≡ untold old)
Acts old (Named name) answer new = (answer ≡ Chosen (chosen_by_name (beans old.decls) name)) × (new ≡ untold old)
Acts old (Chain bean place) answer new = TellsChain old bean place answer new
Acts old (Observers t quals) answer new =
    (answer ≡ Observed (notified old.decls (beans old.decls) t quals)) × (new ≡ untold old)
Acts old Report answer new = (answer ≡ Reported (faults old.decls old.book)) × (new ≡ untold old)
Acts old commands.Counts answer new = (answer ≡ Counted old.counts) × (new ≡ untold old)
Acts old commands.Work answer new = (answer ≡ Worked (worked old.work old.known)) × (new ≡ untold old)
Acts old (LookUp t quals) answer new = RunsFrom old (run_of_use old.decls old.book (to_look t quals)) answer new
Acts old (Call method arg t quals) answer new = RunsFrom old (run_of_use old.decls old.book (to_call method arg t quals)) answer new
Acts old (Fire arg t quals) answer new = RunsFrom old (run_of_event old.decls old.book arg t quals) answer new
Acts old BeginRequest answer new = (answer ≡ Done) × (new ≡ with_request old)
Acts old EndRequest answer new = EndsRequest old answer new
Acts old Stop answer new = EndsContexts old answer new
Acts old Unreadable answer new = ⊥

-- some of these keys were evaluated, and the run took no memory that it needed
pub record LeavesRun (old : State) (keys : List Key) (new : State) : Type 0 where
  pub left : State
  pub asks : AsksSome old keys left
  pub rest : new ≡ emptied left

-- what a look-up, a call or an event that evaluates these keys and whose run so begins answers, and leaves
abbrev pub RunAnswers : State → List Key → Result Run Refusal → Result Outcome Error → State → Type 0
RunAnswers old keys begun (Ok outcome) new = RunsFrom (asked old keys) begun (Given outcome) new
RunAnswers old keys begun (Err errors.OutOfMemory) new = LeavesRun old keys new
RunAnswers old keys begun (Err (errors.Refused refusal)) new = (begun ≡ Err refusal) × (new ≡ untold (asked old keys))

-- where a run whose beginning is this was refused, it was for this
abbrev pub IsRefusedBy : Result Run Refusal → Error → Type 0
IsRefusedBy begun errors.OutOfMemory = Unit {0}
IsRefusedBy begun (errors.Refused refusal) = begun ≡ Err refusal

-- what a run that evaluates these keys leaves where it is refused, or runs out of memory
abbrev pub Unplayed : State → List Key → Error → State → Type 0
Unplayed old keys errors.OutOfMemory new = LeavesRun old keys new
Unplayed old keys (errors.Refused refusal) new = new ≡ untold (asked old keys)

-- what a call leaves that was refused, or that found no memory and is no run
abbrev pub left_by : Error → State → State
left_by errors.OutOfMemory old = old
left_by (errors.Refused refusal) old = untold old

-- the command makes and calls instances
abbrev pub runs : Command → Bool
runs (LookUp t quals) = true
runs (Call method arg t quals) = true
runs (Fire arg t quals) = true
runs command = false

-- what want of memory leaves: of a run no instance and no request, and otherwise, where contexts were to end too, all as it was
abbrev pub left_unserved : State → Command → State
left_unserved old command = if runs command then emptied old else old

-- Some of the keys that the command evaluates were evaluated, or none.
pub record Unserved (old : State) (command : Command) (new : State) : Type 0 where
  pub left : State
  pub asks : AsksSome old (evaluates old command) left
  pub rest : new ≡ left_unserved left command

-- A refusal is the first whose condition holds, and changes nothing but what the command evaluates.
abbrev pub LegalAnswer : State → Command → Result Answer AllocError → State → Type 0
LegalAnswer old command (Ok (Refused refusal edit)) new =
    (refusal_of old command ≡ Some (refusal, edit)) × (new ≡ untold (asked old (evaluates old command)))
LegalAnswer old command (Ok answer) new = (refusal_of old command ≡ None) × Acts (asked old (evaluates old command)) command answer new
LegalAnswer old command (Err error) new = Unserved old command new

-- ---- steps

pub record Step : Type 0 where
  pub command : Command
  -- none where memory ran out
  pub answer : Result Answer AllocError
  pub trace : List Entry
  -- what the trace is told by
  pub names : Names

abbrev pub History : Type 0
History = List Step

-- the trace of a step is what is shown behind it, and nothing where memory ran out
abbrev pub trace_behind : Result Answer AllocError → State → List Entry
trace_behind (Ok answer) new = new.trace
trace_behind (Err error) new = []

pub record LegalStep (old : State) (step : Step) (new : State) : Type 0 where
  pub answered : LegalAnswer old step.command step.answer new
  pub trace : step.trace ≡ trace_behind step.answer new
  pub names : step.names ≡ names_of old.decls

abbrev pub LegalHistory : State → History → State → Type 0
LegalHistory old [] new = new ≡ old
LegalHistory old (step ∷ steps) new = (mid : State) × LegalStep old step mid × LegalHistory mid steps new

-- ---- what declarations rest on

-- the changes that a command makes where it is accepted
abbrev pub changes_by : Command → List Change
changes_by (Edit edit) = changes_of edit
changes_by (Batch edits) = changes_of_all edits
changes_by command = []

-- the changes that a step makes, if its command was accepted
abbrev pub accepted_changes : Command → Result Answer AllocError → List Change
accepted_changes command (Ok Done) = changes_by command
accepted_changes command answer = []

-- those of the accepted edits and batches of a history, in order
abbrev pub accepted_edits : History → List Change
accepted_edits [] = []
accepted_edits (step ∷ steps) = accepted_changes step.command step.answer ++ accepted_edits steps

-- the declarations behind a legal history rest on its accepted edits alone: they are what these make of the empty list
abbrev pub RestsOnAcceptedEdits : History → Type 0
RestsOnAcceptedEdits history = (book : List Promised) (state : State) → LegalHistory (empty book) history state
    → state.decls ≡ edited_all [] (accepted_edits history)

-- ---- what counts rest on

-- the counts after a command that is accepted: an edit and a batch raise them
abbrev pub counts_by : List Decl → Counts → Command → Counts
counts_by ds counts (Edit edit) = counts_with ds counts (changes_of edit)
counts_by ds counts (Batch edits) = counts_with ds counts (changes_of_all edits)
counts_by ds counts command = counts

-- and after a step
abbrev pub counts_behind : List Decl → Counts → Command → Result Answer AllocError → Counts
counts_behind ds counts command (Ok Done) = counts_by ds counts command
counts_behind ds counts command answer = counts

-- those after the accepted edits and batches of a history, one after another, where these declarations and counts came before it
abbrev pub counts_of : List Decl → Counts → History → Counts
counts_of ds counts [] = counts
counts_of ds counts (step ∷ steps) =
    counts_of (edited_all ds (accepted_changes step.command step.answer)) (counts_behind ds counts step.command step.answer) steps

-- the counts behind a legal history rest on its accepted edits and batches alone: they are what these raise from none
abbrev pub CountsAcceptedEdits : History → Type 0
CountsAcceptedEdits history = (book : List Promised) (state : State) → LegalHistory (empty book) history state
    → state.counts ≡ counts_of [] no_counts history

-- ---- what stands

-- at most one instance of each bean with a normal scope is live behind a legal history (CDI 4.0, Normal scopes and
-- pseudo-scopes)
abbrev pub SharesInstances : History → Type 0
SharesInstances history = (book : List Promised) (state : State) → LegalHistory (empty book) history state
    → IsSingle (scene state) state.standing.live

-- ---- what traces keep

-- It is the outcome of a legal look-up, call or event with this trace: bodies were asked at most 20,000 times outside destruction, and a
-- failure has its cause.
pub record RanWithin (old : State) (trace : List Entry) (outcome : Outcome) : Type 0 where
  pub run : Run
  pub after : Standing
  pub legal : LegalRun (scene old) run old.standing trace outcome after
  pub budget : legal.end.asked ≤ 20000
  pub cause : HasCause (scene old) old.standing legal.end outcome

-- The trace of a step keeps the limits of what is open, and each entry is in its place. In a sound scene each body that runs is one of the
-- book, at a place that allows it. At each point at most one instance of each bean with a normal scope is live, at most 1,024 are, and
-- those of the request context only while a request is active.
pub record IsLawful (old : State) (step : Step) : Type 0 where
  pub ordered : IsOrdered (scene old) step.trace
  pub faultless : IsSound old.book (scene old) → IsFaultless old.book (scene old) step.trace
  pub single : Throughout (IsSingleAt (scene old)) old.standing step.trace
  pub limit : Throughout (IsWithinLimit (scene old)) old.standing step.trace
  pub requested : Throughout (IsRequested (scene old)) old.standing step.trace
  pub ran : (outcome : Outcome) → step.answer ≡ Ok (Given outcome) → RanWithin old step.trace outcome

-- it holds of each step, on the state before it
abbrev pub EachStep : (State → Step → Type 0) → (old : State) (history : History) (new : State) → LegalHistory old history new → Type 0
EachStep P old [] new legal = Unit {0}
EachStep P old (step ∷ steps) new legal = P old step × EachStep P legal.0 steps new legal.2

-- so it is of each step of a legal history
abbrev pub HasLawfulTraces : History → Type 0
HasLawfulTraces history = (book : List Promised) (state : State) (legal : LegalHistory (empty book) history state)
    → EachStep IsLawful (empty book) history state legal
