-- What stands behind each step of a legal history: at most one instance of each bean with a normal scope is live, among others.
use Rattle.cdi_container.proofs.Common.{◌≡◌, List, Bool, Option, None, Some, refl, subst, sym, Result, Ok, Err, if◌then◌else◌, [], ◌∷◌, ap}
use Rattle.cdi_container.proofs.Common.{◌∙◌, AllocError, Outcome, Refusal, LegalRun, Scene, State, RunsFrom, emptied, untold, Given}
use Rattle.cdi_container.proofs.Common.{changes_of, changes_of_all, LegalEnd, Entry, Done, EndsRequest, scene, Command, Batch, Chain}
use Rattle.cdi_container.proofs.Common.{LookUp, Call, Fire, BeginRequest, EndRequest, Stop, Unreadable, Answer, Chosen, Intercepted}
use Rattle.cdi_container.proofs.Common.{Observed, Reported, Counted, Worked, Refused, History, Acts, EditsFrom, LegalAnswer, LegalHistory}
use Rattle.cdi_container.proofs.Common.{runs, arith, Standing, IsRequested, IsSingleAt, IsWithinLimit, Step, LegalStep, IsRooted}
use Rattle.cdi_container.proofs.Common.{trace_behind, Edit, empty}
use Rattle.base_lists.proofs.Each.{all-weaker}
use Rattle.cdi_model.specs.declared.edit.Edit.{Edit as Change}
use Rattle.cdi_contexts.specs.{Rising.IsRising, Standing.opened}
use Rattle.cdi_legal.specs.LegalRun.{Command as Run, LegalRequestEnd}
use Rattle.cdi_legal.specs.{Laws.HoldsOfCommands, Single.IsSingle}
use Rattle.cdi_legal.proofs.{Bounding.commands_keep_limit, Bounding.commands_keep_requested, Commands.commands_keep_single}
use Rattle.cdi_legal.proofs.Housing.{both_ends_leave_nothing, commands_keep_rooted}
use Rattle.cdi_lines.specs.declared.command.Command.TheVariants as commands
use Rattle.cdi_container.proofs.HistoryLemmas.{after_asking}
use Rattle.cdi_container.specs.History.{with_request, EndsContexts, IsRunFrom, SharesInstances}

-- ---- what stands

-- At most one instance of each bean with a normal scope is live, at most 1,024 are, and those of the request context only while a request
-- is active; numbers rise along the live instances, and each stands in a context or was made for a point of a live one.
pub record Stands (s : Scene) (x : Standing) : Type 0 where
  pub single : IsSingleAt s x
  pub limit : IsWithinLimit s x
  pub requested : IsRequested s x
  pub rises : IsRising x.given x.live
  pub rooted : IsRooted x.live

abbrev pub Holds : State → Type 0
Holds state = Stands (scene state) state.standing

nothing_single : (s : Scene) → IsSingle s []
nothing_single s = record { one = λ b x there normal. omega arith; shared = λ b x there normal. refl }

-- it holds where nothing is live
pub nothing_stands : (s : Scene) (x : Standing) → x.live ≡ [] → Stands s x
nothing_stands s x e = grind (arith, nothing_single)

-- and where a request is active from now on
request_stands : (s : Scene) (x : Standing) → Stands s x → Stands s (opened x)
request_stands s x q = grind (arith, q.single, q.limit, x.active, x.live, q.requested, q.rises, q.rooted, all-weaker)

-- ---- the ways of steps

-- From what stands, a step has this outcome of a run, this trace, and leaves this: it has no entries, or a run or an end is legal.
pub data Way (s : Scene) (before : Standing) : Option Outcome → List Entry → Standing → Type 0 where
  without_entries : Way s before None [] before
  by_run : (run : Run) (outcome : Outcome) (trace : List Entry) (after : Standing) → LegalRun s run before trace outcome after
      → Way s before (Some outcome) trace after
  by_request_end : (trace : List Entry) (after : Standing) → LegalRequestEnd s before trace after → Way s before None trace after
  by_end : (trace : List Entry) (after : Standing) → LegalEnd s before trace after → Way s before None trace after

-- what holds of commands, and without entries, holds of each way
pub way_holds : {R : Scene → Standing → List Entry → Standing → Type 0} → HoldsOfCommands R → ((s : Scene) (x : Standing) → R s x [] x)
    → {s : Scene} {before : Standing} {given : Option Outcome} {trace : List Entry} {after : Standing} → Way s before given trace after
    → R s before trace after
way_holds laws none {s} {before} without_entries = none s before
way_holds laws none {s} {before} (by_run run outcome trace after l) = laws.run s run before trace outcome after l
way_holds laws none {s} {before} (by_request_end trace after l) = laws.request_end s before trace after l
way_holds laws none {s} {before} (by_end trace after l) = laws.end s before trace after l

way_stands : {s : Scene} {before : Standing} {given : Option Outcome} {trace : List Entry} {after : Standing}
    → Way s before given trace after → Stands s before → Stands s after
way_stands way q =
    grind (
      arith,
      q.rises,
      q.rooted,
      q.single,
      q.limit,
      q.requested,
      way_holds,
      commands_keep_rooted,
      commands_keep_single,
      commands_keep_limit,
      commands_keep_requested,
    )

-- the outcome that is answered
abbrev pub outcome_in : Result Answer AllocError → Option Outcome
outcome_in (Ok (Given outcome)) = Some outcome
outcome_in answer = None

-- a step with this answer and trace goes from what stands to this state
pub record Goes (s : Scene) (before : Standing) (answer : Result Answer AllocError) (trace : List Entry) (new : State) : Type 0 where
  pub after : Standing
  pub way : Way s before (outcome_in answer) trace after
  pub holds : Stands s before → Stands s after → Holds new

-- ---- what is carried out

abbrev GoesTo : State → Answer → State → Type 0
GoesTo old answer new = Goes (scene old) old.standing (Ok answer) new.trace new

-- where it answers like this, and behind it are this trace and what is left by a way
to : (old new : State) {answer like : Answer} {trace : List Entry} {after : Standing} → answer ≡ like → new.trace ≡ trace
    → Way (scene old) old.standing (outcome_in (Ok like)) trace after → (Holds old → Stands (scene old) after → Holds new)
    → GoesTo old answer new
to old new {like = like} {after = after} is traced way holds = grind (arith, old.standing, new.trace)

-- a run leaves the scene
behind : (old new : State) → IsRunFrom old new → Stands (scene old) new.standing → Holds new
behind old new rest r = subst (λ (s : Scene). Stands s new.standing) (sym (ap scene rest)) r

untold_goes : (old new : State) {answer like : Answer} → answer ≡ like → outcome_in (Ok like) ≡ None → new ≡ untold old
    → GoesTo old answer new
untold_goes old new is none h =
    to old new is (ap (λ (s : State). s.trace) h)
    (subst (λ (o : Option Outcome). Way (scene old) old.standing o [] old.standing) (sym none) without_entries)
    (λ q r. subst Holds (sym h) q)

run_goes : (old new : State) (begun : Result Run Refusal) (answer : Answer) → RunsFrom old begun answer new → GoesTo old answer new
run_goes old new begun answer h =
    to old new h.given refl (by_run h.run h.outcome new.trace new.standing h.legal) (λ q r. behind old new h.rest r)

request_end_goes : (old new : State) (answer : Answer) → EndsRequest old answer new → GoesTo old answer new
request_end_goes old new answer h =
    to old new h.done refl (by_request_end new.trace new.standing h.legal) (λ q r. behind old new h.rest r)

stop_goes : (old new : State) (answer : Answer) → EndsContexts old answer new → GoesTo old answer new
stop_goes old new answer h = to old new h.done refl (by_end new.trace new.standing h.legal) (λ q r. behind old new h.rest r)

-- nothing is live behind an edit
edit_goes : (old new : State) (changes : List Change) (answer : Answer) → answer ≡ Done → EditsFrom old changes new → GoesTo old answer new
edit_goes old new changes answer is h =
    to old new is (ap (λ (s : State). s.trace) h.rest) (by_end h.stopped.trace h.stopped.standing h.ends.legal)
    (λ q r. nothing_stands (scene new) new.standing (ap (λ (s : State). s.standing.live) h.rest
    ∙ both_ends_leave_nothing (scene old) old.standing h.stopped.trace h.stopped.standing q.rises q.rooted h.ends.legal))

begin_goes : (old new : State) (answer : Answer) → answer ≡ Done → new ≡ with_request old → GoesTo old answer new
begin_goes old new answer is h =
    to old new is (ap (λ (s : State). s.trace) h) without_entries
    (λ q r. subst Holds (sym h) (request_stands (scene old) old.standing q))

acts_go : (old new : State) (command : Command) (answer : Answer) → Acts old command answer new → GoesTo old answer new
acts_go old new (Edit edit) answer h = edit_goes old new (changes_of edit) answer h.0 h.1
acts_go old new (Batch edits) answer h = edit_goes old new (changes_of_all edits) answer h.0 h.1
acts_go old new (Chain bean place) answer h = untold_goes old new h.given refl h.rest
acts_go old new (LookUp t quals) answer h = run_goes old new _ answer h
acts_go old new (Call method arg t quals) answer h = run_goes old new _ answer h
acts_go old new (Fire arg t quals) answer h = run_goes old new _ answer h
acts_go old new BeginRequest answer h = begin_goes old new answer h.0 h.1
acts_go old new EndRequest answer h = request_end_goes old new answer h
acts_go old new Stop answer h = stop_goes old new answer h
acts_go old new Unreadable answer h = absurd h
acts_go old new other answer h = untold_goes old new h.0 refl h.1

-- ---- steps

unserved_holds : (old : State) (b : Bool) → Holds old → Holds (if b then emptied old else old)
unserved_holds old b q = grind (arith, nothing_stands)

-- what a command evaluates touches nothing that stands
answer_goes : (old new : State) (command : Command) (answer : Result Answer AllocError) → LegalAnswer old command answer new
    → Goes (scene old) old.standing answer (trace_behind answer new) new
answer_goes old new command (Ok Done) h = acts_go (after_asking old command) new command Done h.1
answer_goes old new command (Ok (Chosen choice)) h = acts_go (after_asking old command) new command (Chosen choice) h.1
answer_goes old new command (Ok (Intercepted names)) h = acts_go (after_asking old command) new command (Intercepted names) h.1
answer_goes old new command (Ok (Observed ids)) h = acts_go (after_asking old command) new command (Observed ids) h.1
answer_goes old new command (Ok (Reported list)) h = acts_go (after_asking old command) new command (Reported list) h.1
answer_goes old new command (Ok (Counted counts)) h = acts_go (after_asking old command) new command (Counted counts) h.1
answer_goes old new command (Ok (Worked done)) h = acts_go (after_asking old command) new command (Worked done) h.1
answer_goes old new command (Ok (Given outcome)) h = acts_go (after_asking old command) new command (Given outcome) h.1
answer_goes old new command (Ok (Refused refusal edit)) h = untold_goes (after_asking old command) new refl refl h.1
answer_goes old new command (Err error) h = record {
  after = old.standing;
  way = without_entries;
  holds = λ q r. subst Holds (sym h.rest) (unserved_holds h.left (runs command) (subst Holds (sym h.asks.are) q));
}

pub step_goes : (old new : State) (step : Step) → LegalStep old step new → Goes (scene old) old.standing step.answer step.trace new
step_goes old new step h = grind (arith, old.standing, step.answer, h.trace, step.command, h.answered, answer_goes)

pub step_holds : (old new : State) (step : Step) → LegalStep old step new → Holds old → Holds new
step_holds old new step h q = let goes = step_goes old new step h in goes.holds q (way_stands goes.way q)

-- ---- histories

history_holds : (old new : State) (history : History) → LegalHistory old history new → Holds old → Holds new
history_holds old new [] h q = subst Holds (sym h) q
history_holds old new (step ∷ steps) h q = history_holds h.0 new steps h.2 (step_holds old h.0 step h.1 q)

pub shares_instances : (history : History) → SharesInstances history
shares_instances history book state h =
    (history_holds (empty book) state history h (nothing_stands (scene (empty book)) (empty book).standing refl)).single
