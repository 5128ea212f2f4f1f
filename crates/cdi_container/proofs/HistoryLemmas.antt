-- The declarations and the counts behind a legal history are what its accepted edits make.
use Rattle.cdi_container.proofs.Common.{◌≡◌, List, Bool, subst, sym, Result, Ok, Err, if◌then◌else◌, [], ◌∷◌, ap, ◌∙◌, AllocError, Report}
use Rattle.cdi_container.proofs.Common.{State, asked, emptied, evaluates, Given, edited_all, Done, Command, Batch, Chain, LookUp, Call}
use Rattle.cdi_container.proofs.Common.{Fire, BeginRequest, EndRequest, Stop, Unreadable, Answer, Chosen, Intercepted, Observed, Reported}
use Rattle.cdi_container.proofs.Common.{Counted, Worked, Refused, History, Acts, EditsFrom, LegalAnswer, LegalHistory, runs, arith, Edit}
use Rattle.cdi_container.proofs.Common.{empty}
use Rattle.cdi_model.specs.declared.edit.Edit.{Edit as Change}
use Rattle.cdi_lines.specs.declared.command.Command.TheVariants.{Choose, Named, Observers}
use Rattle.cdi_lines.specs.declared.command.Command.TheVariants as commands
use Rattle.cdi_container.proofs.BatchLemmas.{edited_all-append}
use Rattle.cdi_container.specs.History.{accepted_changes, accepted_edits, RestsOnAcceptedEdits, counts_behind, counts_of}
use Rattle.cdi_container.specs.History.{counts_with, CountsAcceptedEdits}

-- the state after what a command evaluates
abbrev pub after_asking : State → Command → State
after_asking old command = asked old (evaluates old command)

decls_of_edit : (old new : State) (changes : List Change) → EditsFrom old changes new → new.decls ≡ edited_all old.decls changes
decls_of_edit old new changes h = ap (λ s. s.decls) h.rest

-- what a command that was carried out leaves is what its edits make
pub acts_edits : (old new : State) (command : Command) (answer : Answer) → Acts old command answer new
    → new.decls ≡ edited_all old.decls (accepted_changes command (Ok answer))
acts_edits old new (Edit edit) answer h = grind (arith, new.decls, old.decls, h.0, h.1, decls_of_edit)
acts_edits old new (Batch edits) answer h = grind (arith, new.decls, old.decls, h.0, h.1, decls_of_edit)
acts_edits old new (Choose t quals) answer h =
    subst (λ a. new.decls ≡ edited_all old.decls (accepted_changes (Choose t quals) (Ok a))) (sym h.0) (ap (λ s. s.decls) h.1)
acts_edits old new (Named name) answer h =
    subst (λ a. new.decls ≡ edited_all old.decls (accepted_changes (Named name) (Ok a))) (sym h.0) (ap (λ s. s.decls) h.1)
acts_edits old new (Chain bean place) answer h =
    subst (λ a. new.decls ≡ edited_all old.decls (accepted_changes (Chain bean place) (Ok a))) (sym h.given) (ap (λ s. s.decls) h.rest)
acts_edits old new (Observers t quals) answer h =
    subst (λ a. new.decls ≡ edited_all old.decls (accepted_changes (Observers t quals) (Ok a))) (sym h.0) (ap (λ s. s.decls) h.1)
acts_edits old new Report answer h =
    subst (λ a. new.decls ≡ edited_all old.decls (accepted_changes Report (Ok a))) (sym h.0) (ap (λ s. s.decls) h.1)
acts_edits old new commands.Counts answer h =
    subst (λ a. new.decls ≡ edited_all old.decls (accepted_changes commands.Counts (Ok a))) (sym h.0) (ap (λ s. s.decls) h.1)
acts_edits old new commands.Work answer h =
    subst (λ a. new.decls ≡ edited_all old.decls (accepted_changes commands.Work (Ok a))) (sym h.0) (ap (λ s. s.decls) h.1)
acts_edits old new (LookUp t quals) answer h =
    subst (λ a. new.decls ≡ edited_all old.decls (accepted_changes (LookUp t quals) (Ok a))) (sym h.given) (ap (λ s. s.decls) h.rest)
acts_edits old new (Call method arg t quals) answer h = grind (arith, new.decls, old.decls, h.given, h.rest)
acts_edits old new (Fire arg t quals) answer h =
    subst (λ a. new.decls ≡ edited_all old.decls (accepted_changes (Fire arg t quals) (Ok a))) (sym h.given) (ap (λ s. s.decls) h.rest)
acts_edits old new BeginRequest answer h =
    subst (λ a. new.decls ≡ edited_all old.decls (accepted_changes BeginRequest (Ok a))) (sym h.0) (ap (λ s. s.decls) h.1)
acts_edits old new EndRequest answer h =
    subst (λ a. new.decls ≡ edited_all old.decls (accepted_changes EndRequest (Ok a))) (sym h.done) (ap (λ s. s.decls) h.rest)
acts_edits old new Stop answer h =
    subst (λ a. new.decls ≡ edited_all old.decls (accepted_changes Stop (Ok a))) (sym h.done) (ap (λ s. s.decls) h.rest)
acts_edits old new Unreadable answer h = absurd h

unserved_decls : (old : State) (b : Bool) → (if b then emptied old else old).decls ≡ old.decls
unserved_decls old b = grind arith

step_edits : (old new : State) (command : Command) (answer : Result Answer AllocError)
    → LegalAnswer old command answer new → new.decls ≡ edited_all old.decls (accepted_changes command answer)
step_edits old new command (Ok Done) h = acts_edits (after_asking old command) new command Done h.1
step_edits old new command (Ok (Chosen choice)) h = acts_edits (after_asking old command) new command (Chosen choice) h.1
step_edits old new command (Ok (Intercepted names)) h = acts_edits (after_asking old command) new command (Intercepted names) h.1
step_edits old new command (Ok (Observed ids)) h = acts_edits (after_asking old command) new command (Observed ids) h.1
step_edits old new command (Ok (Reported list)) h = acts_edits (after_asking old command) new command (Reported list) h.1
step_edits old new command (Ok (Counted counts)) h = acts_edits (after_asking old command) new command (Counted counts) h.1
step_edits old new command (Ok (Worked done)) h = acts_edits (after_asking old command) new command (Worked done) h.1
step_edits old new command (Ok (Given outcome)) h = acts_edits (after_asking old command) new command (Given outcome) h.1
step_edits old new command (Ok (Refused refusal edit)) h = ap (λ s. s.decls) h.1
step_edits old new command (Err error) h =
    ap (λ s. s.decls) h.rest ∙ unserved_decls h.left (runs command) ∙ ap (λ s. s.decls) h.asks.are

history_edits : (old new : State) (history : History) → LegalHistory old history new
    → new.decls ≡ edited_all old.decls (accepted_edits history)
history_edits old new [] h = ap (λ s. s.decls) h
history_edits old new (step ∷ steps) h =
    history_edits h.0 new steps h.2 ∙ ap (λ ds. edited_all ds (accepted_edits steps))
    (step_edits old h.0 step.command step.answer h.1.answered)
    ∙ sym (edited_all-append old.decls (accepted_changes step.command step.answer) (accepted_edits steps))

pub rests_on_accepted_edits : (history : History) → RestsOnAcceptedEdits history
rests_on_accepted_edits history book state h = history_edits (empty book) state history h

-- ---- counts

counts_of_edit : (old new : State) (changes : List Change) → EditsFrom old changes new
    → new.counts ≡ counts_with old.decls old.counts changes
counts_of_edit old new changes h = ap (λ s. s.counts) h.rest

-- a command that was carried out counts what its edits compute
pub acts_count : (old new : State) (command : Command) (answer : Answer) → Acts old command answer new
    → new.counts ≡ counts_behind old.decls old.counts command (Ok answer)
acts_count old new (Edit edit) answer h = grind (arith, new.counts, old.decls, old.counts, h.0, h.1, counts_of_edit)
acts_count old new (Batch edits) answer h = grind (arith, new.counts, old.decls, old.counts, h.0, h.1, counts_of_edit)
acts_count old new (Choose t quals) answer h =
    subst (λ a. new.counts ≡ counts_behind old.decls old.counts (Choose t quals) (Ok a)) (sym h.0) (ap (λ s. s.counts) h.1)
acts_count old new (Named name) answer h =
    subst (λ a. new.counts ≡ counts_behind old.decls old.counts (Named name) (Ok a)) (sym h.0) (ap (λ s. s.counts) h.1)
acts_count old new (Chain bean place) answer h =
    subst (λ a. new.counts ≡ counts_behind old.decls old.counts (Chain bean place) (Ok a)) (sym h.given) (ap (λ s. s.counts) h.rest)
acts_count old new (Observers t quals) answer h =
    subst (λ a. new.counts ≡ counts_behind old.decls old.counts (Observers t quals) (Ok a)) (sym h.0) (ap (λ s. s.counts) h.1)
acts_count old new Report answer h =
    subst (λ a. new.counts ≡ counts_behind old.decls old.counts Report (Ok a)) (sym h.0) (ap (λ s. s.counts) h.1)
acts_count old new commands.Counts answer h =
    subst (λ a. new.counts ≡ counts_behind old.decls old.counts commands.Counts (Ok a)) (sym h.0) (ap (λ s. s.counts) h.1)
acts_count old new commands.Work answer h =
    subst (λ a. new.counts ≡ counts_behind old.decls old.counts commands.Work (Ok a)) (sym h.0) (ap (λ s. s.counts) h.1)
acts_count old new (LookUp t quals) answer h =
    subst (λ a. new.counts ≡ counts_behind old.decls old.counts (LookUp t quals) (Ok a)) (sym h.given) (ap (λ s. s.counts) h.rest)
acts_count old new (Call method arg t quals) answer h = grind (arith, new.counts, old.decls, old.counts, h.given, h.rest)
acts_count old new (Fire arg t quals) answer h =
    subst (λ a. new.counts ≡ counts_behind old.decls old.counts (Fire arg t quals) (Ok a)) (sym h.given) (ap (λ s. s.counts) h.rest)
acts_count old new BeginRequest answer h =
    subst (λ a. new.counts ≡ counts_behind old.decls old.counts BeginRequest (Ok a)) (sym h.0) (ap (λ s. s.counts) h.1)
acts_count old new EndRequest answer h =
    subst (λ a. new.counts ≡ counts_behind old.decls old.counts EndRequest (Ok a)) (sym h.done) (ap (λ s. s.counts) h.rest)
acts_count old new Stop answer h =
    subst (λ a. new.counts ≡ counts_behind old.decls old.counts Stop (Ok a)) (sym h.done) (ap (λ s. s.counts) h.rest)
acts_count old new Unreadable answer h = absurd h

unserved_counts : (old : State) (b : Bool) → (if b then emptied old else old).counts ≡ old.counts
unserved_counts old b = grind arith

step_counts : (old new : State) (command : Command) (answer : Result Answer AllocError)
    → LegalAnswer old command answer new → new.counts ≡ counts_behind old.decls old.counts command answer
step_counts old new command (Ok Done) h = acts_count (after_asking old command) new command Done h.1
step_counts old new command (Ok (Chosen choice)) h = acts_count (after_asking old command) new command (Chosen choice) h.1
step_counts old new command (Ok (Intercepted names)) h = acts_count (after_asking old command) new command (Intercepted names) h.1
step_counts old new command (Ok (Observed ids)) h = acts_count (after_asking old command) new command (Observed ids) h.1
step_counts old new command (Ok (Reported list)) h = acts_count (after_asking old command) new command (Reported list) h.1
step_counts old new command (Ok (Counted counts)) h = acts_count (after_asking old command) new command (Counted counts) h.1
step_counts old new command (Ok (Worked done)) h = acts_count (after_asking old command) new command (Worked done) h.1
step_counts old new command (Ok (Given outcome)) h = acts_count (after_asking old command) new command (Given outcome) h.1
step_counts old new command (Ok (Refused refusal edit)) h = ap (λ s. s.counts) h.1
step_counts old new command (Err error) h =
    ap (λ s. s.counts) h.rest ∙ unserved_counts h.left (runs command) ∙ ap (λ s. s.counts) h.asks.are

history_counts : (old new : State) (history : History) → LegalHistory old history new
    → new.counts ≡ counts_of old.decls old.counts history
history_counts old new [] h = ap (λ s. s.counts) h
history_counts old new (step ∷ steps) h =
    grind (arith, history_counts h.0 new steps h.2, h.0, h.2, h.0.counts, h.1.answered, step_edits, step_counts)

pub counts_accepted_edits : (history : History) → CountsAcceptedEdits history
counts_accepted_edits history book state h = history_counts (empty book) state history h
