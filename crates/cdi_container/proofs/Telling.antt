-- The entries of a command are told by the names of the declarations before it.
use Rattle.cdi_container.proofs.Common.{◌≡◌, refl, subst, sym, Ok, ap, State, untold, Given, changes_of, changes_of_all, Done, Command}
use Rattle.cdi_container.proofs.Common.{Batch, Chain, LookUp, Call, Fire, BeginRequest, EndRequest, Stop, Unreadable, Answer, Chosen}
use Rattle.cdi_container.proofs.Common.{Intercepted, Observed, Reported, Counted, Worked, Refused, Acts, EditsFrom, IsStep, List, Edit}
use Rattle.cdi_model.specs.declared.edit.Edit.{Edit as Change}
use Rattle.cdi_lines.specs.declared.command.Command.TheVariants as commands
use Rattle.cdi_container.proofs.HistoryLemmas.{after_asking}
use Rattle.cdi_container.specs.History.{told_on}

-- the entries of a command are told by the declarations before it
abbrev pub Tells : State → State → Type 0
Tells old new = new.text ≡ told_on old new.trace

untold_tells : (old new : State) → new ≡ untold old → Tells old new
untold_tells old new h = subst (Tells old) (sym h) refl

edit_tells : (old new : State) (changes : List Change) → EditsFrom old changes new → Tells old new
edit_tells old new changes h = subst (Tells old) (sym h.rest) (ap (λ s. s.text) h.ends.rest)

pub acts_tell : (old new : State) (command : Command) (answer : Answer) → Acts old command answer new → Tells old new
acts_tell old new (Edit edit) answer h = edit_tells old new (changes_of edit) h.1
acts_tell old new (Batch edits) answer h = edit_tells old new (changes_of_all edits) h.1
acts_tell old new (Chain bean place) answer h = untold_tells old new h.rest
acts_tell old new (LookUp t quals) answer h = ap (λ s. s.text) h.rest
acts_tell old new (Call method arg t quals) answer h = ap (λ s. s.text) h.rest
acts_tell old new (Fire arg t quals) answer h = ap (λ s. s.text) h.rest
acts_tell old new BeginRequest answer h = subst (Tells old) (sym h.1) refl
acts_tell old new EndRequest answer h = ap (λ s. s.text) h.rest
acts_tell old new Stop answer h = ap (λ s. s.text) h.rest
acts_tell old new Unreadable answer h = absurd h
acts_tell old new other answer h = untold_tells old new h.1

pub step_tells : (old new : State) (command : Command) (answer : Answer) → IsStep old command (Ok answer) new → Tells old new
step_tells old new command Done h = acts_tell (after_asking old command) new command Done h.1
step_tells old new command (Chosen choice) h = acts_tell (after_asking old command) new command (Chosen choice) h.1
step_tells old new command (Intercepted names) h = acts_tell (after_asking old command) new command (Intercepted names) h.1
step_tells old new command (Observed ids) h = acts_tell (after_asking old command) new command (Observed ids) h.1
step_tells old new command (Reported list) h = acts_tell (after_asking old command) new command (Reported list) h.1
step_tells old new command (Counted counts) h = acts_tell (after_asking old command) new command (Counted counts) h.1
step_tells old new command (Worked done) h = acts_tell (after_asking old command) new command (Worked done) h.1
step_tells old new command (Given outcome) h = acts_tell (after_asking old command) new command (Given outcome) h.1
step_tells old new command (Refused refusal edit) h = untold_tells (after_asking old command) new h.1
