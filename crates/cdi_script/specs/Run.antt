-- What a run of a script wrote.
use Rattle.std.specs.Prelude.{◌≡◌, ◌⊎◌, ℕ, ◌<◌, ◌≤◌, Bool, true, false, List, [], ◌∷◌, ◌++◌, length, map, Option}
use Rattle.std.specs.List.{list_any}
use Rattle.std.specs.Io.KnownBytes.{Appends, Consumes, IsAtEnd}
use Rattle.cdi_bodies.specs.Book.{Promised}
use Rattle.cdi_lines.specs.declared.command.Command.{Command}
use Rattle.cdi_script.specs.Commands.{commands, complete_commands, mode_of, AreFirst}
use Rattle.cdi_lines.specs.Lines.{begun_line}
use Rattle.cdi_container.specs.History.{State, empty, runs as is_run, Step, LegalStep, History, LegalHistory}
use Rattle.cdi_script.specs.Runner.{RunnerOn, Tries}
use Rattle.cdi_script.specs.Text.{text_of, is_refused, is_out_of_memory}
use Rattle.cdi_devices.specs.Counted.{inner_of, bytes_of, has_failed, is_flushed, is_settled}
use Rattle.cdi_devices.specs.declared.counted.Counted.{Counted}
use Rattle.cdi_script.specs.declared.runner.Runner.{Runner}
use Rattle.cdi_script.specs.Intake.{IntakeOn, intake_on, Keeps}
use Rattle.cdi_script.specs.declared.intake.Intake.{Intake}

-- how a script is run: whether traces are left out, and the state from which its history begins
pub record Setting : Type 0 where
  pub quiet : Bool
  pub begun : State

-- from this state of a container
abbrev pub setting_from : Bool → State → Setting
setting_from quiet state = record { quiet = quiet; begun = state }

-- from an empty container, which keeps these stored bodies
abbrev pub setting_with : Bool → List Promised → Setting
setting_with quiet book = setting_from quiet (empty book)

-- a legal history from the state where it begins to this one, of these commands, none of which wanted memory
pub record IsHistoryOf (begun : State) (commands : List Command) (history : History) (state : State) : Type 0 where
  pub legal : LegalHistory begun history state
  pub commands_are : map (λ step. step.command) history ≡ commands
  pub memory : list_any (λ step. is_out_of_memory step.answer) history ≡ false

-- the text of such a history, which leaves this state, was written
pub record WroteAll (setting : Setting) (start now : Option (List ℕ)) (commands : List Command) (left : State) : Type 0 where
  pub history : History
  pub is_history : IsHistoryOf setting.begun commands history left
  pub written : Appends start now (text_of setting.quiet history)

-- a front part of the text of such a history, which leaves this state, was written
pub record WrotePart (setting : Setting) (start now : Option (List ℕ)) (commands : List Command) (left : State) : Type 0 where
  pub history : History
  pub is_history : IsHistoryOf setting.begun commands history left
  pub part : List ℕ
  pub rest : List ℕ
  pub text : text_of setting.quiet history ≡ part ++ rest
  pub written : Appends start now part

-- the text of a legal history of the script's commands, which leaves this state, was written, and it tells whether one was refused
pub record RunsWhole (setting : Setting) (start now : Option (List ℕ)) (commands : List Command) (refused : Bool) (left : State)
    : Type 0 where
  pub history : History
  pub is_history : IsHistoryOf setting.begun commands history left
  pub written : Appends start now (text_of setting.quiet history)
  pub refused_is : refused ≡ list_any (λ step. is_refused step.answer) history

-- what came of a script, the commands that it made complete, and the first of them, which were answered: all that were complete
-- before the last read, which gave at most so many bytes, and then maybe some of those that the last read or the end of input completed
module _ {R : Type 0} (remaining : R → Option (List ℕ)) (limit piece : ℕ) where
  pub record AnswersFirst (reader reader_after : Counted R) (first all : List Command) : Type 0 where
    pub given : List ℕ
    pub last : List ℕ
    pub came : Consumes (remaining (inner_of reader)) (remaining (inner_of reader_after)) (given ++ last)
    pub count : bytes_of reader_after ≡ length (given ++ last)
    pub within : length (given ++ last) ≤ limit
    pub last_read : length last ≤ piece
    pub all_before : AreFirst (complete_commands given) first
    pub among : AreFirst first all
    pub complete : (all ≡ complete_commands (given ++ last))
        ⊎ (IsAtEnd (remaining (inner_of reader_after)) × (all ≡ commands (given ++ last)))

-- a legal step of the command that comes next was made
abbrev pub CarriesOutNext : List Command → List Command → State → State → Type 0
CarriesOutNext first all state left = (step : Step) × AreFirst (first ++ step.command ∷ []) all × LegalStep state step left

-- a run comes next, and did not begin
abbrev pub LeavesNextRun : List Command → List Command → State → State → Type 0
LeavesNextRun first all state left = (command : Command) × AreFirst (first ++ command ∷ []) all × (is_run command ≡ true) × (left ≡ state)

-- What is left where the first of all complete commands were answered and left a state. The next one was carried out: it found no
-- memory, or its text was not written. Or it is a run whose line found no memory to be read. Or no other was complete.
abbrev pub Leaves : List Command → List Command → State → State → Type 0
Leaves first all state left =
    CarriesOutNext first all state left ⊎ (LeavesNextRun first all state left ⊎ ((first ≡ all) × (left ≡ state)))

module _ {R W : Type 0} (remaining : R → Option (List ℕ)) (contents : W → Option (List ℕ)) (limit : ℕ) (setting : Setting) where
  -- some input came to its end, at most as many bytes as the limit, and the text of a legal history of its commands, which leaves
  -- this state, was written
  pub record RunsScriptTo (reader reader_after : Counted R) (writer writer_after : Counted W) (refused : Bool) (left : State)
      : Type 0 where
    pub input : List ℕ
    pub came : Consumes (remaining (inner_of reader)) (remaining (inner_of reader_after)) input
    pub end : IsAtEnd (remaining (inner_of reader_after))
    pub count : bytes_of reader_after ≡ length input
    pub within : length input ≤ limit
    pub runs : RunsWhole setting (contents (inner_of writer)) (contents (inner_of writer_after)) (commands input) refused left

  abbrev pub RunsScript : Counted R → Counted R → Counted W → Counted W → Bool → Type 0
  RunsScript reader reader_after writer writer_after refused = (left : State)
      × RunsScriptTo reader reader_after writer writer_after refused left

  -- some input came, at most as many bytes as the limit and then at most one after it, and the text of the commands whose lines were
  -- complete, which leave this state, was written
  pub record FailsToReadTo (reader reader_after : Counted R) (writer writer_after : Counted W) (left : State) : Type 0 where
    pub given : List ℕ
    pub extra : List ℕ
    pub came : Consumes (remaining (inner_of reader)) (remaining (inner_of reader_after)) (given ++ extra)
    pub within : length given ≤ limit
    pub behind : 0 < length extra → (length given ≡ limit) × (length extra ≡ 1)
    pub wrote : WroteAll setting (contents (inner_of writer)) (contents (inner_of writer_after)) (complete_commands given) left

  abbrev pub FailsToRead : Counted R → Counted R → Counted W → Counted W → Type 0
  FailsToRead reader reader_after writer writer_after = (left : State)
      × FailsToReadTo reader reader_after writer writer_after left

module _ {R W : Type 0} (remaining : R → Option (List ℕ)) (contents : W → Option (List ℕ)) (limit piece : ℕ) (setting : Setting) where
  -- the text of the commands before one that found no memory was written, and this state is left
  pub record RunsOutOfMemoryTo (reader reader_after : Counted R) (writer writer_after : Counted W) (left : State) : Type 0 where
    pub first : List Command
    pub all : List Command
    pub state : State
    pub answers : AnswersFirst remaining limit piece reader reader_after first all
    pub wrote : WroteAll setting (contents (inner_of writer)) (contents (inner_of writer_after)) first state
    pub leaves : Leaves first all state left

  abbrev pub RunsOutOfMemory : Counted R → Counted R → Counted W → Counted W → Type 0
  RunsOutOfMemory reader reader_after writer writer_after = (left : State)
      × RunsOutOfMemoryTo reader reader_after writer writer_after left

  -- the writer failed, and a front part of the text of the commands that were answered was written; this state is left. It may have
  -- failed at what was to be written before a run ended out of memory
  pub record FailsToWriteTo (reader reader_after : Counted R) (writer writer_after : Counted W) (left : State) : Type 0 where
    pub first : List Command
    pub all : List Command
    pub state : State
    pub answers : AnswersFirst remaining limit piece reader reader_after first all
    pub wrote : WrotePart setting (contents (inner_of writer)) (contents (inner_of writer_after)) first state
    pub leaves : Leaves first all state left

  abbrev pub FailsToWrite : Counted R → Counted R → Counted W → Counted W → Type 0
  FailsToWrite reader reader_after writer writer_after = (left : State)
      × FailsToWriteTo reader reader_after writer writer_after left

-- ---- on the way

-- the runner's history is of these commands, and its text was written but for what is printed last
pub record Printed (setting : Setting) (start now : Option (List ℕ)) (r : RunnerOn) (commands : List Command) : Type 0 where
  pub history : History
  pub is_history : IsHistoryOf setting.begun commands history r.container
  pub sent : List ℕ
  pub text : text_of setting.quiet history ≡ sent ++ r.out
  pub written : Appends start now sent
  pub refused_is : r.refused ≡ list_any (λ step. is_refused step.answer) history
  pub quiet_is : r.quiet ≡ setting.quiet

-- the text of the first of all these commands was written, and of the next at most a step was made
pub record WroteAllBut (setting : Setting) (start now : Option (List ℕ)) (first all : List Command) (left : State) : Type 0 where
  pub state : State
  pub wrote : WroteAll setting start now first state
  pub tries : Tries first all state left

-- so for a front part of their text
pub record WrotePartBut (setting : Setting) (start now : Option (List ℕ)) (first all : List Command) (left : State) : Type 0 where
  pub state : State
  pub wrote : WrotePart setting start now first state
  pub tries : Tries first all state left

-- an intake stands as these bytes leave it
pub record Stands (setting : Setting) (start now : Option (List ℕ)) (s : IntakeOn) (given : List ℕ) : Type 0 where
  pub printed : Printed setting start now s.runner (complete_commands given)
  pub keeps : Keeps s (mode_of given) (begun_line given)

module _ {W : Type 0} (contents : W → Option (List ℕ)) where
  abbrev pub contents_of : Counted W → Option (List ℕ)
  contents_of w = contents (inner_of w)

  -- what is printed was written and flushed
  pub record Sends (old new : Runner) (before after : Counted W) : Type 0 where
    pub written : Appends (contents_of before) (contents_of after) old.out.items
    pub out : new.out.items ≡ []
    pub refused : new.refused ≡ old.refused
    pub quiet : new.quiet ≡ old.quiet
    pub still : has_failed after ≡ has_failed before
    pub flushed : is_flushed after ≡ true

  -- a front part of what is printed was written, and the writer failed
  pub record SendsPart (old : Runner) (before after : Counted W) : Type 0 where
    pub part : List ℕ
    pub rest : List ℕ
    pub out : old.out.items ≡ part ++ rest
    pub written : Appends (contents_of before) (contents_of after) part
    pub failed : has_failed after ≡ true

  -- all that is printed was written and flushed
  pub record SendsLast (old : Runner) (before after : Counted W) : Type 0 where
    pub written : Appends (contents_of before) (contents_of after) old.out.items
    pub still : has_failed after ≡ has_failed before
    pub flushed : is_flushed after ≡ true

  -- wherever the intake stood, it stands behind these bytes now
  abbrev pub Feeds : IntakeOn → IntakeOn → Counted W → Counted W → List ℕ → Type 0
  Feeds old new before after bytes = (setting : Setting) (start : Option (List ℕ)) (given : List ℕ)
      → Stands setting start (contents_of before) old given
      → Stands setting start (contents_of after) new (given ++ bytes)

  -- wherever the intake stood, a front part of these bytes was taken and the text of the commands so far was written
  abbrev pub FeedsBeforeMemory : IntakeOn → IntakeOn → Counted W → Counted W → List ℕ → Type 0
  FeedsBeforeMemory old new before after bytes = (done : List ℕ) × (rest : List ℕ) × (bytes ≡ done ++ rest)
      × ((setting : Setting) (start : Option (List ℕ)) (given : List ℕ) → Stands setting start (contents_of before) old given
      → WroteAllBut setting start (contents_of after) (complete_commands (given ++ done)) (complete_commands (given ++ bytes))
      new.runner.container)

  abbrev pub FeedsPart : IntakeOn → IntakeOn → Counted W → Counted W → List ℕ → Type 0
  FeedsPart old new before after bytes = (done : List ℕ) × (rest : List ℕ) × (bytes ≡ done ++ rest)
      × ((setting : Setting) (start : Option (List ℕ)) (given : List ℕ) → Stands setting start (contents_of before) old given
      → WrotePartBut setting start (contents_of after) (complete_commands (given ++ done)) (complete_commands (given ++ bytes))
      new.runner.container)

  -- what was printed was written, and nothing taken, whatever the container holds
  abbrev pub Settles : Intake → Intake → Counted W → Counted W → Type 0
  Settles old new before after = (state : State) → Feeds (intake_on old state) (intake_on new state) before after []

  abbrev pub SettlesPart : Intake → Intake → Counted W → Counted W → Type 0
  SettlesPart old new before after = (state : State) → FeedsPart (intake_on old state) (intake_on new state) before after []

  -- the end of input was taken, and the text of all commands was written
  abbrev pub Ends : IntakeOn → IntakeOn → Counted W → Counted W → Bool → Type 0
  Ends old new before after refused = (setting : Setting) (start : Option (List ℕ)) (given : List ℕ)
      → Stands setting start (contents_of before) old given
      → RunsWhole setting start (contents_of after) (commands given) refused new.runner.container

  -- the end of input was taken, and the text of these commands was written, among them all that were complete before
  abbrev pub EndsBeforeMemory : IntakeOn → IntakeOn → Counted W → Counted W → Type 0
  EndsBeforeMemory old new before after = (setting : Setting) (start : Option (List ℕ)) (given : List ℕ)
      → Stands setting start (contents_of before) old given
      → (first : List Command) × AreFirst (complete_commands given) first × AreFirst first (commands given)
      × WroteAllBut setting start (contents_of after) first (commands given) new.runner.container

  abbrev pub EndsPart : IntakeOn → IntakeOn → Counted W → Counted W → Type 0
  EndsPart old new before after = (setting : Setting) (start : Option (List ℕ)) (given : List ℕ) → Stands setting start
      (contents_of before) old given
      → (first : List Command) × AreFirst (complete_commands given) first × AreFirst first (commands given)
      × WrotePartBut setting start (contents_of after) first (commands given) new.runner.container

module _ {R W : Type 0} (remaining : R → Option (List ℕ)) (contents : W → Option (List ℕ)) (limit : ℕ) where
  -- a run between two reads: what came so far was taken, and its text written
  pub record Goes (setting : Setting) (first_reader : Counted R) (first_writer : Counted W) (reader : Counted R)
      (writer : Counted W)
      (s : IntakeOn) : Type 0 where
    pub given : List ℕ
    pub came : Consumes (remaining (inner_of first_reader)) (remaining (inner_of reader)) given
    pub stands : Stands setting (contents (inner_of first_writer)) (contents (inner_of writer)) s given
    pub out : s.runner.out ≡ []
    pub count : bytes_of reader ≡ length given
    pub within : bytes_of reader ≤ limit
    pub reader_still : has_failed reader ≡ false
    pub writer_still : has_failed writer ≡ false
    pub flushed : is_flushed writer ≡ true
    pub settled : is_settled reader ≡ is_settled first_reader
