-- The commands that the bytes of a script spell.
use Rattle.std.specs.Prelude.{◌≡◌, ℕ, Bool, List, [], ◌∷◌, ◌++◌, codes, Option, Some, None, option_to_list, Result, Ok, Err, if◌then◌else◌}
use Rattle.std.specs.Str.{bytes_eq}
use Rattle.cdi_model.specs.declared.refusal.Refusal.{Refusal}
use Rattle.cdi_lines.specs.declared.command.Command.{Command}
use Rattle.cdi_lines.specs.declared.command.Command.TheVariants.{Edit as EditCommand, Batch as BatchCommand, Unreadable}
use Rattle.cdi_lines.specs.declared.edit.Edit.{Edit}
use Rattle.cdi_lines.specs.declared.edit.Edit.TheVariants as edits
use Rattle.cdi_lines.specs.declared.command.Said.{Said}
use Rattle.cdi_lines.specs.declared.command.Said.TheVariants as said
use Rattle.cdi_lines.specs.Lines.{ended_lines, lines}
use Rattle.cdi_lines.specs.Words.{without_return}
use Rattle.cdi_lines.specs.Command.{said_of_line}
use Rattle.cdi_lines.specs.Kept.{with_line}

-- a batch that is open: its edits so far, unless a line that is no edit spoiled it
pub data OpenBatch : Type 0 where
  Edits : List Edit → OpenBatch
  Spoiled : OpenBatch

-- what has begun and takes further lines: a batch, and the text of a put block
pub record Mode : Type 0 where
  pub batch : Option OpenBatch
  pub text : Option (List ℕ)

abbrev pub outside : Mode
outside = record { batch = None; text = None }

-- what a line does: the command that it completes, if it does, and where the next line stands
pub record Taken : Type 0 where
  pub command : Option Command
  pub mode : Mode

-- it completes none, and these are open
abbrev pub goes_on : Option OpenBatch → Option (List ℕ) → Taken
goes_on batch text = record { command = None; mode = record { batch = batch; text = text } }

-- it completes this one, and nothing is open
abbrev pub completes : Command → Taken
completes command = record { command = Some command; mode = outside }

-- one edit more, unless it is spoiled
abbrev pub with_edit : OpenBatch → Edit → OpenBatch
with_edit (Edits edits) edit = Edits (edits ++ edit ∷ [])
with_edit Spoiled edit = Spoiled

-- an edit is one more of the batch that is open, or a command by itself
abbrev pub edited : Option OpenBatch → Edit → Taken
edited None edit = completes (EditCommand edit)
edited (Some batch) edit = goes_on (Some (with_edit batch edit)) None

-- any other command spoils the batch that is open
abbrev pub commanded : Option OpenBatch → Command → Taken
commanded None command = completes command
commanded (Some batch) command = goes_on (Some Spoiled) None

-- the line that begins a batch; it opens none in another
abbrev pub batch_begun : Option OpenBatch → Taken
batch_begun None = goes_on (Some (Edits [])) None
batch_begun (Some batch) = goes_on (Some Spoiled) None

-- a batch that ended is one command of its edits, and refused if it is spoiled
abbrev pub command_of_batch : OpenBatch → Command
command_of_batch (Edits edits) = BatchCommand edits
command_of_batch Spoiled = Unreadable

-- the line that ends a batch
abbrev pub batch_ended : Option OpenBatch → Taken
batch_ended None = completes Unreadable
batch_ended (Some batch) = completes (command_of_batch batch)

-- a line outside a put block, by what it says
abbrev pub taken_said : Option OpenBatch → Result Said Refusal → Taken
taken_said batch (Ok said.Nothing) = goes_on batch None
taken_said batch (Ok said.PutBegins) = goes_on batch (Some [])
taken_said batch (Ok said.BatchBegins) = batch_begun batch
taken_said batch (Ok said.BatchEnds) = batch_ended batch
taken_said batch (Ok (said.Edit edit)) = edited batch edit
taken_said batch (Ok (said.Command command)) = commanded batch command
taken_said batch (Err refusal) = commanded batch Unreadable

abbrev pub is_dot : List ℕ → Bool
is_dot line = bytes_eq (without_return line) (codes ".")

-- a line in a put block with this text so far
abbrev pub taken_in_put : Option OpenBatch → List ℕ → List ℕ → Taken
taken_in_put batch text line = if is_dot line then edited batch (edits.Put text) else goes_on batch (Some (with_line text line))

abbrev pub taken_at : Option OpenBatch → Option (List ℕ) → List ℕ → Taken
taken_at batch None line = taken_said batch (said_of_line line)
taken_at batch (Some text) line = taken_in_put batch text line

abbrev pub taken : Mode → List ℕ → Taken
taken mode line = taken_at mode.batch mode.text line

-- the command that a line completes, if it does
abbrev pub commands_of_line : Mode → List ℕ → List Command
commands_of_line mode line = option_to_list (taken mode line).command

-- where the next line stands
abbrev pub mode_after : Mode → List ℕ → Mode
mode_after mode line = (taken mode line).mode

abbrev pub commands_of_lines : Mode → List (List ℕ) → List Command
commands_of_lines mode [] = []
commands_of_lines mode (line ∷ rest) = commands_of_line mode line ++ commands_of_lines (mode_after mode line) rest

abbrev pub mode_of_lines : Mode → List (List ℕ) → Mode
mode_of_lines mode [] = mode
mode_of_lines mode (line ∷ rest) = mode_of_lines (mode_after mode line) rest

-- the commands whose lines are complete
abbrev pub complete_commands : List ℕ → List Command
complete_commands bytes = commands_of_lines outside (ended_lines bytes)

-- where a line stands after the complete lines
abbrev pub mode_of : List ℕ → Mode
mode_of bytes = mode_of_lines outside (ended_lines bytes)

-- a batch or a put block without its end is no command
abbrev pub unclosed_at : Option OpenBatch → Option (List ℕ) → List Command
unclosed_at None None = []
unclosed_at batch text = Unreadable ∷ []

abbrev pub unclosed : Mode → List Command
unclosed mode = unclosed_at mode.batch mode.text

-- the commands that a script's bytes spell
abbrev pub commands : List ℕ → List Command
commands bytes = commands_of_lines outside (lines bytes) ++ unclosed (mode_of_lines outside (lines bytes))

-- the first commands of a script
abbrev pub AreFirst : List Command → List Command → Type 0
AreFirst first all = (later : List Command) × (all ≡ first ++ later)
