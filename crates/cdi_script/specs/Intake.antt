-- What an intake keeps of the bytes so far, and what it does with further ones.
use Rattle.std.specs.Prelude.{◌≡◌, ℕ, List, [], false}
use Rattle.cdi_lines.specs.declared.command.Command.{Command}
use Rattle.cdi_lines.specs.Lines.{ended_from, begun_from, last_line}
use Rattle.cdi_lines.specs.Kept.{ServesLine}
use Rattle.cdi_script.specs.Commands.{Mode, outside, commands_of_line, mode_after, commands_of_lines, mode_of_lines, unclosed}
use Rattle.cdi_script.specs.Begun.{ServesMode}
use Rattle.cdi_container.specs.History.{State}
use Rattle.cdi_script.specs.Runner.{RunnerOn, runner_on, Runs, Tries}
use Rattle.cdi_script.specs.declared.intake.Intake.{Intake}

-- what takes a script, and the state of the container on which its commands run
pub record IntakeOn : Type 0 where
  pub runner : RunnerOn
  pub line : List ℕ
  pub mode : Mode

abbrev pub intake_on : Intake → State → IntakeOn
intake_on s state = record { runner = runner_on s.runner state; line = s.line; mode = s.mode }

-- the intake stands in this mode, behind this line that has begun
pub record Keeps (s : IntakeOn) (mode : Mode) (line : List ℕ) : Type 0 where
  pub line_serves : ServesLine s.line line
  pub mode_serves : ServesMode s.mode mode

-- a complete line was taken
pub record TakesLine (old new : IntakeOn) (kept : List ℕ) : Type 0 where
  pub line : new.line ≡ old.line
  pub runs : (mode : Mode) (line : List ℕ) → ServesMode old.mode mode → ServesLine kept line
      → Runs old.runner new.runner (commands_of_line mode line)
  pub mode : (mode : Mode) (line : List ℕ) → ServesMode old.mode mode → ServesLine kept line
      → ServesMode new.mode (mode_after mode line)

-- these bytes were taken
pub record Advances (old new : IntakeOn) (bytes : List ℕ) : Type 0 where
  pub runs : (mode : Mode) (line : List ℕ) → Keeps old mode line
      → Runs old.runner new.runner (commands_of_lines mode (ended_from line bytes))
  pub keeps : (mode : Mode) (line : List ℕ) → Keeps old mode line
      → Keeps new (mode_of_lines mode (ended_from line bytes)) (begun_from line bytes)

-- the end of input was taken for the end of a line
pub record EndsLastLine (old new : IntakeOn) : Type 0 where
  pub runs : (mode : Mode) (line : List ℕ) → Keeps old mode line → Runs old.runner new.runner (commands_of_lines mode (last_line line))
  pub mode : (mode : Mode) (line : List ℕ) → Keeps old mode line → ServesMode new.mode (mode_of_lines mode (last_line line))

-- a put block or a batch that is open was refused
abbrev pub EndsMode : IntakeOn → IntakeOn → Type 0
EndsMode old new = (mode : Mode) → ServesMode old.mode mode → Runs old.runner new.runner (unclosed mode)

-- ---- what was carried out where memory was wanted

-- at most the first of these commands was carried out
abbrev pub Tried : IntakeOn → IntakeOn → List Command → Type 0
Tried old new commands = Tries [] commands old.runner.container new.runner.container

-- of a complete line
abbrev pub TriesLine : IntakeOn → IntakeOn → List ℕ → Type 0
TriesLine old new kept = (mode : Mode) (line : List ℕ) → ServesMode old.mode mode → ServesLine kept line
    → Tried old new (commands_of_line mode line)

-- of the lines that these bytes complete
abbrev pub TriesBytes : IntakeOn → IntakeOn → List ℕ → Type 0
TriesBytes old new bytes = (mode : Mode) (line : List ℕ) → Keeps old mode line
    → Tried old new (commands_of_lines mode (ended_from line bytes))

-- of the line that the end of input ends
abbrev pub TriesLastLine : IntakeOn → IntakeOn → Type 0
TriesLastLine old new = (mode : Mode) (line : List ℕ) → Keeps old mode line → Tried old new (commands_of_lines mode (last_line line))

-- of the refusal of a put block or a batch that is open
abbrev pub TriesMode : IntakeOn → IntakeOn → Type 0
TriesMode old new = (mode : Mode) → ServesMode old.mode mode → Tried old new (unclosed mode)

-- ---- the start

-- nothing was taken yet
pub record IsFresh (s : Intake) : Type 0 where
  pub out : s.runner.out.items ≡ []
  pub refused : s.runner.refused ≡ false
  pub line : s.line ≡ []
  pub mode : s.mode ≡ outside
