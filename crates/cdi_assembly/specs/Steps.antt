-- The commands of a script that are read line by line.
use Rattle.std.specs.Prelude.{◌≡◌, ℕ, List, ◌++◌, map, Option, option_to_list}
use Rattle.cdi_model.specs.declared.decl.Decl.{Decl}
use Rattle.cdi_lines.specs.declared.command.Command.{Command}
use Rattle.cdi_script.specs.Begun.{ServesTaken}
use Rattle.cdi_script.specs.Commands.{taken}
use Rattle.cdi_script.specs.Left.{left_by_all}
use Rattle.cdi_assembly.specs.declared.steps.Reading.{Reading}
use Rattle.cdi_assembly.specs.declared.steps.Step.{Step}

abbrev pub commands_of_steps : List Step → List Command
commands_of_steps steps = map (λ step. step.command) steps

-- they leave the same declarations, whatever is there before
abbrev pub LeaveAlike : List Command → List Command → Type 0
LeaveAlike read commands = (ds : List Decl) → left_by_all ds read ≡ left_by_all ds commands

-- A line was taken. The command that it completes is one step more, and what is kept serves for it.
pub record TakesOne (old new : Reading) (line : List ℕ) : Type 0 where
  pub kept : Option Command
  pub grows : commands_of_steps new.steps.items ≡ commands_of_steps old.steps.items ++ option_to_list kept
  pub taking : ServesTaken kept new.mode (taken old.mode line)
