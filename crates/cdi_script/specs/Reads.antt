-- What is read of a script line by line, and what is left of it.
use Rattle.std.specs.Prelude.{◌≡◌, ℕ, List, ◌++◌}
use Rattle.cdi_model.specs.declared.decl.Decl.{Decl}
use Rattle.cdi_lines.specs.declared.command.Command.{Command}
use Rattle.cdi_script.specs.Begun.{ServesMode}
use Rattle.cdi_script.specs.Commands.{Mode, commands_of_lines, mode_of_lines, unclosed}
use Rattle.cdi_script.specs.Left.{left_by_all}

-- the commands of what is left of a script
abbrev pub left_commands : Mode → List (List ℕ) → List Command
left_commands mode ls = commands_of_lines mode ls ++ unclosed (mode_of_lines mode ls)

-- Some commands were read. They, and then what lines are left, leave the declarations that the whole leaves.
pub record Reads (mode : Mode) (read : List Command) (left : List (List ℕ)) (whole : List Command) : Type 0 where
  pub meant : Mode
  pub serves : ServesMode mode meant
  pub leaves : (ds : List Decl) → left_by_all (left_by_all ds read) (left_commands meant left) ≡ left_by_all ds whole
