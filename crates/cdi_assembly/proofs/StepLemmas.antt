-- The steps of a script that was read to its end.
use Rattle.std.proofs.Common.{◌≡◌, List, [], ◌++◌, Result, Ok, Err, IfOk, ap, ◌∙◌}
use Rattle.cdi_lines.specs.declared.command.Command.{Command}
use Rattle.cdi_script.specs.{Commands.Mode, Commands.unclosed, Left.left_by_all, Reads.Reads}
use Rattle.cdi_script.proofs.StepLemmas.{reads_end}
use Rattle.cdi_assembly.specs.Steps.{LeaveAlike}

module _ {X E : Type 0} (shows : X → List Command) (mode : Mode) (read whole : List Command) where
  pub ended : (result : Result X E) → IfOk result (λ x. shows x ≡ read ++ unclosed mode) → Reads mode read [] whole
      → IfOk result (λ x. LeaveAlike (shows x) whole)
  ended (Ok x) is r = λ ds. ap (left_by_all ds) is ∙ reads_end mode read whole r ds
  ended (Err e) is r = tt
