use Rattle.std.proofs.Common.{length}
use Rattle.cdi_lines.specs.Lines.{lines}
use Rattle.cdi_script.specs.{Commands.commands, Reads.Reads}
use Rattle.cdi_assembly.specs.Steps.{commands_of_steps}
use Rattle.cdi_assembly.proofs.steps.steps_of.Given as goal

abbrev pub decreases-loop-line : goal.decreases-loop-line
decreases-loop-line l = length l.rest

abbrev pub invariant-loop-line : goal.invariant-loop-line
invariant-loop-line l = Reads l.reading.mode (commands_of_steps l.reading.steps.items) (lines l.rest) (commands l.fn.script)
