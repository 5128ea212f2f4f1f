use Rattle.std.proofs.Common.{sym, subst}
use Rattle.cdi_lines.specs.Lines.{lines}
use Rattle.cdi_script.specs.{Commands.commands, Commands.outside, Reads.Reads}
use Rattle.cdi_script.proofs.StepLemmas.{reads_all, reads_line}
use Rattle.cdi_assembly.specs.Steps.{commands_of_steps}
use Rattle.cdi_assembly.proofs.steps.steps_of.Goals as goal

pub loop-line-init : goal.loop-line-init
loop-line-init c =
    let script = c.args.script.now in
    subst (λ mode. Reads mode (commands_of_steps c.new-reading.result.steps.items) (lines script) (commands script))
    (sym c.new-reading.ensures.mode)
    (subst (λ steps. Reads outside (commands_of_steps steps) (lines script) (commands script)) (sym c.new-reading.ensures.steps)
    (reads_all script))

pub loop-line-preserved : goal.loop-line-preserved
loop-line-preserved c =
    let one = c.in_ok-take_line.ensures in
    reads_line c.loop-line.reading.mode c.take_line.new.self.mode (commands_of_steps c.loop-line.reading.steps.items)
    (commands_of_steps c.take_line.new.self.steps.items) one.kept c.in-Some.line.now (commands c.args.script.now) one.grows one.taking
    c.loop-line.rest.now c.in-Some.after.now c.in-Some.ensures.cut.0 c.in-Some.ensures.cut.1 c.loop-line.invariant
