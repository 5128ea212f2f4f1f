use Rattle.std.proofs.Common.{◌≡◌, [], rules}
use Rattle.cdi_script.proofs.StepLemmas.{reads_last}
use Rattle.cdi_assembly.proofs.StepLemmas.{ended}
use Rattle.cdi_assembly.specs.Steps.{commands_of_steps}
use Rattle.cdi_assembly.proofs.steps.Reading.end.Goals as goal

pub returns : goal.returns
returns c =
    let one = c.in_ok-take_line.ensures in
    let some : c.args.rest.now ≡ [] → ⊥ = λ e. (let bad : ⊥ = search rules in bad) in
    λ whole reads. ended (λ steps. commands_of_steps steps.items) c.take_line.new.self.mode
    (commands_of_steps c.take_line.new.self.steps.items) whole c.into_steps-2.result c.into_steps-2.ensures
    (reads_last c.args.self.mode c.take_line.new.self.mode (commands_of_steps c.args.self.steps.items)
    (commands_of_steps c.take_line.new.self.steps.items) one.kept c.args.rest.now whole one.grows one.taking c.requires some reads)
