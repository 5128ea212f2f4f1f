use Rattle.cdi_script.proofs.Common.{refl, intake_on}
use Rattle.cdi_script.proofs.Taking.{begins}
use Rattle.cdi_script.proofs.intake.Intake.begin_line.Goals as goal

pub returns-clause-ok : goal.returns-clause-ok
returns-clause-ok c = λ state. begins (intake_on c.args.self.now state)
    (intake_on (record c.args.self.now { line = c.push.new.self }) state) c.args.piece.now c.requires
    c.in_ok-push.ensures.ok refl refl
