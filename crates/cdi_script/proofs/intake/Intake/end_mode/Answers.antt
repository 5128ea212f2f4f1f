use Rattle.cdi_script.proofs.Common.{◌∷◌, [], ap, ◌∙◌, if◌then◌else◌, on_ok_weaker, Unreadable, intake_on}
use Rattle.cdi_script.proofs.Taking.{refuses_open}
use Rattle.cdi_script.proofs.intake.Intake.end_mode.Goals as goal

pub returns-then-is_open-clause-ok : goal.returns-then-is_open-clause-ok
returns-then-is_open-clause-ok g c = on_ok_weaker c.execute.result
    (refuses_open (intake_on c.args.self.now c.args.container.now)
    (intake_on (record c.args.self.now { runner = c.execute.new.self }) c.execute.new.container)
    (c.is_open.ensures ∙ ap (λ b. if b then Unreadable ∷ [] else []) c.if-is_open.true)) c.execute.ensures.ok
