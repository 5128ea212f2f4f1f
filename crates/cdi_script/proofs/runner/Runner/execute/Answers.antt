use Rattle.cdi_script.proofs.Common.{on_ok_weaker, on_err_weaker, OnErr-from}
use Rattle.cdi_script.proofs.{Ran.ran, Trying.tried_step}
use Rattle.cdi_script.proofs.runner.Runner.execute.Goals as goal

pub returns-clause-ok : goal.returns-clause-ok
returns-clause-ok g c = on_ok_weaker c.print.result
    (ran c.args.self.now c.print.new.self c.args.container.now c.execute.new.self c.args.command c.in_ok-answer.answer
    c.in_ok-answer.ensures) c.print.ensures.ok

pub returns-clause-tries : goal.returns-clause-tries
returns-clause-tries g c = on_err_weaker c.print.result
    (λ h. tried_step c.args.container.now c.execute.new.self c.args.command c.execute.result c.execute.ensures) c.print.ensures.err

pub returns-in_err-answer-clause-tries : goal.returns-in_err-answer-clause-tries
returns-in_err-answer-clause-tries g c = OnErr-from c.from_residual.result
    (tried_step c.args.container.now c.execute.new.self c.args.command c.execute.result c.execute.ensures)
