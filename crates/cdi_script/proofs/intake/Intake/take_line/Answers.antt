use Rattle.cdi_script.proofs.Common.{refl, subst, on_ok_weaker, on_err_weaker, taken, ServesTaken, intake_on}
use Rattle.cdi_script.proofs.Taking.{takes_none, takes_some, tries_some}
use Rattle.cdi_script.proofs.intake.Intake.take_line.Goals as goal

pub returns-in-None-clause-ok : goal.returns-in-None-clause-ok
returns-in-None-clause-ok g c = takes_none (intake_on c.args.self.now c.args.container.now)
    (intake_on (record c.args.self.now { mode = c.take_line.new.self }) c.args.container.now) c.args.line.now refl refl
    (subst (λ k. ServesTaken k c.take_line.new.self (taken c.args.self.now.mode c.args.line.now)) c.in-None.is c.in_ok-take_line.ensures)

pub returns-in-Some-clause-ok : goal.returns-in-Some-clause-ok
returns-in-Some-clause-ok g c = on_ok_weaker c.execute.result
    (takes_some (intake_on c.args.self.now c.args.container.now)
    (intake_on (record c.args.self.now { runner = c.execute.new.self; mode = c.take_line.new.self }) c.execute.new.container)
    c.args.line.now c.in-Some.command refl
    (subst (λ k. ServesTaken k c.take_line.new.self (taken c.args.self.now.mode c.args.line.now)) c.in-Some.is c.in_ok-take_line.ensures))
    c.execute.ensures.ok

pub returns-in-Some-clause-tries : goal.returns-in-Some-clause-tries
returns-in-Some-clause-tries g c = on_err_weaker c.execute.result
    (tries_some (intake_on c.args.self.now c.args.container.now)
    (intake_on (record c.args.self.now { runner = c.execute.new.self; mode = c.take_line.new.self }) c.execute.new.container)
    c.take_line.new.self c.args.line.now c.in-Some.command
    (subst (λ k. ServesTaken k c.take_line.new.self (taken c.args.self.now.mode c.args.line.now)) c.in-Some.is c.in_ok-take_line.ensures))
    c.execute.ensures.tries
