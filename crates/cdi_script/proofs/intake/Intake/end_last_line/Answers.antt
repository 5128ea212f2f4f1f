use Rattle.cdi_script.proofs.Common.{length, ap, ◌∙◌, on_ok_weaker, on_err_weaker, intake_on}
use borrow.Author.Tests.{both_ways, eq-eqb}
use Rattle.cdi_script.proofs.Taking.{ends_last, tries_last}
use Rattle.cdi_script.proofs.intake.Intake.end_last_line.Goals as goal

pub returns-else-is_empty-clause-ok : goal.returns-else-is_empty-clause-ok
returns-else-is_empty-clause-ok g c =
    on_ok_weaker c.end_line.result
    (ends_last (intake_on c.args.self.now c.args.container.now) (intake_on c.end_line.new.self c.end_line.new.container)
    (λ none. both_ways _ c.if-is_empty.false (c.is_empty.ensures ∙ eq-eqb _ 0 (ap length none)))) c.end_line.ensures.ok

pub returns-else-is_empty-clause-tries : goal.returns-else-is_empty-clause-tries
returns-else-is_empty-clause-tries g c =
    on_err_weaker c.end_line.result
    (tries_last (intake_on c.args.self.now c.args.container.now) (intake_on c.end_line.new.self c.end_line.new.container)
    (λ none. both_ways _ c.if-is_empty.false (c.is_empty.ensures ∙ eq-eqb _ 0 (ap length none)))) c.end_line.ensures.tries
