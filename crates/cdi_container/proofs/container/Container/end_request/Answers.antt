use Rattle.cdi_container.proofs.Common.{sym, ap, ◌∙◌, alone, trace_names}
use Rattle.cdi_container.proofs.Ending.{ends_no_request, has_request, is_closed}
use Rattle.cdi_container.proofs.container.Container.end_request.Goals as goal

pub returns-clause-ok : goal.returns-clause-ok
returns-clause-ok g c =
    let d = c.self.inside.deployment in
    let m = c.self.inside.run.moment in
    ends_no_request d (trace_names d c.self.inside.told) c.args.self.now m c.close.new.self.moment c.self.view_is
    (c.self.invariant.nothing_lives (sym c.is_wired.ensures ∙ c.if-is_wired.false))
    (is_closed m c.restart-2.new.self.moment c.close.new.self.moment c.restart-2.ensures c.close.ensures)

pub returns-clause-step : goal.returns-clause-step
returns-clause-step g c =
    let d = c.self.inside.deployment in (
      ap alone (has_request d (trace_names d c.self.inside.told) c.args.self.now c.self.inside.run.moment c.self.view_is
          (sym c.is_active.ensures ∙ c.if-not-is_active.false)),
      returns-clause-ok g c,
    )
