use Rattle.cdi_container.proofs.Common.{sym, scene_of, ◌∙◌}
use Rattle.cdi_container.proofs.Ending.{ends_nothing, is_closed}
use Rattle.cdi_container.proofs.instances.end_both.Goals as goal

pub returns-clause-legal : goal.returns-clause-legal
returns-clause-legal g c =
    let d = c.args.deployment.now in
    let m = c.args.run.now.moment in
    ends_nothing (scene_of d.decls d.book) m c.close.new.self.moment
    (c.requires.nothing_lives (sym c.is_wired.ensures ∙ c.if-is_wired.false))
    (is_closed m c.restart.new.self.moment c.close.new.self.moment c.restart.ensures c.close.ensures)
