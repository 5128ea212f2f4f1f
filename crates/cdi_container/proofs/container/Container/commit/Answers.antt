use Rattle.cdi_container.proofs.Committing.{redeploys}
use Rattle.cdi_container.proofs.container.Container.commit.Goals as goal

pub returns-clause-ok : goal.returns-clause-ok
returns-clause-ok g c =
    redeploys c.self.inside.deployment c.stage.new.self c.commit.new.self c.self.inside.told c.commit.result c.args.self.now c.args.draft
    c.self.inside.run.moment c.end_both.new.run.moment c.self.view_is c.in_ok-stage.ensures.ok c.in_ok-end_both.ensures.legal
    c.in_ok-end_both.ensures.untraced c.commit.ensures.new c.commit.ensures.names
