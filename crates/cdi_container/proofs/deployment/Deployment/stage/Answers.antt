use Rattle.cdi_live.specs.State.{staged_by}
use Rattle.cdi_container.proofs.KeepingLemmas.{staged_right, unstaged_right}
use Rattle.cdi_container.proofs.deployment.Deployment.stage.Goals as goal

pub invariant_of-self : goal.invariant_of-self
invariant_of-self g c =
    unstaged_right c.self.inside.live c.stage_looked.new.live (g.B.Bodies.promises c.self.inside.book) c.self.inside.wiring
    c.self.inside.unsettled c.stage_looked.new.unsettled c.self.inside.is_readied c.in_err-stage_looked.ensures.err
    c.stage_looked.ensures.more c.self.invariant

pub invariant_of-self-2 : goal.invariant_of-self-2
invariant_of-self-2 g c =
    staged_right c.self.inside.live c.stage_looked.new.live (staged_by c.self.inside.live c.args.draft)
    (g.B.Bodies.promises c.self.inside.book) c.self.inside.wiring c.self.inside.unsettled c.stage_looked.new.unsettled
    c.self.inside.is_readied c.in_ok-stage_looked.ensures.ok c.stage_looked.ensures.more c.in_ok-stage_looked.ensures.readied
    c.self.invariant
