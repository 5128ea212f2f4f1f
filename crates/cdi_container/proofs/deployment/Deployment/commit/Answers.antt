use Rattle.cdi_container.proofs.Common.{◌≡◌, false, Option, subst, ap, ◌∙◌, Deployed, Wiring, is_sound, redeployed}
use Rattle.cdi_container.proofs.{Committing.commits, Committing.deployed_on, KeepingLemmas.commits_right}
use Rattle.cdi_container.proofs.deployment.Deployment.commit.Goals as goal

pub returns-clause-new : goal.returns-clause-new
returns-clause-new g c =
    let book = g.B.Bodies.promises c.self.inside.book in
    ap (λ (o : Option Wiring). deployed_on c.take_over.new.live book (is_sound o)) c.take-wiring.ensures.after
    ∙ subst (λ (d : Deployed). deployed_on c.take_over.new.live book false ≡ redeployed d) c.self.view_is
    (commits c.self.inside.live c.take_over.new.live book
    (is_sound c.self.inside.wiring) c.take_over.ensures.wanted c.take_over.ensures.new)

pub invariant_of-self : goal.invariant_of-self
invariant_of-self g c =
    let book = g.B.Bodies.promises c.self.inside.book in
    commits_right c.take_over.new.live book c.take-wiring.new.self c.take_over.new.unsettled c.take_over.ensures.short
    c.take-wiring.ensures.after (c.take_over.ensures.settled book c.self.invariant.settled)
