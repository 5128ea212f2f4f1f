use Rattle.cdi_live.proofs.Common.{sym}
use Rattle.cdi_live.proofs.LiveLemmas.{live-after}
use Rattle.cdi_live.proofs.live.Live.commit.Goals as goal

pub invariant_of-self : goal.invariant_of-self
invariant_of-self c =
    live-after c.self.inside.index c.commit.new.self c.self.inside.memos c.forget.new.self c.self.inside.lists c.new.result
    c.self.inside.by_default c.self.inside.going
    c.take.new.self c.in-Some.going c.new.ensures c.self.invariant (sym c.in-Some.ensures.value) c.in-Some.ensures.after c.commit.ensures c.forget.ensures
