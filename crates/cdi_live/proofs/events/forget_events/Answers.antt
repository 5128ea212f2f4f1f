use Rattle.cdi_live.proofs.Common.{◌∙◌}
use Rattle.cdi_live.proofs.LiveLemmas.{forget-next}
use Rattle.cdi_live.proofs.events.forget_events.Goals as goal

pub left-preserved : goal.left-preserved
left-preserved c t us =
    forget-next c.left.gone.items c.pop.new.self.items c.in-Some.one c.left.events c.remove.new.self c.in-Some.ensures.items
    c.remove.ensures t us
    ∙ c.left.invariant t us
