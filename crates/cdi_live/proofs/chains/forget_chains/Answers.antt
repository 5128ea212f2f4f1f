use Rattle.cdi_live.proofs.Common.{◌&&◌, ap, ◌∙◌, bytes_eq, None, same_place, if◌then◌else◌, answer}
use Rattle.cdi_live.proofs.LiveChainLemmas.{forget-next-chain}
use Rattle.cdi_live.proofs.chains.forget_chains.Goals as goal

pub left-preserved : goal.left-preserved
left-preserved c k p =
    forget-next-chain c.left.gone.items c.pop.new.self.items c.in-Some.one c.left.chains c.remove.new.self c.in-Some.ensures.items
    (λ n r. c.remove.ensures n r
    ∙ ap (λ q. if bytes_eq c.in-Some.one.class n && same_place q r then None else answer same_place c.left.chains n r) c.new.ensures) k p
    ∙ c.left.invariant k p
