use Rattle.cdi_live.proofs.Common.{◌≡◌, List, length, BeanPlace, ℕ, None, same_place, if◌then◌else◌, answer, is_gone_chain}
use Rattle.cdi_live.proofs.chains.forget_chains.Given as goal

abbrev pub invariant-left : goal.invariant-left
invariant-left l = (c : List ℕ) (p : BeanPlace)
    → (if is_gone_chain l.gone.items c p then None else answer same_place l.chains c p)
    ≡ (if is_gone_chain l.fn.gone.items c p then None else answer same_place l.fn.chains c p)

abbrev pub decreases-left : goal.decreases-left
decreases-left l = length l.gone.items
