use Rattle.cdi_live.proofs.Common.{◌≡◌, List, length, Qual, ℕ, None, same_quals, if◌then◌else◌, answer, is_gone}
use Rattle.cdi_live.proofs.events.forget_events.Given as goal

abbrev pub invariant-left : goal.invariant-left
invariant-left l = (t : List ℕ) (us : List Qual)
    → (if is_gone l.gone.items t us then None else answer same_quals l.events t us)
    ≡ (if is_gone l.fn.gone.items t us then None else answer same_quals l.fn.events t us)

abbrev pub decreases-left : goal.decreases-left
decreases-left l = length l.gone.items
