use Rattle.cdi_effective.proofs.Common.{◌≡◌, drop, uses_in, has_use}
use Rattle.cdi_effective.proofs.text_order.has_use.Given as goal

abbrev pub invariant-loop-other : goal.invariant-loop-other
invariant-loop-other l = has_use (uses_in (drop l.other-index l.uses)) l.binding ≡ has_use (uses_in l.uses) l.binding
