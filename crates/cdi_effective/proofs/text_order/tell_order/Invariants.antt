use Rattle.cdi_effective.proofs.Common.{◌≡◌, ◌∷◌, drop, uses_in, tell_order}
use Rattle.cdi_effective.proofs.text_order.tell_order.Given as goal

abbrev pub invariant-loop-next : goal.invariant-loop-next
invariant-loop-next l = tell_order (l.before ∷ uses_in (drop l.next-index l.others)) ≡ tell_order (uses_in l.uses)
