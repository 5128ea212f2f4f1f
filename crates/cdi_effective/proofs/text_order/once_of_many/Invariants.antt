use Rattle.cdi_effective.proofs.Common.{◌≡◌, drop, uses_in, fold, each_once, with_use}
use Rattle.cdi_effective.proofs.text_order.once_of_many.Given as goal

abbrev pub invariant-loop-binding : goal.invariant-loop-binding
invariant-loop-binding l = fold with_use (uses_in l.found.keys) (uses_in (drop l.binding-index l.uses)) ≡ each_once (uses_in l.uses)
