use Rattle.cdi_effective.proofs.Common.{◌≡◌, drop, uses_in, ◌++◌}
use Rattle.cdi_effective.proofs.text_order.copies.Given as goal

abbrev pub invariant-loop-binding : goal.invariant-loop-binding
invariant-loop-binding l = l.list ++ uses_in (drop l.binding-index l.uses) ≡ uses_in l.uses
