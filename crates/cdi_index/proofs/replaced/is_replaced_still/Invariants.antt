use Rattle.cdi_index.proofs.Common.{◌≡◌, is_replaced_still, drop}
use Rattle.cdi_index.proofs.replaced.is_replaced_still.Given as goal

abbrev pub invariant-loop-slot : goal.invariant-loop-slot
invariant-loop-slot l = is_replaced_still l.shelf l.affected.keys (drop l.slot-index l.slots) l.key
    ≡ is_replaced_still l.shelf l.affected.keys l.slots l.key
