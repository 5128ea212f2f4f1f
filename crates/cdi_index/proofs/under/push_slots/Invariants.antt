use Rattle.cdi_index.proofs.Common.{◌≡◌, ◌++◌, map, flat_map, take}
use Rattle.cdi_index.specs.{InOrder.kept_with, Slots.entry_kept}
use Rattle.cdi_index.proofs.under.push_slots.Given as goal

abbrev pub invariant-loop-slot : goal.invariant-loop-slot
invariant-loop-slot g l = map entry_kept l.list.items
    ≡ map entry_kept l.fn.list.items ++ flat_map (kept_with (g.S.Slots.kept l.shelved) l.word) (take l.slot-index l.slots)
