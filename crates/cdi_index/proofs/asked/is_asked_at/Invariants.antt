use Rattle.cdi_index.proofs.Common.{◌≡◌, list_any, is_asker, drop}
use Rattle.cdi_index.proofs.asked.is_asked_at.Given as goal

abbrev pub invariant-loop-slot : goal.invariant-loop-slot
invariant-loop-slot g l = list_any (λ s. is_asker l.decls l.asked (g.S.Slots.kept l.shelved s)) (drop l.slot-index l.slots)
    ≡ list_any (λ s. is_asker l.decls l.asked (g.S.Slots.kept l.shelved s)) l.slots
