use Rattle.cdi_index.proofs.Common.{◌≡◌, false, list_any, take}
use Rattle.cdi_index.specs.InOrder.{is_word_of}
use Rattle.cdi_index.proofs.under.is_word_of_one.Given as goal

abbrev pub invariant-loop-slot : goal.invariant-loop-slot
invariant-loop-slot g l = list_any (λ slot. is_word_of l.word (g.S.Slots.kept l.shelved slot)) (take l.slot-index l.slots) ≡ false
