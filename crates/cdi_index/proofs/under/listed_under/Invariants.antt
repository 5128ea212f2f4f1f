use Rattle.cdi_index.proofs.Common.{◌≡◌, map, take}
use Rattle.cdi_index.specs.{InOrder.kept_under, Slots.entry_kept}
use Rattle.cdi_index.proofs.under.listed_under.Given as goal

abbrev pub invariant-loop-word : goal.invariant-loop-word
invariant-loop-word g l = map entry_kept l.list.items ≡ kept_under (g.S.Slots.kept l.shelved) l.postings (take l.word-index l.words)
