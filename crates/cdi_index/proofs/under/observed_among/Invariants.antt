use Rattle.cdi_index.proofs.Common.{◌≡◌, filter, take}
use Rattle.cdi_index.specs.InOrder.{is_observed_by}
use Rattle.cdi_index.proofs.under.observed_among.Given as goal

abbrev pub invariant-loop-event_type : goal.invariant-loop-event_type
invariant-loop-event_type g l = l.list.items ≡ filter (is_observed_by (g.S.Slots.kept l.shelved) l.postings) (take l.event_type-index l.types)
