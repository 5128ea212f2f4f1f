use Rattle.cdi_index.proofs.Common.{◌≡◌, map, filter, flat_map, take, is_sought}
use Rattle.cdi_index.specs.{InOrder.records_kept, Slots.entry_kept}
use Rattle.cdi_index.proofs.under.sought_under.Given as goal

abbrev pub invariant-loop-entry : goal.invariant-loop-entry
invariant-loop-entry g l = map (λ bean. bean.now) l.list.items
    ≡ filter (is_sought l.sought) (flat_map (records_kept (g.S.Slots.replaced l.shelved)) (map entry_kept (take l.entry-index l.entry-items)))
