use Rattle.cdi_index.proofs.Common.{◌≡◌, map, flat_map, take}
use Rattle.cdi_index.specs.{InOrder.decl_kept, Slots.entry_kept}
use Rattle.cdi_index.proofs.under.decls_under.Given as goal

abbrev pub invariant-loop-entry : goal.invariant-loop-entry
invariant-loop-entry g l = map (λ d. d.now) l.list.items
    ≡ flat_map (decl_kept l.decls) (map entry_kept (take l.entry-index l.entry-items))
