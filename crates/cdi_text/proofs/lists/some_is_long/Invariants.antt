use Rattle.cdi_text.proofs.Common.{◌≡◌, drop, items_view, some_is_long}
use Rattle.cdi_text.proofs.lists.some_is_long.Given as goal

abbrev pub invariant-loop-value : goal.invariant-loop-value
invariant-loop-value l = some_is_long l.item (items_view (drop l.value-index l.items.items))
    ≡ some_is_long l.item (items_view l.items.items)
