use Rattle.cdi_text.proofs.Common.{◌≡◌, ◌++◌, drop, items_view, calls_in}
use Rattle.cdi_text.proofs.checked.calls_of.Given as goal

abbrev pub invariant-loop-value : goal.invariant-loop-value
invariant-loop-value l = l.calls ++ calls_in (items_view (drop l.value-index l.items.items)) ≡ calls_in (items_view l.items.items)
