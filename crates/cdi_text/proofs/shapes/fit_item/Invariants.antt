use Rattle.cdi_text.proofs.Common.{◌≡◌, drop, items_view, fit_item}
use Rattle.cdi_text.proofs.shapes.fit_item.Given as goal

abbrev pub invariant-loop-value : goal.invariant-loop-value
invariant-loop-value l = fit_item l.item (items_view (drop l.value-index l.items.items)) ≡ fit_item l.item (items_view l.items.items)
