use Rattle.cdi_text.proofs.Common.{◌≡◌, ℕ, List, drop, Data, items_view, members_view, members_have, items_have, HasKey}
use Rattle.cdi_text.proofs.places.+ways.Given as goal

abbrev pub invariant-way_in_table-loop-key : goal.invariant-way_in_table-loop-key
invariant-way_in_table-loop-key l = (members_have l.condition l.schema (members_view l.key-iterator)
    ≡ members_have l.condition l.schema (members_view l.table.entries))
    × ((key : List ℕ) (value : Data) → HasKey key value (members_view l.key-iterator) → HasKey key value (members_view l.table.entries))

abbrev pub invariant-way_in_items-loop-index : goal.invariant-way_in_items-loop-index
invariant-way_in_items-loop-index l = items_have l.condition l.schema (items_view (drop l.index l.items.items))
    ≡ items_have l.condition l.schema (items_view l.items.items)
