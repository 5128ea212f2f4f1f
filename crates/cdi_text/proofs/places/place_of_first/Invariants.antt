use Rattle.cdi_text.proofs.Common.{◌≡◌, drop, table_view, first_of}
use Rattle.cdi_text.proofs.places.place_of_first.Given as goal

abbrev pub invariant-loop-condition : goal.invariant-loop-condition
invariant-loop-condition l = first_of (drop l.condition-index l.conditions) l.schema (table_view l.table)
    ≡ first_of l.conditions l.schema (table_view l.table)
