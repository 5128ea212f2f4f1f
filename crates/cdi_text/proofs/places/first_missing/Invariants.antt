use Rattle.cdi_text.proofs.Common.{◌≡◌, drop, map, table_view, rows, row_view}
use Rattle.cdi_text.specs.Places.{first_missing}
use Rattle.cdi_text.proofs.places.first_missing.Given as goal

abbrev pub invariant-loop-row : goal.invariant-loop-row
invariant-loop-row l = first_missing (map row_view (drop l.row-index l.row-items)) (table_view l.table)
    ≡ first_missing (rows l.fn.schema) (table_view l.table)
