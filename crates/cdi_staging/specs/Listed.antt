-- The positions of the beans of a list.
use Rattle.std.specs.Prelude.{◌≡◌, List, length}
use Rattle.cdi_effective.specs.declared.records.Effective.{Effective}
use Rattle.cdi_staging.specs.Positions.{ArePlaces}
use Rattle.cdi_staging.specs.declared.positions.Positions.{Positions}

-- each bean has its position, and all are counted
abbrev pub ArePositions : List Effective → Positions → Type 0
ArePositions beans p = ArePlaces beans p.places × (p.count ≡ length beans)
