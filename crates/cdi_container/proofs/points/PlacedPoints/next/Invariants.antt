use Rattle.cdi_container.proofs.Common.{◌≡◌, length}
use Rattle.cdi_container.specs.Lent.{placed_left}
use Rattle.cdi_container.proofs.points.PlacedPoints.next.Given as goal

-- the same points are left
abbrev pub invariant-loop-placed : goal.invariant-loop-placed
invariant-loop-placed l = placed_left l.self ≡ placed_left l.initial.self

abbrev pub decreases-loop-placed : goal.decreases-loop-placed
decreases-loop-placed l = length l.self.rest
