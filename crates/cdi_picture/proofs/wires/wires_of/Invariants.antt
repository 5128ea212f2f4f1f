use Rattle.std.proofs.Common.{◌≡◌, ◌++◌, map}
use Rattle.cdi_container.specs.PointsLent.{points_lent}
use Rattle.cdi_picture.specs.Told.{told_wire}
use Rattle.cdi_picture.proofs.wires.wires_of.Given as goal

abbrev pub invariant-loop-told : goal.invariant-loop-told
invariant-loop-told l = map told_wire l.wires.items ++ l.told-iterator ≡ points_lent l.fn.points
