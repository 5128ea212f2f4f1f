use Rattle.cdi_validate.proofs.Common.{◌≡◌, ◌++◌, true, map, drop, are_answerable, key_of_point, chosen_for}
use Rattle.cdi_validate.specs.Needed.{numbers_of}
use Rattle.cdi_validate.proofs.circles.chosen_for.Given as goal

abbrev pub invariant-loop-point : goal.invariant-loop-point
invariant-loop-point g l = record {
  answerable : are_answerable (g.V.View.kept l.view) (map key_of_point (drop l.point-index l.points)) ≡ true;
  chosen : l.chosen.items ++ numbers_of l.dependents.numbers (chosen_for (g.V.View.list l.view) (drop l.point-index l.points))
      ≡ numbers_of l.dependents.numbers (chosen_for (g.V.View.list l.view) l.points);
}
