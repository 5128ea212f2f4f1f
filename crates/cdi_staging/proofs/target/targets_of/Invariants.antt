use Rattle.cdi_staging.proofs.Common.{◌≡◌, true, ◌++◌, map, are_answerable, key_of_point, targets, drop}
use Rattle.cdi_staging.proofs.target.targets_of.Given as goal

abbrev pub invariant-loop-point : goal.invariant-loop-point
invariant-loop-point g l = record {
  answerable : are_answerable (g.V.View.kept l.view) (map key_of_point (drop l.point-index l.points)) ≡ true;
  chosen : l.list.items ++ targets (g.V.View.list l.view) (drop l.point-index l.points) ≡ targets (g.V.View.list l.view) l.points;
}
