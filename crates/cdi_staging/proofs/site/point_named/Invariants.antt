use Rattle.cdi_staging.proofs.Common.{◌≡◌, position, position_from, is_point, drop}
use Rattle.cdi_staging.proofs.site.point_named.Given as goal

abbrev pub invariant-loop-place : goal.invariant-loop-place
invariant-loop-place l = position_from (is_point l.name) l.place (drop l.place l.points) ≡ position (is_point l.name) l.points
