use Rattle.cdi_staging.proofs.Common.{◌≡◌, position, position_from, is_method, drop}
use Rattle.cdi_staging.proofs.site.method_named.Given as goal

abbrev pub invariant-loop-place : goal.invariant-loop-place
invariant-loop-place l = position_from (is_method l.name) l.place (drop l.place l.methods) ≡ position (is_method l.name) l.methods
