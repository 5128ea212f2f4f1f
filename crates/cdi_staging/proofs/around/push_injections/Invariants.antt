use Rattle.cdi_staging.proofs.Common.{◌≡◌, ◌++◌, injections_from, drop}
use Rattle.cdi_staging.proofs.around.push_injections.Given as goal

abbrev pub invariant-loop-point : goal.invariant-loop-point
invariant-loop-point l =
    l.list ++ injections_from l.actor l.point (drop l.point l.targets) ≡ l.fn.list ++ injections_from l.actor 0 l.targets
