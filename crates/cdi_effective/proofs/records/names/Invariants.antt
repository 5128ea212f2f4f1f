use Rattle.cdi_effective.proofs.Common.{◌≡◌, drop, ◌++◌}
use Rattle.cdi_effective.proofs.records.names.Given as goal

abbrev pub invariant-loop-name : goal.invariant-loop-name
invariant-loop-name l = l.copy ++ drop l.name-index l.names ≡ l.names
