use Rattle.cdi_effective.proofs.Common.{◌≡◌, drop, ◌++◌}
use Rattle.cdi_effective.proofs.records.uses.Given as goal

abbrev pub invariant-loop-qual : goal.invariant-loop-qual
invariant-loop-qual l = l.copy ++ drop l.qual-index l.uses ≡ l.uses
