use Rattle.cdi_validate.proofs.Common.{◌≡◌, ◌++◌, map, filter, drop, goes_on}
use Rattle.cdi_faults.specs.declared.fault.Fault.TheVariants as faults_are
use Rattle.cdi_validate.proofs.names.push_behind.Given as goal

abbrev pub invariant-loop-other : goal.invariant-loop-other
invariant-loop-other l =
    l.faults.items ++ map (faults_are.NamePrefix l.name) (filter (goes_on l.name) (drop l.other-index l.later))
    ≡ l.fn.faults.items ++ map (faults_are.NamePrefix l.name) (filter (goes_on l.name) l.later)
