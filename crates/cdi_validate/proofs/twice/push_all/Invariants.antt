use Rattle.cdi_validate.proofs.Common.{◌≡◌, ◌++◌, values}
use Rattle.cdi_validate.proofs.twice.push_all.Given as goal

abbrev pub invariant-loop-fault : goal.invariant-loop-fault
invariant-loop-fault l = l.faults.items ++ l.fault-iterator ≡ l.fn.faults.items ++ values l.fn.lines
