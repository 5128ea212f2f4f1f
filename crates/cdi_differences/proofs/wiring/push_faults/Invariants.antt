use Rattle.std.proofs.Common.{◌≡◌, ◌++◌, map, take}
use Rattle.cdi_differences.specs.{Holds.shown_line, Wiring.fault_line}
use Rattle.cdi_differences.proofs.wiring.push_faults.Given as goal

abbrev pub invariant-loop-fault : goal.invariant-loop-fault
invariant-loop-fault l = map shown_line l.lines.items ≡ map shown_line l.initial.lines.items ++ map fault_line (take l.fault-index l.faults)
