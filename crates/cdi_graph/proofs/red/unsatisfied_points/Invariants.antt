use Rattle.cdi_graph.proofs.Common.{◌≡◌, take, contains, PointId, is_unsatisfied, same_point}
use Rattle.cdi_graph.proofs.red.unsatisfied_points.Given as goal

abbrev pub invariant-loop-fault : goal.invariant-loop-fault
invariant-loop-fault l = (p : PointId) → contains same_point l.points p ≡ is_unsatisfied (take l.fault-index l.faults) p
