use Rattle.cdi_ways.proofs.Common.{◌+◌, ◌-◌, ◌≤◌, length}
use Rattle.cdi_ways.specs.Order.{work_of}
use Rattle.cdi_ways.proofs.order.Walk.enter.Given as goal

abbrev pub invariant-loop-position : goal.invariant-loop-position
invariant-loop-position l = work_of l.self + (length l.positions - l.position-index) ≤ work_of l.fn.self
