use Rattle.cdi_ways.proofs.Common.{◌≡◌, ◌+◌, ◌-◌, ◌≤◌, length, Some, slice_get, IsReached}
use Rattle.cdi_ways.specs.Circles.{all_left}
use Rattle.cdi_ways.proofs.ReachLemmas.{AreFollowedTo}
use Rattle.cdi_ways.proofs.states.States.reached.Given as goal

abbrev pub invariant-loop-position : goal.invariant-loop-position
invariant-loop-position l = record {
  search : IsReached l.ways l.start l.from l.to l.fn.self l.self l.reached.items l.place;
  here : slice_get l.reached.items l.place ≡ Some l.node;
  followed : AreFollowedTo l.ways l.position-items l.from l.self l.position-index;
  left : all_left l.self + length l.reached.items ≤ all_left l.fn.self + 1;
}

abbrev pub invariant-taken : goal.invariant-taken
invariant-taken l = record {
  search : IsReached l.ways l.start l.from l.to l.fn.self l.self l.reached.items l.place;
  within : l.place ≤ length l.reached.items;
  left : all_left l.self + length l.reached.items ≤ all_left l.fn.self + 1;
}

abbrev pub decreases-taken : goal.decreases-taken
decreases-taken l = all_left l.fn.self + 1 - l.place
