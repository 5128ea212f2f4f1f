use Rattle.cdi_ways.proofs.Common.{◌≡◌, ◌≤◌, ◌<◌, ℕ, Some, Unknown, IsSettled, state_of}
use Rattle.cdi_ways.proofs.circles.on_circles.Given as goal

abbrev pub invariant-loop-node : goal.invariant-loop-node
invariant-loop-node l = record {
  next : (goal.iterator-loop-node).can_next l.node-iterator;
  ends : (goal.iterator-loop-node).is_finite l.node-iterator;
  settled : IsSettled l.edges l.states;
  left : (n : ℕ) → state_of l.states n ≡ Some Unknown → n < l.count;
}

abbrev pub invariant-loop-node-2 : goal.invariant-loop-node-2
invariant-loop-node-2 l = record {
  settled : IsSettled l.edges l.states;
  left : (n : ℕ) → state_of l.states n ≡ Some Unknown → (l.node ≤ n) × (n < l.count);
}
