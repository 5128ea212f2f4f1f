use Rattle.cdi_ways.proofs.Common.{◌≡◌, ◌⊎◌, ◌<◌, ℕ, Some, get_or, ◌≢◌, Unknown, Ahead, state_of}
use Rattle.cdi_ways.proofs.states.States.give_back.Given as goal

abbrev pub invariant-loop-node : goal.invariant-loop-node
invariant-loop-node l = record {
  kept : (n : ℕ) → (state_of l.self n ≡ state_of l.fn.self n) ⊎ ((state_of l.fn.self n ≡ Some Ahead) × (state_of l.self n ≡ Some Unknown));
  none : (i : ℕ) → i < l.node-index → state_of l.self (get_or l.nodes i 0) ≢ Some Ahead;
}
