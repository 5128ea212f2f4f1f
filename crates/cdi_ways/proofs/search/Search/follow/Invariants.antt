use Rattle.cdi_ways.proofs.Common.{◌≡◌, ◌+◌, ◌-◌, ◌++◌, length, [], ℕ, nat_eq, map, take, left_at, edges_of, step_along}
use Rattle.std.proofs.Common.{if◌then◌else◌}
use Rattle.cdi_ways.proofs.search.Search.follow.Given as goal

abbrev pub invariant-loop-edge : goal.invariant-loop-edge
invariant-loop-edge l = record {
  steps : l.self.steps.items ≡ l.fn.self.steps.items ++ map (step_along l.before l.depth) (take l.edge-index l.positions);
  left : (n : ℕ) → left_at l.self.left.items n ≡ (if nat_eq l.fn.node n then [] else left_at l.fn.self.left.items n);
  edges : edges_of l.self + (length l.positions - l.edge-index) ≡ edges_of l.fn.self;
}
