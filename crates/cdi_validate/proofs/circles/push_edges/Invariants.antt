use Rattle.cdi_validate.proofs.Common.{◌≡◌, ◌++◌, map, flat_map}
use Rattle.std.proofs.Common.{take}
use Rattle.cdi_validate.specs.Needed.{edge}
use Rattle.cdi_validate.proofs.circles.push_edges.Given as goal

abbrev pub invariant-loop-number : goal.invariant-loop-number
invariant-loop-number l = l.edges.items ≡ l.fn.edges.items ++ flat_map (λ p. map (edge p) l.to) (take l.number-index l.from)
