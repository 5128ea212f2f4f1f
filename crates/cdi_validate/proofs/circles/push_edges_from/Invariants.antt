use Rattle.cdi_validate.proofs.Common.{◌≡◌, ◌++◌, map}
use Rattle.std.proofs.Common.{take}
use Rattle.cdi_validate.specs.Needed.{edge}
use Rattle.cdi_validate.proofs.circles.push_edges_from.Given as goal

abbrev pub invariant-loop-number : goal.invariant-loop-number
invariant-loop-number l = l.edges.items ≡ l.fn.edges.items ++ map (edge l.from) (take l.number-index l.to)
