use Rattle.cdi_graph.proofs.Common.{◌≡◌, ◌++◌, drop, map, owned}
use Rattle.cdi_graph.proofs.making_edges.add_owned.Given as goal

abbrev pub invariant-loop-wire : goal.invariant-loop-wire
invariant-loop-wire l = l.edges.items ++ map owned (drop l.wire-index l.wires) ≡ l.fn.edges.items ++ map owned l.wires
