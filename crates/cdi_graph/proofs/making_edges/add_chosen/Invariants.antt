use Rattle.cdi_graph.proofs.Common.{◌≡◌, ◌++◌, drop, flat_map, chosen}
use Rattle.cdi_graph.proofs.making_edges.add_chosen.Given as goal

abbrev pub invariant-loop-wire : goal.invariant-loop-wire
invariant-loop-wire l = l.edges.items ++ flat_map chosen (drop l.wire-index l.wires) ≡ l.fn.edges.items ++ flat_map chosen l.wires
