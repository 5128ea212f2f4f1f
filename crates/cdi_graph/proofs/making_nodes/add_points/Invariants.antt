use Rattle.cdi_graph.proofs.Common.{◌≡◌, ◌++◌, List, drop, map, Fault, point_node}
use Rattle.cdi_graph.specs.Red.{HoldsRed}
use Rattle.cdi_graph.proofs.making_nodes.add_points.Given as goal

abbrev pub invariant-loop-wire : goal.invariant-loop-wire
invariant-loop-wire l = (fs : List Fault) → HoldsRed fs l.red
    → l.nodes.items ++ map (point_node fs) (drop l.wire-index l.wires) ≡ l.fn.nodes.items ++ map (point_node fs) l.wires
