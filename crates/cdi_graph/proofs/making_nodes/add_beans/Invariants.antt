use Rattle.cdi_graph.proofs.Common.{◌≡◌, ◌++◌, drop, map}
use Rattle.cdi_graph.specs.declared.node.Node.TheVariants as nodes
use Rattle.cdi_graph.proofs.making_nodes.add_beans.Given as goal

abbrev pub invariant-loop-bean : goal.invariant-loop-bean
invariant-loop-bean l = l.nodes.items ++ map nodes.Bean (drop l.bean-index l.beans) ≡ l.fn.nodes.items ++ map nodes.Bean l.beans
