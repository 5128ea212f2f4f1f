use Rattle.std.proofs.Common.{◌≡◌, ◌++◌, map}
use Rattle.cdi_graph.specs.declared.node.Node.TheVariants as nodes
use Rattle.cdi_picture.specs.Told.{bean_node}
use Rattle.cdi_picture.proofs.wires.nodes_of_beans.Given as goal

abbrev pub invariant-loop-bean : goal.invariant-loop-bean
invariant-loop-bean l = map nodes.Bean l.nodes.items ++ map bean_node l.bean-iterator ≡ map bean_node l.fn.beans
