use Rattle.cdi_graph.proofs.Common.{◌≡◌, ◌++◌, drop, map}
use Rattle.cdi_graph.specs.declared.node.Node.TheVariants as nodes
use Rattle.cdi_graph.proofs.making_nodes.add_interceptors.Given as goal

abbrev pub invariant-loop-name : goal.invariant-loop-name
invariant-loop-name l = l.nodes.items ++ map nodes.Interceptor
    (drop l.name-index l.names) ≡ l.fn.nodes.items ++ map nodes.Interceptor l.names
