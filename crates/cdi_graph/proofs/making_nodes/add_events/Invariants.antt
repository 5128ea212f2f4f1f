use Rattle.cdi_graph.proofs.Common.{◌≡◌, filter, is_bean, is_point}
use Rattle.cdi_graph.proofs.making_nodes.add_events.Given as goal

abbrev pub invariant-loop-one : goal.invariant-loop-one
invariant-loop-one l = (filter is_point l.nodes.items ≡ filter is_point l.fn.nodes.items)
    × (filter is_bean l.nodes.items ≡ filter is_bean l.fn.nodes.items)
