use Rattle.cdi_graph.proofs.Common.{◌≡◌, filter, is_choice, is_owned}
use Rattle.cdi_graph.proofs.making_edges.add_around.Given as goal

abbrev pub invariant-loop-interceptor : goal.invariant-loop-interceptor
invariant-loop-interceptor l = (filter is_choice l.edges.items ≡ filter is_choice l.fn.edges.items)
    × (filter is_owned l.edges.items ≡ filter is_owned l.fn.edges.items)
