use Rattle.cdi_graph.proofs.Common.{◌≡◌, filter, is_choice, is_owned}
use Rattle.cdi_graph.proofs.making_edges.add_notified.Given as goal

abbrev pub invariant-loop-observer : goal.invariant-loop-observer
invariant-loop-observer l = (filter is_choice l.edges.items ≡ filter is_choice l.fn.edges.items)
    × (filter is_owned l.edges.items ≡ filter is_owned l.fn.edges.items)
