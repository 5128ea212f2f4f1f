use Rattle.cdi_graph.proofs.Common.{◌≡◌, filter, is_choice, is_owned}
use Rattle.cdi_graph.proofs.making_edges.add_fired.Given as goal

abbrev pub invariant-loop-one : goal.invariant-loop-one
invariant-loop-one l = (filter is_choice l.edges.items ≡ filter is_choice l.fn.edges.items)
    × (filter is_owned l.edges.items ≡ filter is_owned l.fn.edges.items)
