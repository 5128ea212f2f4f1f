use Rattle.cdi_graph.proofs.Common.{◌≡◌, filter, is_choice, is_owned}
use Rattle.cdi_graph.proofs.making_edges.add_products.Given as goal

abbrev pub invariant-loop-bean : goal.invariant-loop-bean
invariant-loop-bean l = (filter is_choice l.edges.items ≡ filter is_choice l.fn.edges.items)
    × (filter is_owned l.edges.items ≡ filter is_owned l.fn.edges.items)
