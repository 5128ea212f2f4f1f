use Rattle.cdi_graph.proofs.Common.{◌++◌, filter, ap, ◌∙◌, flat_map, chosen, is_choice, is_owned}
use Rattle.cdi_graph.proofs.SortLemmas.{choices_among, owned_among}
use Rattle.cdi_graph.proofs.making_edges.edges_of.Goals as goal

pub returns-clause-choices : goal.returns-clause-choices
returns-clause-choices c =
    let wires = c.args.plan.now.wires.now in
    c.in_ok-add_fired.ensures.choices
    ∙ c.in_ok-add_surrounded.ensures.choices
    ∙ ap (filter is_choice) (c.in_ok-add_chosen.ensures ∙ ap (λ es. es ++ flat_map chosen wires) c.in_ok-add_owned.ensures)
    ∙ choices_among c.add_products.new.edges.items wires
    (c.in_ok-add_products.ensures.choices ∙ ap (filter is_choice) c.new-edges.ensures.items)

pub returns-clause-owned : goal.returns-clause-owned
returns-clause-owned c =
    let wires = c.args.plan.now.wires.now in
    c.in_ok-add_fired.ensures.owned
    ∙ c.in_ok-add_surrounded.ensures.owned
    ∙ ap (filter is_owned) (c.in_ok-add_chosen.ensures ∙ ap (λ es. es ++ flat_map chosen wires) c.in_ok-add_owned.ensures)
    ∙ owned_among c.add_products.new.edges.items wires
    (c.in_ok-add_products.ensures.owned ∙ ap (filter is_owned) c.new-edges.ensures.items)
