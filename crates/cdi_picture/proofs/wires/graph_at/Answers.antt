use Rattle.std.proofs.Common.{◌≡◌, ◌∙◌, ap, IfOk, filter, map, subst}
use Rattle.cdi_graph.specs.{Edges.is_choice, Edges.is_owned, Nodes.is_point}
use Rattle.cdi_container.specs.PointsLent.{points_lent}
use Rattle.cdi_picture.proofs.WireLemmas.{choices_told, nodes_told, owned_told}
use Rattle.cdi_picture.specs.Told.{told_wire}
use Rattle.cdi_picture.proofs.wires.graph_at.Goals as goal

pub returns-clause-choices : goal.returns-clause-choices
returns-clause-choices c = subst (λ edges. IfOk c.graph_of.result (λ graph. filter is_choice graph.edges.items ≡ edges))
    (choices_told c.as_slice.result.now (points_lent c.args.points) (ap (map told_wire) c.as_slice.ensures.value ∙ c.in_ok-wires.ensures))
    c.graph_of.ensures.choices

pub returns-clause-owned : goal.returns-clause-owned
returns-clause-owned c = subst (λ edges. IfOk c.graph_of.result (λ graph. filter is_owned graph.edges.items ≡ edges))
    (owned_told c.as_slice.result.now (points_lent c.args.points) (ap (map told_wire) c.as_slice.ensures.value ∙ c.in_ok-wires.ensures))
    c.graph_of.ensures.owned

pub returns-clause-points : goal.returns-clause-points
returns-clause-points c = subst (λ nodes. IfOk c.graph_of.result (λ graph. filter is_point graph.nodes.items ≡ nodes))
    (nodes_told c.as_slice.result.now (points_lent c.args.points) (ap (map told_wire) c.as_slice.ensures.value ∙ c.in_ok-wires.ensures)
    c.args.rest.now.faults.now)
    c.graph_of.ensures.points
