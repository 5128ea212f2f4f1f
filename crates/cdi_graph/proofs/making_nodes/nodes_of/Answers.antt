use Rattle.cdi_graph.proofs.Common.{◌++◌, map, filter, ap, ◌∙◌, is_bean, is_point, point_node}
use Rattle.cdi_graph.proofs.SortLemmas.{beans_among, points_among}
use Rattle.cdi_graph.specs.declared.node.Node.TheVariants as nodes
use Rattle.cdi_graph.proofs.making_nodes.nodes_of.Goals as goal

pub returns-clause-points : goal.returns-clause-points
returns-clause-points c =
    let plan = c.args.plan.now in
    c.in_ok-add_events.ensures.points
    ∙ ap (filter is_point) (c.in_ok-add_interceptors.ensures
    ∙ ap (λ ns. ns ++ map nodes.Interceptor c.as_slice.result.now) (c.in_ok-add_points.ensures plan.faults.now c.in_ok-red.ensures
    ∙ ap (λ ns. ns ++ map (point_node plan.faults.now) plan.wires.now) (c.in_ok-add_beans.ensures
    ∙ ap (λ ns. ns ++ map nodes.Bean plan.beans.now) c.new-nodes.ensures.items)))
    ∙ points_among plan.faults.now plan.beans.now plan.wires.now c.as_slice.result.now

pub returns-clause-beans : goal.returns-clause-beans
returns-clause-beans c =
    let plan = c.args.plan.now in
    c.in_ok-add_events.ensures.beans
    ∙ ap (filter is_bean) (c.in_ok-add_interceptors.ensures
    ∙ ap (λ ns. ns ++ map nodes.Interceptor c.as_slice.result.now) (c.in_ok-add_points.ensures plan.faults.now c.in_ok-red.ensures
    ∙ ap (λ ns. ns ++ map (point_node plan.faults.now) plan.wires.now) (c.in_ok-add_beans.ensures
    ∙ ap (λ ns. ns ++ map nodes.Bean plan.beans.now) c.new-nodes.ensures.items)))
    ∙ beans_among plan.faults.now plan.beans.now plan.wires.now c.as_slice.result.now
