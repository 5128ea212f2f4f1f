-- The nodes and edges of the injection points of declarations.
use Rattle.std.specs.Prelude.{List}
use Rattle.cdi_container.specs.Points.{ToldPoint}
use Rattle.cdi_effective.specs.declared.records.Effective.{Effective}
use Rattle.cdi_faults.specs.declared.fault.Fault.{Fault}
use Rattle.cdi_graph.specs.declared.edge.Edge.{Edge}
use Rattle.cdi_graph.specs.declared.edge.Edge.TheVariants as edges
use Rattle.cdi_graph.specs.declared.node.Node.{Node}
use Rattle.cdi_graph.specs.declared.node.Node.TheVariants as nodes
use Rattle.cdi_graph.specs.declared.node.PointId.{PointId}
use Rattle.cdi_graph.specs.declared.plan.Wire.{Wire}
use Rattle.cdi_graph.specs.Edges.{chosen_for}
use Rattle.cdi_graph.specs.Nodes.{told_bean}
use Rattle.cdi_graph.specs.Red.{state_of}
use Rattle.cdi_model.specs.Decl.{key_of}

-- what a point is told by
abbrev pub told_id : ToldPoint → PointId
told_id t = record { owner = key_of t.owner; place = t.place; name = t.point.name }

-- the edge to it
abbrev pub told_owned : ToldPoint → Edge
told_owned t = edges.Owns (told_id t)

-- the edge from it to the bean that is chosen for it, if one is
abbrev pub told_choice : ToldPoint → List Edge
told_choice t = chosen_for (told_id t) t.choice

-- its node, with its state by the faults
abbrev pub told_node : List Fault → ToldPoint → Node
told_node fs t = nodes.Point (record {
  id = told_id t;
  required_type = t.point.required_type;
  qualifiers = t.point.qualifiers;
  state = state_of fs (told_id t);
})

-- the node of a bean
abbrev pub bean_node : Effective → Node
bean_node bean = nodes.Bean (told_bean bean)

-- what a wire says of its point
abbrev pub told_wire : Wire → ToldPoint
told_wire w = record { owner = w.owner.now; place = w.place; point = w.point.now; choice = w.choice.now }
