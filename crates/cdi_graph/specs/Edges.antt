-- Where the edges of a graph lead.
use Rattle.std.specs.Prelude.{Bool, true, false, not, ◌||◌, List, [], ◌∷◌}
use Rattle.cdi_effective.specs.declared.records.BeanId.{BeanId}
use Rattle.cdi_resolve.specs.declared.choice.Choice.{Choice}
use Rattle.cdi_resolve.specs.declared.choice.Choice.TheVariants as choices
use Rattle.cdi_model.specs.Decl.{key_of}
use Rattle.cdi_graph.specs.declared.edge.Edge.{Edge}
use Rattle.cdi_graph.specs.declared.edge.Edge.TheVariants as edges
use Rattle.cdi_graph.specs.declared.node.NodeId.{NodeId}
use Rattle.cdi_graph.specs.declared.node.NodeId.TheVariants as ids
use Rattle.cdi_graph.specs.declared.node.PointId.{PointId}
use Rattle.cdi_graph.specs.declared.plan.Wire.{Wire}
use Rattle.cdi_graph.specs.Nodes.{managed, owner_of_point}

-- ---- the ends of an edge

abbrev pub from : Edge → NodeId
from (edges.Produces product) = managed product.class
from (edges.Owns point) = owner_of_point point
from (edges.Chosen point bean) = ids.Point point
from (edges.Surrounds interceptor bean place) = ids.Interceptor interceptor
from (edges.Fires owner event) = owner
from (edges.Notifies event bean method) = ids.Event event

abbrev pub to : Edge → NodeId
to (edges.Produces product) = ids.Bean product
to (edges.Owns point) = ids.Point point
to (edges.Chosen point bean) = ids.Bean bean
to (edges.Surrounds interceptor bean place) = managed bean
to (edges.Fires owner event) = ids.Event event
to (edges.Notifies event bean method) = managed bean

-- one of its ends is such a node
abbrev pub is_at : (NodeId → Bool) → Edge → Bool
is_at test edge = test (from edge) || test (to edge)

-- ---- sorts of edges

-- from a point to a bean
abbrev pub is_choice : Edge → Bool
is_choice (edges.Produces product) = false
is_choice (edges.Owns point) = false
is_choice (edges.Chosen point bean) = true
is_choice (edges.Surrounds interceptor bean place) = false
is_choice (edges.Fires owner event) = false
is_choice (edges.Notifies event bean method) = false

-- to a point
abbrev pub is_owned : Edge → Bool
is_owned (edges.Produces product) = false
is_owned (edges.Owns point) = true
is_owned (edges.Chosen point bean) = false
is_owned (edges.Surrounds interceptor bean place) = false
is_owned (edges.Fires owner event) = false
is_owned (edges.Notifies event bean method) = false

-- ---- the edges of a wire

-- what its point is told by
abbrev pub point_of : Wire → PointId
point_of w = record { owner = key_of w.owner.now; place = w.place; name = w.point.now.name }

-- to its point
abbrev pub owned : Wire → Edge
owned w = edges.Owns (point_of w)

-- from its point to the bean that is chosen, if one is
abbrev pub chosen_for : PointId → Choice → List Edge
chosen_for p (choices.One bean) = edges.Chosen p bean ∷ []
chosen_for p choices.Unsatisfied = []
chosen_for p (choices.Ambiguous beans) = []

abbrev pub chosen : Wire → List Edge
chosen w = chosen_for (point_of w) w.choice.now
