-- What the nodes of a graph are told by.
use Rattle.std.specs.Prelude.{ℕ, Bool, true, false, List, Option, Some, None}
use Rattle.cdi_effective.specs.declared.records.BeanId.{BeanId}
use Rattle.cdi_effective.specs.declared.records.Effective.{Effective}
use Rattle.cdi_model.specs.declared.decl.Kind.{Kind}
use Rattle.cdi_model.specs.declared.decl.Kind.TheVariants as kinds
use Rattle.cdi_model.specs.declared.mention.PointPlace.{PointPlace}
use Rattle.cdi_model.specs.declared.mention.PointPlace.TheVariants as places
use Rattle.cdi_graph.specs.declared.node.BeanNode.{BeanNode}
use Rattle.cdi_graph.specs.declared.node.Node.{Node}
use Rattle.cdi_graph.specs.declared.node.Node.TheVariants as nodes
use Rattle.cdi_graph.specs.declared.node.NodeId.{NodeId}
use Rattle.cdi_graph.specs.declared.node.NodeId.TheVariants as ids
use Rattle.cdi_graph.specs.declared.node.PointId.{PointId}

-- ---- what a node is told by

abbrev pub id_of_node : Node → NodeId
id_of_node (nodes.Bean bean) = ids.Bean bean.id
id_of_node (nodes.Point point) = ids.Point point.id
id_of_node (nodes.Interceptor name) = ids.Interceptor name
id_of_node (nodes.Event event) = ids.Event event.place

-- the managed bean of a class
abbrev pub managed : List ℕ → NodeId
managed class = ids.Bean (record { class = class; producer = None })

-- ---- what has a point

abbrev pub producer_at : PointPlace → Option (List ℕ)
producer_at places.Constructor = None
producer_at (places.Producer name) = Some name
producer_at (places.Observer name) = None

abbrev pub owner_of_kind : Kind → PointId → NodeId
owner_of_kind kinds.Interceptor p = ids.Interceptor p.owner.name
owner_of_kind other p = ids.Bean (record { class = p.owner.name; producer = producer_at p.place })

abbrev pub owner_of_point : PointId → NodeId
owner_of_point p = owner_of_kind p.owner.kind p

-- ---- sorts of nodes

abbrev pub is_point : Node → Bool
is_point (nodes.Bean bean) = false
is_point (nodes.Point point) = true
is_point (nodes.Interceptor name) = false
is_point (nodes.Event event) = false

abbrev pub is_bean : Node → Bool
is_bean (nodes.Bean bean) = true
is_bean (nodes.Point point) = false
is_bean (nodes.Interceptor name) = false
is_bean (nodes.Event event) = false

-- an event
abbrev pub is_event : NodeId → Bool
is_event (ids.Bean id) = false
is_event (ids.Point point) = false
is_event (ids.Interceptor name) = false
is_event (ids.Event place) = true

-- an interceptor, or a point of one
abbrev pub is_interceptor : Kind → Bool
is_interceptor kinds.Interceptor = true
is_interceptor other = false

abbrev pub is_of_chain : NodeId → Bool
is_of_chain (ids.Bean id) = false
is_of_chain (ids.Point point) = is_interceptor point.owner.kind
is_of_chain (ids.Interceptor name) = true
is_of_chain (ids.Event place) = false

-- what the node of a bean tells of it
abbrev pub told_bean : Effective → BeanNode
told_bean bean = record { id = bean.id; scope = bean.scope; is_enabled = bean.is_enabled }
