-- The part of a graph at some of its nodes.
use Rattle.std.specs.Prelude.{◌≡◌, Bool, ◌&&◌, filter}
use Rattle.cdi_graph.specs.contracts.node.NodeIdPartialEq.TheImpl as sameness
use Rattle.cdi_graph.specs.declared.graph.Graph.{Graph}
use Rattle.cdi_graph.specs.declared.node.NodeId.{NodeId}
use Rattle.cdi_graph.specs.Edges.{from, to}
use Rattle.cdi_graph.specs.Nodes.{id_of_node}

-- the comparison of what nodes are told by
abbrev pub same_node : NodeId → NodeId → Bool
same_node = (sameness.ghosts).eq

-- the nodes that pass a test, and the edges between them, in order
pub record IsPartAt (kept : NodeId → Bool) (whole part : Graph) : Type 0 where
  pub nodes : part.nodes.items ≡ filter (λ n. kept (id_of_node n)) whole.nodes.items
  pub edges : part.edges.items ≡ filter (λ e. kept (from e) && kept (to e)) whole.edges.items

abbrev pub IsPart : Graph → Graph → Type 0
IsPart whole part = (kept : NodeId → Bool) × IsPartAt kept whole part
