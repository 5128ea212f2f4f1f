use Rattle.cdi_graph.proofs.Common.{contains}
use Rattle.cdi_graph.specs.Around.{same_node}
use Rattle.cdi_graph.proofs.graph.Graph.around.Goals as goal

pub returns : goal.returns
returns c = (λ id. contains same_node c.in_ok-near.near id, record { nodes = c.keep_nodes.ensures; edges = c.keep_edges.ensures })
