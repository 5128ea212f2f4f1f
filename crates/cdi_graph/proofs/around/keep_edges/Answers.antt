use Rattle.cdi_graph.proofs.Common.{rules, filter_same}
use Rattle.cdi_graph.proofs.around.keep_edges.Goals as goal

pub returns : goal.returns
returns c = filter_same _ _ _ (λ x b f' k. search rules) _ _ c.retain.ensures.filtered
