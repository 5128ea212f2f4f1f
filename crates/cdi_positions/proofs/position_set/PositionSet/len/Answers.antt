use Rattle.cdi_positions.proofs.Common.{ap, ◌∙◌, marked_count}
use Rattle.cdi_positions.proofs.SetLemmas.{count-used}
use Rattle.cdi_positions.proofs.position_set.PositionSet.len.Goals as goal

pub returns : goal.returns
returns c = c.count_in.ensures ∙ count-used c.self.inside.words c.self.inside.used c.self.invariant ∙ ap marked_count c.self.view_is
