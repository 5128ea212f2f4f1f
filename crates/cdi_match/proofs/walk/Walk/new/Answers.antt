use Rattle.cdi_positions.proofs.MarkLemmas.{marked_count-none}
use Rattle.cdi_match.proofs.walk.Walk.new.Goals as goal

pub returns-clause-left : goal.returns-clause-left
returns-clause-left c = marked_count-none c.new-2.result c.new-2.ensures.none
