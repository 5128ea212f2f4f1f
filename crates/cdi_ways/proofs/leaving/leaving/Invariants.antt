use Rattle.cdi_ways.proofs.Common.{leaving_at}
use Rattle.cdi_ways.proofs.LeavingLemmas.{AreRight, AreWholeBelow}
use Rattle.cdi_ways.proofs.leaving.leaving.Given as goal

abbrev pub invariant-loop-position : goal.invariant-loop-position
invariant-loop-position l = AreRight l.edges (leaving_at l.leaving.items) × AreWholeBelow l.edges (leaving_at l.leaving.items) l.position
