use Rattle.cdi_positions.proofs.Common.{◌≡◌, ◌*◌, ◌+◌, count_below, marks_of}
use Rattle.cdi_positions.proofs.position_set.PositionSet.nth_outside.Given as goal

abbrev pub invariant-loop-index : goal.invariant-loop-index
invariant-loop-index l = l.left + l.index * 64 ≡ l.n + count_below (l.index * 64) (marks_of l.self-inside.words)
