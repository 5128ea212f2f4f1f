use Rattle.cdi_positions.proofs.Common.{◌≡◌, ◌+◌, count_below, marks_in}
use Rattle.cdi_positions.proofs.position_set.nth_zero.Given as goal

abbrev pub invariant-loop-bit : goal.invariant-loop-bit
invariant-loop-bit l = l.left + l.bit ≡ l.n + count_below l.bit (marks_in l.word)
