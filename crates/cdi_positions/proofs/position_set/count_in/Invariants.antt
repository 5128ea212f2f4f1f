use Rattle.cdi_positions.proofs.Common.{◌≡◌, take, marked_count, marks_of}
use Rattle.cdi_positions.proofs.position_set.count_in.Given as goal

abbrev pub invariant-loop-word : goal.invariant-loop-word
invariant-loop-word l = l.count ≡ marked_count (marks_of (take l.word-index l.words))
