use Rattle.cdi_positions.proofs.Common.{◌≡◌, ◌-◌, word_count, BeginsAt, EndsAt}
use Rattle.cdi_positions.proofs.position_queue.PositionQueue.take.Given as goal

abbrev pub invariant-filled : goal.invariant-filled
invariant-filled l = record {
  same : l.self-inside.words ≡ l.initial.self-inside.words;
  begins : BeginsAt l.self-inside.first l.self-inside.words;
  ends : EndsAt l.self-inside.end l.self-inside.words;
}

abbrev pub decreases-filled : goal.decreases-filled
decreases-filled l = word_count - l.self-inside.first
