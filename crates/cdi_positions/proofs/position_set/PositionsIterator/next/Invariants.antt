use Rattle.cdi_positions.proofs.Common.{◌≡◌, ◌-◌, ◌<◌, positions_left, word_count, EndsAt}
use Rattle.cdi_positions.proofs.position_set.PositionsIterator.next.Given as goal

abbrev pub invariant-filled : goal.invariant-filled
invariant-filled l = record {
  same : positions_left l.self-inside.words.now l.self-inside.index l.self-inside.word
      ≡ positions_left l.initial.self-inside.words.now l.initial.self-inside.index l.initial.self-inside.word;
  ends : EndsAt l.self-inside.end l.self-inside.words.now;
  within : l.self-inside.index < word_count;
}

abbrev pub decreases-filled : goal.decreases-filled
decreases-filled l = word_count - l.self-inside.index
