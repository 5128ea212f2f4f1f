use Rattle.cdi_text.proofs.Common.{◌≡◌, ◌++◌, ◌-◌, length, filter, range_with_len}
use Rattle.cdi_text.proofs.KeyLineLemmas.{so_far}
use Rattle.cdi_text.specs.KeyLines.{stands_at, places}
use Rattle.cdi_text.proofs.key_lines.only_place.Given as goal

abbrev pub invariant-loop-place : goal.invariant-loop-place
invariant-loop-place l = so_far l.found ++ filter (stands_at l.text l.word) (range_with_len l.place (length l.text - l.place))
    ≡ places l.text l.word
