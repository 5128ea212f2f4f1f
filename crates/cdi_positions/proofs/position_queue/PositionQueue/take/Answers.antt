use Rattle.cdi_positions.proofs.Common.{◌+◌, ◌*◌, ◌/◌, false, ap, sym, ◌∙◌, get_or, set, arith, count_trailing_zeros, is_marked}
use Rattle.cdi_positions.proofs.Common.{marked_count, marks_of}
use Rattle.cdi_positions.proofs.MarkLemmas.{marked_count-none}
use Rattle.cdi_positions.proofs.SetLemmas.{lowest-marked, lowest-taken, unmarked-zero, zeros-all}
use Rattle.cdi_positions.proofs.position_queue.PositionQueue.take.Goals as goal

pub returns-then-self-clause-none : goal.returns-then-self-clause-none
returns-then-self-clause-none c =
    let words = c.filled.self-inside.words in
    ap marked_count (sym c.self.view_is ∙ ap marks_of (sym c.filled.invariant.same))
    ∙ marked_count-none (marks_of words)
    (λ p. unmarked-zero words p
    (zeros-all words c.filled.self-inside.first c.filled.self-inside.end c.filled.invariant.begins c.filled.invariant.ends
    c.filled-test.true (omega arith) (p / 64)))

pub returns-clause-was : goal.returns-clause-was
returns-clause-was c =
    let words = c.filled.self-inside.words in
    let first = c.filled.self-inside.first in
    ap (λ marks. is_marked marks (first * 64 + count_trailing_zeros 64 (get_or words first 0)))
    (sym c.self.view_is ∙ ap marks_of (sym c.filled.invariant.same))
    ∙ lowest-marked words first (omega (arith, c.filled.invariant.begins.sized, c.filled.invariant.begins.within)) (omega arith)
    (omega arith)

pub returns-clause-taken : goal.returns-clause-taken
returns-clause-taken c =
    let words = c.filled.self-inside.words in
    let first = c.filled.self-inside.first in
    lowest-taken words first (omega (arith, c.filled.invariant.begins.sized, c.filled.invariant.begins.within)) (omega arith) (omega arith)
    ∙ ap (λ marks. set marks (first * 64 + count_trailing_zeros 64 (get_or words first 0)) false)
    (ap marks_of c.filled.invariant.same ∙ c.self.view_is)
