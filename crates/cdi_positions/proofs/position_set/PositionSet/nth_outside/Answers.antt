use Rattle.cdi_positions.proofs.Common.{◌+◌, ◌*◌, get_or, subst, ap, arith, ones-le, marked_count, IsOutside, marks_in}
use Rattle.cdi_positions.proofs.MarkLemmas.{count-whole, outside-row}
use Rattle.cdi_positions.proofs.SetLemmas.{count-past, outside-past}
use Rattle.cdi_positions.proofs.WordLemmas.{count-marks_in, length-marks_in}
use Rattle.cdi_positions.proofs.position_set.PositionSet.nth_outside.Goals as goal

pub nth_zero-requires : goal.nth_zero-requires
nth_zero-requires c =
    let word = get_or c.self.inside.words c.loop-index.index 0 in
    omega (arith, count-marks_in word (omega arith))

pub overflow_add-result : goal.overflow_add-result
overflow_add-result c = omega (arith, c.nth_zero.ensures.within, length-marks_in (get_or c.self.inside.words c.loop-index.index 0))

pub returns-then-left-outside-clause-found : goal.returns-then-left-outside-clause-found
returns-then-left-outside-clause-found c =
    subst (λ marks. IsOutside c.args.n marks (c.loop-index.index * 64 + c.nth_zero.result)) c.self.view_is
    (outside-row marks_in 64 length-marks_in c.self.inside.words c.loop-index.index c.nth_zero.result c.args.n c.loop-index.left
    (omega arith) c.loop-index.invariant c.nth_zero.ensures)

pub loop-index-preserved : goal.loop-index-preserved
loop-index-preserved c =
    let word = get_or c.self.inside.words c.loop-index.index 0 in
    omega (
      arith,
      c.loop-index.invariant,
      c.if-left-outside.false,
      ones-le 64 word (omega arith),
      count-marks_in word
          (omega arith),
      count-whole marks_in 64 length-marks_in c.self.inside.words c.loop-index.index (omega arith),
    )

pub returns-then-left-self-clause-found : goal.returns-then-left-self-clause-found
returns-then-left-self-clause-found c =
    let words = c.self.inside.words in
    let used = c.self.inside.used in
    subst (λ marks. IsOutside c.args.n marks (used * 64 + c.loop-index.left)) c.self.view_is
    (outside-past words used c.self.invariant c.args.n c.loop-index.left
    (omega (arith, count-past words used c.self.invariant (c.loop-index.index * 64) (omega arith))) (omega arith))

pub returns-clause-none : goal.returns-clause-none
returns-clause-none c =
    omega (
      arith,
      count-past c.self.inside.words c.self.inside.used c.self.invariant (c.loop-index.index * 64) (omega arith),
      ap marked_count c.self.view_is,
    )
