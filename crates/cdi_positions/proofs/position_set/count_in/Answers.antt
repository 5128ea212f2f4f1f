use Rattle.cdi_positions.proofs.Common.{◌+◌, ap, sym, ◌∙◌, get_or, arith, count_ones}
use Rattle.cdi_positions.proofs.SetLemmas.{count-more, count-room}
use Rattle.cdi_positions.proofs.position_set.count_in.Goals as goal

pub overflow_add-count : goal.overflow_add-count
overflow_add-count c =
    omega (
      arith,
      count-room c.args.words.now c.loop-word.word-index c.loop-word-test.true,
      count-more c.args.words.now c.loop-word.word-index c.loop-word-test.true (omega arith),
      c.requires,
    )

pub loop-word-preserved : goal.loop-word-preserved
loop-word-preserved c =
    ap (λ n. n + count_ones (get_or c.args.words.now c.loop-word.word-index 0)) c.loop-word.invariant
    ∙ sym (count-more c.args.words.now c.loop-word.word-index c.loop-word-test.true (omega arith))
