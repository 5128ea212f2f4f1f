use Rattle.cdi_index.proofs.LoopLemmas.{keeps-list, words-next}
use Rattle.cdi_index.proofs.change.list_each.Goals as goal

pub loop-word-preserved : goal.loop-word-preserved
loop-word-preserved c = record {
  kept = keeps-list c.word-item.result c.args.slot c.args.postings.now c.loop-word.postings c.list.new.self c.loop-word.invariant.kept
      c.in_ok-list.ensures.ok;
  listed = words-next (λ v. v) c.args.words.now c.loop-word.word-index c.word-item.result c.args.slot c.loop-word.postings c.list.new.self
      c.loop-word-test.true c.word-item.is c.in_ok-list.ensures.ok c.loop-word.invariant.listed;
}
