use Rattle.cdi_index.proofs.Common.{Lists, subst, word_of}
use Rattle.cdi_index.proofs.LoopLemmas.{keeps-list, words-next}
use Rattle.cdi_index.proofs.change.list_keys.Goals as goal

pub loop-read-preserved : goal.loop-read-preserved
loop-read-preserved c =
    let lists : Lists (word_of c.read-item.result) c.args.slot c.loop-read.postings c.list.new.self =
    subst (λ w. Lists w c.args.slot c.loop-read.postings c.list.new.self) c.word_of.ensures c.in_ok-list.ensures.ok in
    record {
      kept = keeps-list (word_of c.read-item.result) c.args.slot c.args.postings.now c.loop-read.postings c.list.new.self
          c.loop-read.invariant.kept lists;
      listed = words-next word_of c.args.reads.now c.loop-read.read-index c.read-item.result c.args.slot c.loop-read.postings
          c.list.new.self
          c.loop-read-test.true c.read-item.is lists c.loop-read.invariant.listed;
    }
