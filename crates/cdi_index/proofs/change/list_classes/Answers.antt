use Rattle.cdi_index.proofs.Common.{word_at, Lists, subst}
use Rattle.cdi_postings.specs.declared.word.Reason.TheVariants as reasons
use Rattle.cdi_index.proofs.LoopLemmas.{keeps-list, words-next}
use Rattle.cdi_index.proofs.change.list_classes.Goals as goal

pub loop-class-preserved : goal.loop-class-preserved
loop-class-preserved c =
    let word = word_at reasons.Replaces c.class-item.result in
    let lists : Lists word c.args.slot c.loop-class.postings c.list.new.self =
    subst (λ w. Lists w c.args.slot c.loop-class.postings c.list.new.self) c.word_of_replaced.ensures c.in_ok-list.ensures.ok in
    record {
      kept = keeps-list word c.args.slot c.args.postings.now c.loop-class.postings c.list.new.self c.loop-class.invariant.kept lists;
      listed = words-next (word_at reasons.Replaces) c.args.classes.now c.loop-class.class-index c.class-item.result c.args.slot
          c.loop-class.postings c.list.new.self c.loop-class-test.true c.class-item.is lists c.loop-class.invariant.listed;
    }
