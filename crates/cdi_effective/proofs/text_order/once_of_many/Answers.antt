use Rattle.cdi_effective.proofs.UseLemmas.{once-next}
use Rattle.cdi_effective.proofs.text_order.once_of_many.Goals as goal

pub loop-binding-preserved : goal.loop-binding-preserved
loop-binding-preserved c =
    once-next c.args.uses.now c.loop-binding.binding-index c.binding-item.result c.loop-binding.found.keys _ _ c.loop-binding-test.true
    c.binding-item.is c.in_ok-insert.ensures.keys c.loop-binding.invariant
