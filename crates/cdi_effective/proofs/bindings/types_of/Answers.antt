use Rattle.cdi_effective.proofs.Common.{true, cond, ap, ◌∙◌, byte_order, contains, at_name}
use Rattle.cdi_effective.proofs.BindingLemmas.{type-next}
use Rattle.cdi_effective.proofs.bindings.types_of.Goals as goal

pub loop-binding-preserved : goal.loop-binding-preserved
loop-binding-preserved c = λ name.
    let was = contains byte_order c.loop-binding.types name in
    type-next c.args.uses.now c.loop-binding.binding-index c.binding-item.result name was _ _ c.loop-binding-test.true c.binding-item.is
    (c.in_ok-insert.ensures.updates.0 name ∙ ap (λ t. cond t true was) (at_name c.binding-item.result.now.name name))
    (c.loop-binding.invariant name)
