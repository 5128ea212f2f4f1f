use Rattle.cdi_observe.proofs.Common.{ap, declared_by, observes}
use Rattle.cdi_observe.proofs.ObserverLemmas.{next-lent}
use Rattle.cdi_observe.proofs.lent_observers.observers_in_order.Goals as goal

pub loop-bean-preserved : goal.loop-bean-preserved
loop-bean-preserved c =
    next-lent (λ bean. bean.now) (observes c.args.types.now) c.args.decls.now c.args.beans.now c.loop-bean.bean-index c.bean-item.result
    _ _ _ _ c.loop-bean-test.true c.bean-item.is (ap declared_by c.enabled_bean.ensures) c.in_ok-push_observers.ensures
    c.loop-bean.invariant
