use Rattle.cdi_observe.proofs.Common.{◌≡◌, ◌++◌, map, filter, drop, lent_in, observes}
use Rattle.cdi_observe.specs.Lent.{observer_in}
use Rattle.cdi_observe.proofs.lent_observers.push_observers.Given as goal

abbrev pub invariant-loop-method : goal.invariant-loop-method
invariant-loop-method l =
    lent_in l.list.items ++ filter (observes l.types) (map (observer_in l.bean) (drop l.method-index l.method-items))
    ≡ lent_in l.fn.list.items ++ filter (observes l.types) (map (observer_in l.bean) l.bean.observers)
