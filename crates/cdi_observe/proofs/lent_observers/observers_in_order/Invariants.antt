use Rattle.cdi_observe.proofs.Common.{◌≡◌, ◌++◌, map, filter, drop, observers, lent_in, observes}
use Rattle.cdi_observe.proofs.lent_observers.observers_in_order.Given as goal

abbrev pub invariant-loop-bean : goal.invariant-loop-bean
invariant-loop-bean l =
    lent_in l.list.items ++ filter (observes l.types) (observers l.decls (map (λ bean. bean.now) (drop l.bean-index l.beans)))
    ≡ filter (observes l.types) (observers l.decls (map (λ bean. bean.now) l.beans))
