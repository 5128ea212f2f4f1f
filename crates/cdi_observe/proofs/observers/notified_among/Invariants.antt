use Rattle.cdi_observe.proofs.Common.{◌≡◌, ◌++◌, map, filter, drop, is_notified, observer_id, lent_in}
use Rattle.cdi_observe.proofs.observers.notified_among.Given as goal

abbrev pub invariant-loop-observer : goal.invariant-loop-observer
invariant-loop-observer l =
    l.ids.items ++ map observer_id (filter (is_notified l.decls l.quals) (lent_in (drop l.observer-index l.found)))
    ≡ map observer_id (filter (is_notified l.decls l.quals) (lent_in l.found))
