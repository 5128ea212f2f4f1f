use Rattle.std.proofs.Common.{◌≡◌, ◌++◌, drop, flat_map}
use Rattle.cdi_model.specs.declared.place.BeanPlace.TheVariants as spots
use Rattle.cdi_subjects.specs.Records.{conflict_at, conflicts_at_producers, conflicts_in}
use Rattle.cdi_subjects.proofs.conflicts.push_conflicts.Given as goal

abbrev pub invariant-loop-method : goal.invariant-loop-method
invariant-loop-method l =
    l.subjects.items
    ++ (flat_map (λ m. conflict_at l.decls l.class l.bean (spots.Method m.name))
    (drop l.method-index l.method-items)
    ++ conflicts_at_producers l.decls l.class l.bean
    ++ flat_map (λ o. conflict_at l.decls l.class l.bean (spots.Observer o.name))
    l.bean.observers)
    ≡ l.fn.subjects.items ++ conflicts_in l.decls l.class l.bean

abbrev pub invariant-loop-observer : goal.invariant-loop-observer
invariant-loop-observer l =
    l.subjects.items
    ++ flat_map (λ o. conflict_at l.decls l.class l.bean (spots.Observer o.name))
    (drop l.observer-index l.observer-items)
    ≡ l.fn.subjects.items ++ conflicts_in l.decls l.class l.bean
