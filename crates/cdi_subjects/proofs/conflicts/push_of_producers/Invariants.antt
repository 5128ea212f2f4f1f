use Rattle.std.proofs.Common.{◌≡◌, ◌++◌, drop, filter, not, flat_map}
use Rattle.cdi_model.specs.declared.place.BeanPlace.TheVariants as spots
use Rattle.cdi_subjects.specs.Records.{conflict_at, conflicts_at_producers}
use Rattle.cdi_subjects.proofs.conflicts.push_of_producers.Given as goal

abbrev pub invariant-loop-producer : goal.invariant-loop-producer
invariant-loop-producer l =
    l.subjects.items
    ++ flat_map (λ p. conflict_at l.decls l.class l.bean (spots.Producer p.name))
    (filter (λ p. not p.is_static) (drop l.producer-index l.producer-items))
    ≡ l.fn.subjects.items ++ conflicts_at_producers l.decls l.class l.bean
