use Rattle.std.proofs.Common.{◌≡◌, ◌++◌, drop, filter, map, not}
use Rattle.cdi_model.specs.declared.place.BeanPlace.TheVariants as places
use Rattle.cdi_intercept.specs.Sets.{producers_of}
use Rattle.cdi_intercept.proofs.set.push_producers.Given as goal

abbrev pub invariant-loop-producer : goal.invariant-loop-producer
invariant-loop-producer l =
    l.list.items ++ map (λ p. places.Producer p.name) (filter (λ p. not p.is_static) (drop l.producer-index l.producer-items))
    ≡ l.fn.list.items ++ producers_of l.bean
