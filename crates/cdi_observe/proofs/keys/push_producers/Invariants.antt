use Rattle.cdi_observe.proofs.Common.{◌≡◌, ◌++◌, drop, filter, map, not, producers_of, ChainKey, asked_key}
use Rattle.cdi_model.specs.declared.place.BeanPlace.TheVariants as places
use Rattle.cdi_observe.proofs.keys.push_producers.Given as goal

abbrev pub invariant-loop-producer : goal.invariant-loop-producer
invariant-loop-producer l =
    map asked_key l.list.items
    ++ map (ChainKey l.bean.name)
    (map (λ p. places.Producer p.name) (filter (λ p. not p.is_static) (drop l.producer-index l.producer-items)))
    ≡ map asked_key l.fn.list.items ++ map (ChainKey l.bean.name) (producers_of l.bean)
