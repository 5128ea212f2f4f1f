use Rattle.cdi_observe.proofs.Common.{◌≡◌, ◌++◌, drop, map, observers_of, ChainKey, asked_key}
use Rattle.cdi_model.specs.declared.place.BeanPlace.TheVariants as places
use Rattle.cdi_observe.proofs.keys.push_observers.Given as goal

abbrev pub invariant-loop-observer : goal.invariant-loop-observer
invariant-loop-observer l =
    map asked_key l.list.items ++ map (ChainKey l.bean.name) (map (λ x. places.Observer x.name) (drop l.observer-index l.observer-items))
    ≡ map asked_key l.fn.list.items ++ map (ChainKey l.bean.name) (observers_of l.bean)
