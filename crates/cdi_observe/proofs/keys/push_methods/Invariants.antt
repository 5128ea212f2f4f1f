use Rattle.cdi_observe.proofs.Common.{◌≡◌, ◌++◌, drop, map, methods_of, ChainKey, asked_key}
use Rattle.cdi_model.specs.declared.place.BeanPlace.TheVariants as places
use Rattle.cdi_observe.proofs.keys.push_methods.Given as goal

abbrev pub invariant-loop-method : goal.invariant-loop-method
invariant-loop-method l =
    map asked_key l.list.items ++ map (ChainKey l.bean.name) (map (λ x. places.Method x.name) (drop l.method-index l.method-items))
    ≡ map asked_key l.fn.list.items ++ map (ChainKey l.bean.name) (methods_of l.bean)
