use Rattle.std.proofs.Common.{◌≡◌, ◌++◌, drop, map}
use Rattle.cdi_model.specs.declared.place.BeanPlace.TheVariants as places
use Rattle.cdi_intercept.specs.Sets.{observers_of, places_of, producers_of}
use Rattle.cdi_intercept.proofs.set.places_of.Given as goal

abbrev pub invariant-loop-method : goal.invariant-loop-method
invariant-loop-method l =
    l.list.items ++ (map (λ m. places.Method m.name) (drop l.method-index l.method-items) ++ producers_of l.bean ++ observers_of l.bean)
    ≡ places_of l.bean

abbrev pub invariant-loop-observer : goal.invariant-loop-observer
invariant-loop-observer l =
    l.list.items ++ map (λ o. places.Observer o.name) (drop l.observer-index l.observer-items) ≡ places_of l.bean
