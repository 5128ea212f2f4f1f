use Rattle.std.proofs.Common.{◌≡◌, ◌++◌, map, drop}
use Rattle.cdi_admission.specs.Admission.{point_names}
use Rattle.cdi_admission.proofs.lists.NameLists.add_observers.Given as goal

abbrev pub invariant-loop-observer : goal.invariant-loop-observer
invariant-loop-observer l = l.self ++ map (λ o. point_names o.params) (drop l.observer-index l.observers)
    ≡ l.initial.self ++ map (λ o. point_names o.params) l.observers
