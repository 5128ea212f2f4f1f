use Rattle.cdi_staging.proofs.Common.{◌≡◌, ◌++◌, map, drop}
use Rattle.cdi_staging.specs.Naming.{observer_names}
use Rattle.cdi_staging.proofs.names.names_of_observers.Given as goal

abbrev pub invariant-loop-observer : goal.invariant-loop-observer
invariant-loop-observer l = l.names ++ map observer_names (drop l.observer-index l.observers) ≡ map observer_names l.observers
