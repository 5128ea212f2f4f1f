use Rattle.cdi_staging.proofs.Common.{◌≡◌, position, position_from, is_observer, drop}
use Rattle.cdi_staging.proofs.notifying.observer_named.Given as goal

abbrev pub invariant-loop-place : goal.invariant-loop-place
invariant-loop-place l =
    position_from (is_observer l.name) l.place (drop l.place l.observers) ≡ position (is_observer l.name) l.observers
