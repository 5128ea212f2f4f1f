use Rattle.cdi_staging.proofs.Common.{◌≡◌, ◌++◌, drop}
use Rattle.cdi_staging.proofs.names.copy_events.Given as goal

abbrev pub invariant-loop-event : goal.invariant-loop-event
invariant-loop-event l = l.copy ++ drop l.event-index l.events ≡ l.events
