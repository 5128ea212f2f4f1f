use Rattle.cdi_staging.proofs.Common.{◌≡◌, true, ◌++◌, map, are_answerable, key_of_event, fired_at, drop}
use Rattle.cdi_staging.proofs.notifying.fired_at.Given as goal

abbrev pub invariant-loop-event : goal.invariant-loop-event
invariant-loop-event g l = record {
  answerable : are_answerable (g.V.View.kept l.view) (map key_of_event (drop l.event-index l.fires)) ≡ true;
  notified : l.sites ++ map (fired_at (g.V.View.list l.view) l.beans) (drop l.event-index l.fires)
      ≡ map (fired_at (g.V.View.list l.view) l.beans) l.fires;
}
