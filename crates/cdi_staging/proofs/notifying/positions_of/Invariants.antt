use Rattle.cdi_staging.proofs.Common.{◌≡◌, ◌++◌, map, notified_as, drop, IsHost}
use Rattle.cdi_staging.proofs.notifying.positions_of.Given as goal

abbrev pub invariant-loop-id : goal.invariant-loop-id
invariant-loop-id l = record {
  found : l.list ++ map (notified_as l.decls l.beans) (drop l.id-index l.ids) ≡ map (notified_as l.decls l.beans) l.ids;
  host : IsHost l.decls l.beans l.host;
}
