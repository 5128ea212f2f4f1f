use Rattle.cdi_staging.proofs.Common.{◌≡◌, ◌++◌, map, has, around_in, names_among, places_from, drop}
use Rattle.cdi_staging.proofs.around.positions_named.Given as goal

abbrev pub invariant-loop-position : goal.invariant-loop-position
invariant-loop-position l = record {
  left : l.left ≡ names_among l.names (map around_in (drop l.position l.around));
  positions : l.positions ++ places_from (λ a. has l.names a.0.name) l.position (map around_in (drop l.position l.around))
      ≡ places_from (λ a. has l.names a.0.name) 0 (map around_in l.around);
}
