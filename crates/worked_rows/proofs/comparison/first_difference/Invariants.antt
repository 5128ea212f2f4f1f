use Rattle.std.proofs.Common.{◌≡◌, ◌≤◌, ◌-◌, length, take}
use Rattle.worked_rows.proofs.comparison.first_difference.Given as goal

abbrev pub invariant-places : goal.invariant-places
invariant-places l = record {
  same : take l.place l.wanted ≡ take l.place l.came;
  in_wanted : l.place ≤ length l.wanted;
  in_came : l.place ≤ length l.came;
}

abbrev pub decreases-places : goal.decreases-places
decreases-places l = length l.wanted - l.place
