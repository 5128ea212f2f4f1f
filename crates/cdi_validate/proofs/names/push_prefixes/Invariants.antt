use Rattle.cdi_validate.proofs.Common.{◌≡◌, ◌++◌, length, IsStrictlySortedBy, slice_cmp, nat_cmp, prefix_pairs}
use Rattle.cdi_validate.proofs.names.push_prefixes.Given as goal

abbrev pub invariant-taken : goal.invariant-taken
invariant-taken l = record {
  rises : IsStrictlySortedBy (slice_cmp nat_cmp) l.left;
  pairs : l.faults.items ++ prefix_pairs l.left ≡ l.fn.faults.items ++ prefix_pairs l.names;
}

abbrev pub decreases-taken : goal.decreases-taken
decreases-taken l = length l.left
