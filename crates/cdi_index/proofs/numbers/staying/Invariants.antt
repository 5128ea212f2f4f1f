use Rattle.cdi_index.proofs.Common.{◌≡◌, ◌≤◌, ℕ, true, Some, Decl, key_of, is_among, length, slice_get}
use Rattle.cdi_index.proofs.numbers.staying.Given as goal

abbrev pub invariant-left : goal.invariant-left
invariant-left l = record {
  within : l.place ≤ length l.decls;
  edited : (p : ℕ) (d : Decl) → l.place ≤ p → slice_get l.decls p ≡ Some d → is_among l.edited (key_of d) ≡ true;
}

abbrev pub decreases-left : goal.decreases-left
decreases-left l = l.place
