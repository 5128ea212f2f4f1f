use Rattle.cdi_validate.proofs.Common.{◌≡◌, ◌<◌, ℕ, length, ◌||◌, drop, has_position, is_marked}
use Rattle.cdi_validate.proofs.twice.marks_of.Given as goal

abbrev pub invariant-loop-link : goal.invariant-loop-link
invariant-loop-link l = record {
  sized : length l.marks.items ≡ length l.decls;
  marked : (i : ℕ) → i < length l.decls
      → (is_marked l.marks.items i || has_position (drop l.link-index l.links) i) ≡ has_position l.links i;
}
