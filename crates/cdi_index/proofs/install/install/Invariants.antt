use Rattle.cdi_index.proofs.Common.{◌≡◌, ℕ, Some, DeclKey, Kept, kept_at, stored, IsShelf, IsSound, ◌+◌, length, applied, ◌<◌, ◌≤◌, ◌⊎◌}
use Rattle.cdi_index.proofs.Common.{spare, vec_len}
use Rattle.cdi_index.proofs.install.install.Given as goal

abbrev pub invariant-left : goal.invariant-left
invariant-left l = record {
  shelf : IsShelf l.shelf;
  given : l.shelf.given ≡ l.fn.shelf.given;
  numbered : l.shelf.numbered ≡ l.fn.shelf.numbered;
  replaced : l.shelf.replaced ≡ l.fn.shelf.replaced;
  fewer : length l.changes.items ≤ length l.fn.changes.items;
  slots : length l.changes.items ≤ spare l.shelf.slots;
  kept : length l.changes.items ≤ spare l.shelf.kept;
  free : (s : ℕ) (e : Kept) → kept_at l.shelf s ≡ Some e
      → (s < l.first) ⊎ ((l.first + length l.changes.items ≤ s) × (s < l.first + length l.fn.changes.items));
  applies : (k : DeclKey) → applied l.first l.changes.items (stored l.shelf) k
      ≡ applied l.first l.fn.changes.items (stored l.fn.shelf) k;
  sound : IsSound (applied l.first l.changes.items (stored l.shelf)) l.postings;
}

abbrev pub decreases-left : goal.decreases-left
decreases-left l = vec_len l.changes
