use Rattle.cdi_report.proofs.Common.{◌≡◌, ◌||◌, length, list_any, is_marked, is_at, take}
use Rattle.cdi_positions.specs.Marks.{limit}
use Rattle.cdi_report.proofs.positions.mark_each.Given as goal

abbrev pub invariant-loop-key : goal.invariant-loop-key
invariant-loop-key l = record {
  size : length l.positions ≡ limit;
  marks : (p : _) → is_marked l.positions p ≡ (is_marked l.fn.positions p || list_any (λ k. is_at l.decls k p) (take l.key-index l.keys));
}
