use Rattle.cdi_index.proofs.Common.{◌≡◌, DeclKey, same_key, length, ◌≤◌, turned, get, spare, vec_len}
use Rattle.cdi_index.proofs.replaced.install_turns.Given as goal

abbrev pub invariant-left : goal.invariant-left
invariant-left l = record {
  room : length l.turns.list.items ≤ spare l.replaced;
  applies : (k : DeclKey) → turned l.turns.list.items (get same_key l.replaced) k
      ≡ turned l.fn.turns.list.items (get same_key l.fn.replaced) k;
}

abbrev pub decreases-left : goal.decreases-left
decreases-left l = vec_len l.turns.list
