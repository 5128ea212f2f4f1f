use Rattle.cdi_index.proofs.Common.{◌≡◌, ℕ, true, map, Some, DeclKey, made_of, Word, ◌+◌, slice_get, change_of, is_listed, take, Keeps}
use Rattle.cdi_index.proofs.Common.{has_word}
use Rattle.cdi_index.specs.Numbers.{number_by}
use Rattle.cdi_index.proofs.change.change_all.Given as goal

abbrev pub invariant-loop-key : goal.invariant-loop-key
invariant-loop-key l = record {
  kept : Keeps l.fn.postings l.postings;
  changes : l.changes.items ≡ map (change_of l.types.decls.now (number_by l.numbers)) (take l.key-index l.keys);
  listed : (w : Word) (i : ℕ) (k : DeclKey) → slice_get (take l.key-index l.keys) i ≡ Some k
      → has_word (made_of l.types.decls.now k) w ≡ true → is_listed l.postings w (l.numbers.shelf.now.given + i) ≡ true;
}
