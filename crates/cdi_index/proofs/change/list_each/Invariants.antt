use Rattle.cdi_index.proofs.Common.{◌≡◌, true, Word, words_have, is_listed, take, Keeps}
use Rattle.cdi_index.proofs.change.list_each.Given as goal

abbrev pub invariant-loop-word : goal.invariant-loop-word
invariant-loop-word l = record {
  kept : Keeps l.fn.postings l.postings;
  listed : (w : Word) → words_have (take l.word-index l.words) w ≡ true → is_listed l.postings w l.slot ≡ true;
}
