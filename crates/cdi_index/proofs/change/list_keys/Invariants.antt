use Rattle.cdi_index.proofs.Common.{◌≡◌, true, Word, is_listed, take, Keeps, keys_have}
use Rattle.cdi_index.proofs.change.list_keys.Given as goal

abbrev pub invariant-loop-read : goal.invariant-loop-read
invariant-loop-read l = record {
  kept : Keeps l.fn.postings l.postings;
  listed : (w : Word) → keys_have (take l.read-index l.reads) w ≡ true → is_listed l.postings w l.slot ≡ true;
}
