use Rattle.cdi_index.proofs.Common.{◌≡◌, true, Word, is_listed, take, Keeps, classes_have}
use Rattle.cdi_index.proofs.change.list_classes.Given as goal

abbrev pub invariant-loop-class : goal.invariant-loop-class
invariant-loop-class l = record {
  kept : Keeps l.fn.postings l.postings;
  listed : (w : Word) → classes_have (take l.class-index l.classes) w ≡ true → is_listed l.postings w l.slot ≡ true;
}
