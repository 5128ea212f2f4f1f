use Rattle.cdi_index.proofs.Common.{◌≡◌, ℕ, true, Word, ◌≢◌, is_listed}
use Rattle.cdi_index.proofs.install.unlist_classes.Given as goal

abbrev pub invariant-loop-class : goal.invariant-loop-class
invariant-loop-class l = (w : Word) (s : ℕ) → s ≢ l.slot → is_listed l.fn.postings w s ≡ true → is_listed l.postings w s ≡ true
