use Rattle.cdi_seen.proofs.Common.{◌≡◌, length, drop, pointwise}
use Rattle.cdi_model.specs.SameUse.{same_qual}
use Rattle.cdi_match.specs.Bindings.{uses_in}
use Rattle.cdi_seen.proofs.bindings.same_as_written.Given as goal

abbrev pub invariant-loop-i : goal.invariant-loop-i
invariant-loop-i l = record {
  same : pointwise same_qual (uses_in (drop l.i l.olds)) (uses_in (drop l.i l.news)) ≡ pointwise same_qual (uses_in l.olds) (uses_in l.news);
  length : length l.olds ≡ length l.news;
}
