use Rattle.std.proofs.Common.{◌≡◌, vec_len}
use Rattle.cdi_explain.specs.Counts.{AreCounted}
use Rattle.cdi_explain.proofs.known.Known.of.Given as goal

abbrev pub invariant-loop-class : goal.invariant-loop-class
invariant-loop-class l = record {
  counted : AreCounted l.name l.counts.items;
  length : vec_len l.counts ≡ l.class;
}
