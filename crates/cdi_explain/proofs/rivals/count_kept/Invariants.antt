use Rattle.std.proofs.Common.{◌≡◌, ◌+◌, ◌≤◌, drop, filter, length, map}
use Rattle.cdi_resolve.specs.Choices.{candidate}
use Rattle.cdi_explain.specs.{Lent.lent_in, Verdicts.is_kept_by}
use Rattle.cdi_explain.proofs.rivals.count_kept.Given as goal

abbrev pub invariant-loop-bean : goal.invariant-loop-bean
invariant-loop-bean l = record {
  few : l.count ≤ l.bean-index;
  rest : l.count + length (filter (is_kept_by l.top) (map candidate (lent_in (drop l.bean-index l.beans))))
      ≡ length (filter (is_kept_by l.top) (map candidate (lent_in l.beans)));
}
