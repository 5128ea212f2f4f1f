use Rattle.std.proofs.Common.{◌≡◌, ◌++◌, drop, map}
use Rattle.cdi_explain.specs.{Lent.lent_in, Names.name_verdict_by}
use Rattle.cdi_explain.proofs.named.verdicts.Given as goal

abbrev pub invariant-loop-bean : goal.invariant-loop-bean
invariant-loop-bean l =
    l.verdicts.items ++ map (name_verdict_by l.name l.rivals) (lent_in (drop l.bean-index l.beans))
    ≡ map (name_verdict_by l.name l.rivals) (lent_in l.beans)
