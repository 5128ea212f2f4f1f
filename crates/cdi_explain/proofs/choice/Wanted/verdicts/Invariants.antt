use Rattle.std.proofs.Common.{◌≡◌, ◌++◌, drop, map}
use Rattle.cdi_explain.specs.{Lent.lent_in, Verdicts.verdict_by}
use Rattle.cdi_explain.proofs.choice.Wanted.verdicts.Given as goal

abbrev pub invariant-loop-bean : goal.invariant-loop-bean
invariant-loop-bean l =
    l.verdicts.items ++ map (verdict_by l.self.decls.now l.self.bean_type l.self.asked_for.now l.rivals)
    (lent_in (drop l.bean-index l.beans))
    ≡ map (verdict_by l.self.decls.now l.self.bean_type l.self.asked_for.now l.rivals) (lent_in l.beans)
