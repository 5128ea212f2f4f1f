use Rattle.std.proofs.Common.{◌≡◌, ◌++◌, drop, filter}
use Rattle.cdi_resolve.specs.Eligible.{is_eligible_for}
use Rattle.cdi_explain.specs.Lent.{lent_in}
use Rattle.cdi_explain.proofs.choice.Wanted.eligible.Given as goal

abbrev pub invariant-loop-bean : goal.invariant-loop-bean
invariant-loop-bean l =
    lent_in l.eligible.items ++ filter (is_eligible_for l.self.decls.now l.self.bean_type l.self.asked_for.now)
    (lent_in (drop l.bean-index l.beans))
    ≡ filter (is_eligible_for l.self.decls.now l.self.bean_type l.self.asked_for.now) (lent_in l.beans)
