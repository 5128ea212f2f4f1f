use Rattle.cdi_validate.proofs.Common.{◌≡◌, is_dependent, list_any, drop}
use Rattle.cdi_validate.proofs.circles.has_dependent.Given as goal

abbrev pub invariant-loop-bean : goal.invariant-loop-bean
invariant-loop-bean l = list_any is_dependent (drop l.bean-index l.beans) ≡ list_any is_dependent l.beans
