use Rattle.cdi_validate.proofs.Common.{sym, ap, ◌∙◌, arith, is_dependent, list_any, drop_all}
use Rattle.cdi_validate.proofs.circles.has_dependent.Goals as goal

pub returns : goal.returns
returns c =
    ap (list_any is_dependent) (sym (drop_all c.loop-bean.bean-index c.args.beans.now (omega (arith, c.loop-bean-test.false))))
    ∙ c.loop-bean.invariant
