use Rattle.cdi_validate.proofs.Common.{sym, ap, ◌∙◌, map, arith, is_needless, list_all, drop_all}
use Rattle.cdi_validate.proofs.circles.are_needless.Goals as goal

pub returns : goal.returns
returns g c =
    ap (λ left. list_all (is_needless (g.V.View.list c.args.view.now)) (map (λ d. d.now) left))
    (sym (drop_all c.loop-decl.decl-index c.args.decls.now (omega (arith, c.loop-decl-test.false))))
    ∙ c.loop-decl.invariant
