use Rattle.cdi_validate.proofs.Common.{List, ◌++◌, sym, ap, ◌∙◌, IfOk-weaker, append-nil, eqb-true, length, is_marked, subst}
use Rattle.std.specs.Bool.{Decides}
use Rattle.cdi_ways.specs.declared.edge.Edge.{Edge}
use Rattle.cdi_ways.specs.Ways.{IsOnCircle}
use Rattle.cdi_validate.proofs.CircleLemmas.{all-within, circles_found, no_circles}
use Rattle.cdi_validate.proofs.circles.push_all_circles.Goals as goal

pub returns-then-is_empty-clause-faults : goal.returns-then-is_empty-clause-faults
returns-then-is_empty-clause-faults g c =
    let ids = c.in_ok-dependents.dependents.ids in
    sym (ap (λ fs. c.args.faults.now.items ++ fs) (no_circles (g.V.View.list c.args.view.now) c.in_ok-dependents.dependents
    c.in_ok-dependents.ensures.value (eqb-true (length ids) 0 (sym c.is_empty.ensures ∙ c.if-is_empty.true)))
    ∙ append-nil c.args.faults.now.items)

pub push_circles-requires : goal.push_circles-requires
push_circles-requires g c = all-within _ c.in_ok-dependents.dependents c.in_ok-dependents.ensures.value

pub returns-clause-faults : goal.returns-clause-faults
returns-clause-faults g c =
    IfOk-weaker c.push_circles.result _ _ (λ done e. e ∙ ap (λ fs. c.args.faults.now.items ++ fs)
    (circles_found (g.V.View.list c.args.view.now) c.in_ok-dependents.dependents c.in_ok-dependents.ensures.value c.as_slice-2.result.now
    (λ p. subst (λ (edges : List Edge). Decides (is_marked c.as_slice-2.result.now p) (IsOnCircle edges p))
    (c.as_slice.ensures.value ∙ c.in_ok-edges.ensures)
    (subst (λ marks. Decides (is_marked marks p) (IsOnCircle c.as_slice.result.now p)) (sym c.as_slice-2.ensures.value)
    (c.in_ok-marks.ensures p)))))
    c.push_circles.ensures
