use Rattle.cdi_staging.proofs.Common.{sym, subst, IfSome, IsFireable}
use Rattle.cdi_staging.proofs.AnswerableLemmas.{bean-fired}
use Rattle.cdi_staging.proofs.stage.Stage.managed_form.Goals as goal

pub staged_place-requires-clause-part : goal.staged_place-requires-clause-part
staged_place-requires-clause-part g c =
    let self = c.args.self.now in
    subst (λ part. IfSome part (IsFireable (g.V.View.kept self.view.now))) (sym c.as_ref.ensures.value)
    (bean-fired (g.V.View.list self.view.now)
    (g.V.View.kept self.view.now) c.args.class.bean.now c.requires.declared self.evaluated).construct

pub staged_place-requires-2-clause-part : goal.staged_place-requires-2-clause-part
staged_place-requires-2-clause-part g c =
    let self = c.args.self.now in
    subst (λ part. IfSome part (IsFireable (g.V.View.kept self.view.now))) (sym c.as_ref-2.ensures.value)
    (bean-fired (g.V.View.list self.view.now) (g.V.View.kept self.view.now) c.args.class.bean.now c.requires.declared self.evaluated).post

pub staged_place-requires-3-clause-part : goal.staged_place-requires-3-clause-part
staged_place-requires-3-clause-part g c =
    let self = c.args.self.now in
    subst (λ part. IfSome part (IsFireable (g.V.View.kept self.view.now))) (sym c.as_ref-3.ensures.value)
    (bean-fired (g.V.View.list self.view.now) (g.V.View.kept self.view.now) c.args.class.bean.now c.requires.declared self.evaluated).pre
