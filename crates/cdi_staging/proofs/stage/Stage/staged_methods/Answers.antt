use Rattle.cdi_staging.proofs.Common.{Contains, sym, subst}
use Rattle.cdi_staging.proofs.{AnswerableLemmas.bean-fired, ClassLemmas.has-method}
use Rattle.cdi_staging.proofs.stage.Stage.staged_methods.Goals as goal

pub staged_place-requires-clause-place : goal.staged_place-requires-clause-place
staged_place-requires-clause-place g c =
    let method = c.method-item.result in
    has-method c.args.class.bean.now method (subst (λ list. Contains list method) c.as_slice-method-items.ensures
    (c.loop-method.method-index, c.loop-method-test.true, sym c.method-item.is))

pub staged_place-requires-clause-part : goal.staged_place-requires-clause-part
staged_place-requires-clause-part g c =
    let self = c.args.self.now in
    let bean = c.args.class.bean.now in
    let method = c.method-item.result in
    (bean-fired (g.V.View.list self.view.now) (g.V.View.kept self.view.now) bean c.requires.declared self.evaluated).methods method
    (subst (λ list. Contains list method) c.as_slice-method-items.ensures
    (c.loop-method.method-index, c.loop-method-test.true, sym c.method-item.is))
