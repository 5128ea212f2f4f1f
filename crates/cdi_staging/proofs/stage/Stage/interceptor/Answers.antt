use Rattle.cdi_staging.proofs.Common.{sym, subst, IfSome, IsFireable}
use Rattle.cdi_staging.proofs.AnswerableLemmas.{interceptor-fired}
use Rattle.cdi_staging.proofs.stage.Stage.interceptor.Goals as goal

pub optional_part-requires : goal.optional_part-requires
optional_part-requires g c =
    let self = c.args.self.now in
    subst (λ part. IfSome part (IsFireable (g.V.View.kept self.view.now))) (sym c.as_ref.ensures.value)
    (interceptor-fired (g.V.View.list self.view.now) (g.V.View.kept self.view.now) c.args.around.now.decl.now self.distinct c.requires
    self.evaluated).around_construct

pub optional_part-requires-2 : goal.optional_part-requires-2
optional_part-requires-2 g c =
    let self = c.args.self.now in
    subst (λ part. IfSome part (IsFireable (g.V.View.kept self.view.now))) (sym c.as_ref-2.ensures.value)
    (interceptor-fired (g.V.View.list self.view.now) (g.V.View.kept self.view.now) c.args.around.now.decl.now self.distinct c.requires
    self.evaluated).around_invoke

pub optional_part-requires-3 : goal.optional_part-requires-3
optional_part-requires-3 g c =
    let self = c.args.self.now in
    subst (λ part. IfSome part (IsFireable (g.V.View.kept self.view.now))) (sym c.as_ref-3.ensures.value)
    (interceptor-fired (g.V.View.list self.view.now) (g.V.View.kept self.view.now) c.args.around.now.decl.now self.distinct c.requires
    self.evaluated).post

pub optional_part-requires-4 : goal.optional_part-requires-4
optional_part-requires-4 g c =
    let self = c.args.self.now in
    subst (λ part. IfSome part (IsFireable (g.V.View.kept self.view.now))) (sym c.as_ref-4.ensures.value)
    (interceptor-fired (g.V.View.list self.view.now) (g.V.View.kept self.view.now) c.args.around.now.decl.now self.distinct c.requires
    self.evaluated).pre
