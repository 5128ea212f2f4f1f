use Rattle.cdi_staging.proofs.Common.{sym, subst}
use Rattle.cdi_staging.proofs.AnswerableLemmas.{bean-asked, bean-fired, AreAsked}
use Rattle.cdi_staging.proofs.stage.Stage.product_form.Goals as goal

pub targets_of-requires-clause-answerable : goal.targets_of-requires-clause-answerable
targets_of-requires-clause-answerable g c =
    let self = c.args.self.now in
    subst (AreAsked (g.V.View.kept self.view.now)) (sym c.as_slice-params.ensures)
    ((bean-asked (g.V.View.list self.view.now) (g.V.View.kept self.view.now) c.args.class.bean.now c.requires.class.declared
    self.evaluated).products c.args.producer.now c.requires.producer)

pub invocable-requires : goal.invocable-requires
invocable-requires g c =
    let self = c.args.self.now in
    (bean-fired (g.V.View.list self.view.now) (g.V.View.kept self.view.now) c.args.class.bean.now c.requires.class.declared
    self.evaluated).products c.args.producer.now c.requires.producer
