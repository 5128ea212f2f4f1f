use Rattle.cdi_staging.proofs.Common.{sym, subst}
use Rattle.cdi_staging.proofs.AnswerableLemmas.{bean-asked, bean-fired, AreAsked}
use Rattle.cdi_staging.proofs.ClassLemmas.{has-observer}
use Rattle.cdi_staging.proofs.stage.Stage.staged_observer.Goals as goal

pub targets_of-requires-clause-answerable : goal.targets_of-requires-clause-answerable
targets_of-requires-clause-answerable g c =
    let self = c.args.self.now in
    subst (AreAsked (g.V.View.kept self.view.now)) (sym c.as_slice-params.ensures)
    ((bean-asked (g.V.View.list self.view.now) (g.V.View.kept self.view.now) c.args.class.bean.now c.requires.class.declared
    self.evaluated).observers c.args.observer.now c.requires.observer)

pub staged_place-requires-clause-place : goal.staged_place-requires-clause-place
staged_place-requires-clause-place g c = has-observer c.args.class.bean.now c.args.observer.now c.requires.observer

pub staged_place-requires-clause-part : goal.staged_place-requires-clause-part
staged_place-requires-clause-part g c =
    let self = c.args.self.now in
    (bean-fired (g.V.View.list self.view.now) (g.V.View.kept self.view.now) c.args.class.bean.now c.requires.class.declared
    self.evaluated).observers c.args.observer.now c.requires.observer
