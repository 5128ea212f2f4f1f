use Rattle.cdi_staging.proofs.Common.{◌≡◌, Some, sym, subst, kind_of, name_of_decl, find_decl}
use Rattle.cdi_staging.proofs.AnswerableLemmas.{bean-asked, AreAsked}
use Rattle.cdi_staging.proofs.stage.Stage.push_of_decl.Goals as goal

pub targets_of-requires-clause-answerable : goal.targets_of-requires-clause-answerable
targets_of-requires-clause-answerable g c =
    let self = c.args.self.now in
    let ds = g.V.View.list self.view.now in
    let declared = subst (λ d. find_decl (kind_of d) (name_of_decl d) ds ≡ Some d) c.in-Bean.is c.requires in
    subst (AreAsked (g.V.View.kept self.view.now)) (sym c.as_slice-points.ensures)
    (bean-asked ds (g.V.View.kept self.view.now) c.in-Bean.bean declared self.evaluated).own
