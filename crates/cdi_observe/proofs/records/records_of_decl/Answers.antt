use Rattle.cdi_observe.proofs.Common.{◌≡◌, Some, sym, ap, ◌∙◌, find_decl, subst, kind_of, name_of_decl, as_bean, entries, records_in}
use Rattle.cdi_effective.specs.Records.{records_declared}
use Rattle.cdi_observe.proofs.records.records_of_decl.Goals as goal

pub returns-in-Bean : goal.returns-in-Bean
unfolding records_in
returns-in-Bean g c =
    let ds = g.V.View.list c.args.view.now in
    c.records.ensures
    ∙ ap (records_declared ds) (ap as_bean (subst (λ d. find_decl (kind_of d) (name_of_decl d) ds ≡ Some d) c.in-Bean.is c.requires))
    ∙ ap (entries ds) (sym c.in-Bean.is)
