use Rattle.std.proofs.Common.{slice_get, sym, ap, ◌∙◌}
use Rattle.cdi_effective.specs.Specialized.{specialized}
use Rattle.cdi_subjects.proofs.SpecializedLemmas.{first_specialized}
use Rattle.cdi_subjects.proofs.specializing.specialized_bean.Goals as goal

pub returns-in-Some : goal.returns-in-Some
returns-in-Some g c =
    let bean = c.args.bean.now in
    c.first.ensures.value
    ∙ ap (λ rs. slice_get rs 0) c.records.ensures
    ∙ first_specialized (g.V.View.list c.args.view.now) bean c.in-Some.other.now
    (ap (λ ds. specialized ds bean) (sym c.decls.ensures.value) ∙ sym c.in-Some.ensures)
