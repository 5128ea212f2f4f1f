use Rattle.cdi_observe.proofs.Common.{ap, ◌∙◌, records_in}
use Rattle.cdi_effective.proofs.TogetherLemmas.{records_stand_together}
use Rattle.cdi_effective.specs.Records.{records_among}
use Rattle.cdi_observe.proofs.view.PlainViewView.records.Goals as goal

pub returns : goal.returns
returns c =
    let class = c.args.class.now in
    c.records.ensures
    ∙ ap (λ list. records_among list class) c.self.invariant
    ∙ records_stand_together c.self.inside.decls.now class
    ∙ ap (λ ds. records_in ds class) c.self.view_is
