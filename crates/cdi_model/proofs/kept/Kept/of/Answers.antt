use Rattle.cdi_model.proofs.Common.{ap, ◌∙◌, changed_by, kept}
use Rattle.cdi_model.proofs.StandingLemmas.{all_kept}
use Rattle.cdi_model.proofs.kept.Kept.of.Goals as goal

pub returns : goal.returns
returns c = ap (λ rs. kept c.new.result (changed_by rs c.args.base)) c.new-3.ensures.items
    ∙ all_kept c.new.result c.args.base c.new.ensures.none
