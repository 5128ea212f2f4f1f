use Rattle.cdi_uses.proofs.Common.{sym, ◌∙◌}
use Rattle.cdi_uses.proofs.MeaningLemmas.{use_meaning}
use Rattle.cdi_uses.proofs.uses.is_use.Goals as goal

pub returns-clause-meaning : goal.returns-clause-meaning
returns-clause-meaning c =
    let both = use_meaning c.args.text.now in
    (λ is. both.0 (sym c.spells_use.ensures ∙ is), λ spells. c.spells_use.ensures ∙ both.1 spells)
