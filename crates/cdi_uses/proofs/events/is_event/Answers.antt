use Rattle.cdi_uses.proofs.Common.{sym, ◌∙◌}
use Rattle.cdi_uses.proofs.EventLemmas.{event_meaning}
use Rattle.cdi_uses.proofs.events.is_event.Goals as goal

pub returns-clause-meaning : goal.returns-clause-meaning
returns-clause-meaning c =
    let both = event_meaning c.args.text.now in
    (λ is. both.0 (sym c.spells_event.ensures ∙ is), λ spells. c.spells_event.ensures ∙ both.1 spells)
