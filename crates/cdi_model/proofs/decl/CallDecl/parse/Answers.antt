use Rattle.cdi_model.proofs.Common.{sym, ◌∙◌}
use Rattle.cdi_model.proofs.CallLemmas.{call_meaning}
use Rattle.cdi_model.proofs.decl.CallDecl.parse.Goals as goal

pub returns-clause-meaning : goal.returns-clause-meaning
returns-clause-meaning c = λ call.
    let both = call_meaning c.args.text.now call in
    (λ is. both.0 (sym c.call_of.ensures ∙ is), λ spells. c.call_of.ensures ∙ both.1 spells)
