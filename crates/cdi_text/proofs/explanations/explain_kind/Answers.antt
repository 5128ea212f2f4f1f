use Rattle.cdi_text.proofs.Common.{◌∷◌, ap, ◌∙◌, Key}
use Rattle.cdi_text.proofs.explanations.explain_kind.Goals as goal

pub returns-clause-path : goal.returns-clause-path
returns-clause-path c =
    let by = c.in_ok-to_key.ensures in (by.0, by.2 ∙ ap (λ way. Key by.0 ∷ way) c.new.ensures.items, by.1)
