use Rattle.std.proofs.Common.{rules, ap, ◌∙◌}
use Rattle.indexmap.proofs.CallerLemmas.{filter-RetainsPairs}
use Rattle.cdi_contexts.proofs.StateLemmas.{states-without}
use Rattle.cdi_contexts.specs.States.{states_of}
use Rattle.cdi_contexts.proofs.states.States.forget.Goals as goal

pub returns-clause-states : goal.returns-clause-states
returns-clause-states c =
    ap states_of (filter-RetainsPairs _ _ _ (λ k v b w g call. search rules) _ _ c.retain.ensures.filtered)
    ∙ states-without c.args.number _
