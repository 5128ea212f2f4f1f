use Rattle.std.proofs.Common.{ap, ◌∙◌}
use Rattle.cdi_contexts.specs.{Standing.Standing, Standing.states_without, Storage.Storage}
use Rattle.cdi_contexts.proofs.contexts.Contexts.abandon.Goals as goal

pub returns-clause-standing : goal.returns-clause-standing
returns-clause-standing c =
    let taken = ap (λ (s : Storage). s.standing) c.self.view_is ∙ c.take_out.ensures.live in
    rw c.forget.ensures.states (ap (λ (s : Standing). record s { states = states_without c.args.number s.states }) taken)
