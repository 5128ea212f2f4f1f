use Rattle.cdi_contexts.proofs.StateLemmas.{states-stored}
use Rattle.cdi_contexts.proofs.states.States.store.Goals as goal

pub returns-clause-ok : goal.returns-clause-ok
returns-clause-ok c =
    states-stored (record { number = c.args.number; interceptor = c.args.interceptor }) c.args.value _ _
    c.in_ok-insert.ensures.entries c.insert.ensures.unique
