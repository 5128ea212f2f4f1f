use Rattle.cdi_contexts.proofs.StateLemmas.{held-nothing, held-there}
use Rattle.cdi_contexts.proofs.states.States.held_for.Goals as goal

pub returns-in-Some : goal.returns-in-Some
returns-in-Some c = held-there (record { number = c.args.number; interceptor = c.args.interceptor }) _ _ c.in-Some.ensures.value

pub returns-in-None : goal.returns-in-None
returns-in-None c = held-nothing (record { number = c.args.number; interceptor = c.args.interceptor }) _ c.in-None.ensures.value
