use Rattle.cdi_intercept.proofs.UseLemmas.{bindings_are_those}
use Rattle.cdi_intercept.proofs.bindings.bindings_at.Goals as goal

pub returns-in_default-clause-order : goal.returns-in_default-clause-order
returns-in_default-clause-order c = bindings_are_those

pub returns-then-not-has_place-clause-order : goal.returns-then-not-has_place-clause-order
returns-then-not-has_place-clause-order c = bindings_are_those

pub returns-in_err-bindings_of-clause-order : goal.returns-in_err-bindings_of-clause-order
returns-in_err-bindings_of-clause-order c = bindings_are_those

pub returns-clause-order : goal.returns-clause-order
returns-clause-order c = bindings_are_those
