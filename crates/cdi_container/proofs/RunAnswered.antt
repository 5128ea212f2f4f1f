-- What a look-up, a call or an event answers, one fact each.
use Rattle.cdi_container.proofs.Common.{List, Error, Key, IfOk, Outcome, Refusal, State, RunAnswers, RunsFrom, asked, IsRefusedBy, Given}
use Rattle.cdi_container.proofs.Common.{IfErr, Result, Ok, Err}
use Rattle.cdi_model.specs.declared.refusal.Error.TheVariants as errors
use Rattle.cdi_legal.specs.LegalRun.{Command as Run}
use Rattle.cdi_container.specs.History.{Unplayed}

pub answered_ok : (old new : State) (keys : List Key) (begun : Result Run Refusal) (r : Result Outcome Error)
    → RunAnswers old keys begun r new → IfOk r (λ outcome. RunsFrom (asked old keys) begun (Given outcome) new)
answered_ok old new keys begun (Ok outcome) h = h
answered_ok old new keys begun (Err error) h = tt

pub answered_refused : (old new : State) (keys : List Key) (begun : Result Run Refusal) (r : Result Outcome Error)
    → RunAnswers old keys begun r new → IfErr r (IsRefusedBy begun)
answered_refused old new keys begun (Ok outcome) h = tt
answered_refused old new keys begun (Err errors.OutOfMemory) h = tt
answered_refused old new keys begun (Err (errors.Refused refusal)) h = h.0

pub answered_err : (old new : State) (keys : List Key) (begun : Result Run Refusal) (r : Result Outcome Error)
    → RunAnswers old keys begun r new → IfErr r (λ error. Unplayed old keys error new)
answered_err old new keys begun (Ok outcome) h = tt
answered_err old new keys begun (Err errors.OutOfMemory) h = h
answered_err old new keys begun (Err (errors.Refused refusal)) h = h.1

pub ruleset answered = (answered_ok, answered_refused, answered_err)
