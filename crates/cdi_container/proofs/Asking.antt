-- What questions, reports and runs leave of a container.
use Rattle.cdi_container.proofs.Common.{◌≡◌, ℕ, List, Option, None, refl, subst, sym, Result, Ok, Err, Qual, Choice, ObserverId, scene_of}
use Rattle.cdi_container.proofs.Common.{[], ◌∷◌, ap, ◌∙◌, IsErrAnd, false≢true, Error, Key, Deployed, Evaluates, IsAsked, IsAskedSome}
use Rattle.cdi_container.proofs.Common.{AllocError, Answers, Outcome, Refusal, cleared, LegalRun, Moment, beginning, Scene, ChainKey}
use Rattle.cdi_container.proofs.Common.{chain_of, Names, Report, run_by, State, AsksSome, RunAnswers, RunsFrom, asked, emptied, evaluates}
use Rattle.cdi_container.proofs.Common.{left_by, untold, IsRefusedBy, trace_names, Given, arith}
use Rattle.std.specs.{Result.IsErr, declared.alloc.Global.Global, declared.vec.Vec.Vec}
use Rattle.cdi_model.specs.declared.place.BeanPlace.{BeanPlace}
use Rattle.cdi_model.specs.declared.refusal.Error.TheVariants as errors
use Rattle.cdi_legal.specs.LegalRun.{Command as Run}
use Rattle.cdi_faults.specs.declared.fault.Fault.{Fault}
use Rattle.cdi_container.proofs.{AskedLemmas.apart-none, Ending.standing_at}
use Rattle.cdi_container.specs.Seen.{ChainStep, ChooseStep, ObserversStep, EvaluateStep, ReportStep, unplayed}
use Rattle.cdi_container.specs.{History.LeavesRun}

-- ---- questions and reports

-- keys were evaluated, and then the trace was cleared
pub asked_left : (d e : Deployed) (before : Option Names) (names : Names) (m : Moment) (old new : State) (keys : List Key)
    → standing_at d (trace_names d before) m ≡ old → IsAsked keys d e → new ≡ untold (standing_at e names m)
    → new ≡ untold (asked old keys)
asked_left d e before names m old new keys is asks left =
    left ∙ ap (λ (x : Deployed). untold (standing_at x names m)) asks.rest ∙ ap (λ (s : State). untold (asked s keys)) is

-- some were, and then memory ran out
pub asked_some : (d e : Deployed) (before : Option Names) (m : Moment) (old : State) (keys : List Key)
    → standing_at d (trace_names d before) m ≡ old → IsAskedSome keys d e → AsksSome old keys (standing_at e (trace_names e before) m)
asked_some d e before m old keys is asks = grind (arith, asks.some, asks.among, asks.apart, asks.are.rest)

-- nothing is changed
pub same_state : (d e : Deployed) (before : Option Names) (m : Moment) (old : State) → standing_at d (trace_names d before) m ≡ old
    → e ≡ d → standing_at e (trace_names e before) m ≡ old
same_state d e before m old is same = ap (λ (x : Deployed). standing_at x (trace_names x before) m) same ∙ is

asks_none : (old : State) (keys : List Key) → AsksSome old keys old
asks_none old keys = record { some = []; among = refl; apart = apart-none; are = refl }

pub choose_unserved : (old new : State) (t : List ℕ) (quals : List Qual) (r : Result Choice AllocError) → IsErr r → new ≡ old
    → ChooseStep old t quals r new
choose_unserved old new t quals (Ok choice) err same = absurd (false≢true err)
choose_unserved old new t quals (Err error) err same = record { left = old; asks = asks_none old _; rest = same }

pub observers_unserved : (old new : State) (t : List ℕ) (quals : List Qual) (r : Result (List ObserverId) AllocError) → IsErr r → new ≡ old
    → ObserversStep old t quals r new
observers_unserved old new t quals (Ok ids) err same = absurd (false≢true err)
observers_unserved old new t quals (Err error) err same = record { left = old; asks = asks_none old _; rest = same }

pub report_unserved : (old new : State) (r : Result (Vec Fault Global) AllocError) → IsErr r → AsksSome old (evaluates old Report) new
    → ReportStep old r new
report_unserved old new (Ok list) err asks = absurd (false≢true err)
report_unserved old new (Err error) err asks = record { left = new; asks = asks; rest = refl }

-- the same of a report whose list is not handed out
pub evaluate_unserved : {X : Type 0} (old new : State) (r : Result X AllocError) → IsErr r → AsksSome old (evaluates old Report) new
    → EvaluateStep old r new
evaluate_unserved old new (Ok x) err asks = absurd (false≢true err)
evaluate_unserved old new (Err error) err asks = record { left = new; asks = asks; rest = refl }

-- ---- chains

-- a call failed so
abbrev pub failure : (X : Type 0) → Error → Result X Error
failure X error = Err error

pub chain_told : (old new : State) (bean : List ℕ) (place : BeanPlace) (names : List (List ℕ)) → chain_of old.decls bean place ≡ Ok names
    → new ≡ untold (asked old (ChainKey bean place ∷ [])) → ChainStep old bean place (Ok names) new
chain_told old new bean place names around left = grind arith

pub chain_left : (old new : State) (bean : List ℕ) (place : BeanPlace) (error : Error)
    → Answers (failure (List (List ℕ)) error) (chain_of old.decls bean place) → new ≡ left_by error old
    → ChainStep old bean place (Err error) new
chain_left old new bean place errors.OutOfMemory said left = record { left = old; asks = asks_none old _; rest = left }
chain_left old new bean place (errors.Refused refusal) said left = grind arith

-- ---- runs

-- a run that was played
pub ran : (d e : Deployed) (s : Scene) (names : Names) (m begun n : Moment) (keys : List Key) (begins : Result Run Refusal) (run : Run)
    (outcome : Outcome) → IsAsked keys d e → begun ≡ beginning m.standing → s ≡ scene_of e.decls e.book → begins ≡ Ok run
    → LegalRun s run begun.standing n.trace outcome n.standing
    → RunsFrom (asked (standing_at d names m) keys) begins (Given outcome) (standing_at e (trace_names e None) n)
ran d e s names m begun n keys begins run outcome asks began is given legal = grind (arith, m.standing, n.trace, n.standing, asks.rest)

-- a run that did not begin, or found no memory
pub leaves_run : (d e : Deployed) (names told : Names) (m n : Moment) (keys : List Key) → IsAskedSome keys d e
    → n ≡ beginning (cleared m.standing.given) → LeavesRun (standing_at d names m) keys (standing_at e told n)
leaves_run d e names told m n keys asks is = record {
  left = asked (standing_at d names m) asks.some;
  asks = record { some = asks.some; among = asks.among; apart = asks.apart; are = refl };
  rest = ap (λ (x : Moment). standing_at e told x) is
      ∙ ap (λ (x : Deployed). standing_at x told (beginning (cleared m.standing.given))) asks.are.rest;
}

pub run_without_memory : (old new : State) (keys : List Key) (begins : Result Run Refusal) (r : Result Outcome Error)
    → IsErrAnd r (λ error. error ≡ errors.OutOfMemory) → LeavesRun old keys new → RunAnswers old keys begins r new
run_without_memory old new keys begins (Ok outcome) out left = absurd out
run_without_memory old new keys begins (Err errors.OutOfMemory) out left = left
run_without_memory old new keys begins (Err (errors.Refused refusal)) out left =
    absurd (let no : errors.Refused refusal ≡ errors.OutOfMemory = out in cc)

-- a run that did not begin was refused for this
pub refused_by : {X : Type 0} (run : X → Run) (said : Result X Refusal) (error : Error) → Answers (failure X error) said
    → IsRefusedBy (run_by run said) error
refused_by run said errors.OutOfMemory answer = tt
refused_by run said (errors.Refused refusal) answer = ap (run_by run) answer

-- what is left where a run does not begin
pub run_left : (d e : Deployed) (names told : Names) (m begun : Moment) (keys : List Key) (begins : Result Run Refusal)
    (error given : Error)
    (new : State) → begun ≡ beginning m.standing → IsRefusedBy begins error → Evaluates keys (failure Outcome error) d e → given ≡ error
    → new ≡ unplayed error (standing_at e told begun) → RunAnswers (standing_at d names m) keys begins (Err given) new
run_left d e names told m begun keys begins error given new began refused asks same left =
    subst (λ er. RunAnswers (standing_at d names m) keys begins (Err er) new) (sym same) (by error refused asks left)
  where
    by : (er : Error) → IsRefusedBy begins er → Evaluates keys (failure Outcome er) d e → new ≡ unplayed er (standing_at e told begun)
        → RunAnswers (standing_at d names m) keys begins (Err er) new
    by errors.OutOfMemory r some is = subst (λ (s : State). LeavesRun (standing_at d names m) keys s)
        (sym (is ∙ ap (λ (x : Moment). emptied (standing_at e told x)) began))
        (leaves_run d e names told m (beginning (cleared m.standing.given)) keys some refl)
    by (errors.Refused refusal) r asked_all is = (
      r,
      is ∙ ap (λ (x : Moment). untold (standing_at e told x)) began
          ∙ ap (λ (x : Deployed). untold (standing_at x told (beginning m.standing))) asked_all.rest,
    )
