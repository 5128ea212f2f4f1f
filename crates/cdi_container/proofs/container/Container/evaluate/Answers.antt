use Rattle.cdi_container.proofs.Common.{◌≡◌, refl, subst, sym, ap, ◌∙◌, wanted, known_with, State, AsksSome, asked, untold, trace_names}
use Rattle.cdi_container.proofs.Common.{OnErr-from}
use Rattle.cdi_container.proofs.Asking.{asked_left, asked_some, evaluate_unserved}
use Rattle.cdi_container.proofs.{Ending.standing_at, KnownLemmas.known_with-wanted, Playing.rests_asked}
use Rattle.cdi_container.proofs.container.Container.evaluate.Goals as goal

pub invariant_of-self : goal.invariant_of-self
invariant_of-self g c =
    rests_asked c.self.inside.deployment c.evaluate_all.new.self c.in_err-evaluate_all.ensures.err.some c.self.inside.run.moment
    c.self.inside.told c.in_err-evaluate_all.ensures.err.are c.self.invariant
    (λ wired. c.self.invariant.told_now (sym c.evaluate_all.ensures.wired ∙ wired))

pub returns-in_err-evaluate_all-clause-err : goal.returns-in_err-evaluate_all-clause-err
returns-in_err-evaluate_all-clause-err g c =
    OnErr-from c.from_residual.result
    (subst (λ (s : State). AsksSome c.args.self.now (wanted s.decls)
    (standing_at c.evaluate_all.new.self (trace_names c.evaluate_all.new.self c.self.inside.told) c.self.inside.run.moment)) c.self.view_is
    (asked_some c.self.inside.deployment c.evaluate_all.new.self c.self.inside.told c.self.inside.run.moment c.args.self.now
    (wanted c.self.inside.deployment.decls) c.self.view_is c.in_err-evaluate_all.ensures.err))

pub returns-in_err-evaluate_all-clause-step : goal.returns-in_err-evaluate_all-clause-step
returns-in_err-evaluate_all-clause-step g c =
    evaluate_unserved c.args.self.now
    (standing_at c.evaluate_all.new.self (trace_names c.evaluate_all.new.self c.self.inside.told) c.self.inside.run.moment)
    c.from_residual.result c.from_residual.ensures.0
    (subst (λ (s : State). AsksSome c.args.self.now (wanted s.decls)
    (standing_at c.evaluate_all.new.self (trace_names c.evaluate_all.new.self c.self.inside.told) c.self.inside.run.moment)) c.self.view_is
    (asked_some c.self.inside.deployment c.evaluate_all.new.self c.self.inside.told c.self.inside.run.moment c.args.self.now
    (wanted c.self.inside.deployment.decls) c.self.view_is c.in_err-evaluate_all.ensures.err))

pub invariant_of-self-2 : goal.invariant_of-self-2
invariant_of-self-2 g c =
    rests_asked c.self.inside.deployment c.evaluate_all.new.self (wanted c.self.inside.deployment.decls) c.self.inside.run.moment
    c.self.inside.told c.in_ok-evaluate_all.ensures.asked c.self.invariant
    (λ wired. c.self.invariant.told_now (sym c.evaluate_all.ensures.wired ∙ wired))

pub returns-clause-ok : goal.returns-clause-ok
returns-clause-ok g c =
    asked_left c.self.inside.deployment c.evaluate_all.new.self c.self.inside.told (trace_names c.evaluate_all.new.self c.self.inside.told)
    c.self.inside.run.moment c.args.self.now c.restart.new.self (wanted c.self.inside.deployment.decls) c.self.view_is
    c.in_ok-evaluate_all.ensures.asked c.restart.ensures
    ∙ ap (λ (s : State). untold (asked c.args.self.now (wanted s.decls))) c.self.view_is

pub returns-clause-known : goal.returns-clause-known
returns-clause-known g c =
    ap (λ (s : State). s.known) (returns-clause-ok g c)
    ∙ subst (λ (s : State). known_with s.decls s.known (wanted s.decls) ≡ wanted s.decls) c.self.view_is
    (known_with-wanted c.self.inside.deployment.decls c.self.inside.deployment.known c.evaluate_all.ensures.order)
    ∙ ap (λ (s : State). wanted s.decls) (sym (returns-clause-ok g c))

pub returns-clause-work : goal.returns-clause-work
returns-clause-work g c = ap (λ (s : State). s.work) (returns-clause-ok g c)

pub returns-clause-step : goal.returns-clause-step
returns-clause-step g c = (refl, (refl, returns-clause-ok g c))
