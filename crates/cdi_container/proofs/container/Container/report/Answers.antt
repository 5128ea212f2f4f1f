use Rattle.cdi_container.proofs.Common.{◌≡◌, refl, subst, sym, ap, ◌∙◌, wanted, faults, known_with, State, AsksSome, asked, untold}
use Rattle.cdi_container.proofs.Common.{trace_names, Reported, OnErr-from}
use Rattle.cdi_container.proofs.Asking.{asked_left, asked_some, report_unserved}
use Rattle.cdi_container.proofs.{Ending.standing_at, KnownLemmas.known_with-wanted, Playing.rests_asked}
use Rattle.cdi_container.proofs.container.Container.report.Goals as goal

pub invariant_of-self : goal.invariant_of-self
invariant_of-self g c =
    rests_asked c.self.inside.deployment c.report.new.self c.in_err-faults.ensures.err.some c.self.inside.run.moment c.self.inside.told
    c.in_err-faults.ensures.err.are c.self.invariant (λ wired. c.self.invariant.told_now (sym c.report.ensures.wired ∙ wired))

pub returns-in_err-faults-clause-err : goal.returns-in_err-faults-clause-err
returns-in_err-faults-clause-err g c =
    OnErr-from c.from_residual.result
    (subst (λ (s : State). AsksSome c.args.self.now (wanted s.decls)
    (standing_at c.report.new.self (trace_names c.report.new.self c.self.inside.told) c.self.inside.run.moment)) c.self.view_is
    (asked_some c.self.inside.deployment c.report.new.self c.self.inside.told c.self.inside.run.moment c.args.self.now
    (wanted c.self.inside.deployment.decls) c.self.view_is c.in_err-faults.ensures.err))

pub returns-in_err-faults-clause-step : goal.returns-in_err-faults-clause-step
returns-in_err-faults-clause-step g c =
    report_unserved c.args.self.now (standing_at c.report.new.self
    (trace_names c.report.new.self c.self.inside.told) c.self.inside.run.moment)
    c.from_residual.result c.from_residual.ensures.0
    (subst (λ (s : State). AsksSome c.args.self.now (wanted s.decls)
    (standing_at c.report.new.self (trace_names c.report.new.self c.self.inside.told) c.self.inside.run.moment)) c.self.view_is
    (asked_some c.self.inside.deployment c.report.new.self c.self.inside.told c.self.inside.run.moment c.args.self.now
    (wanted c.self.inside.deployment.decls) c.self.view_is c.in_err-faults.ensures.err))

pub invariant_of-self-2 : goal.invariant_of-self-2
invariant_of-self-2 g c =
    rests_asked c.self.inside.deployment c.report.new.self
    (wanted c.self.inside.deployment.decls) c.self.inside.run.moment c.self.inside.told
    c.in_ok-faults.ensures.asked c.self.invariant (λ wired. c.self.invariant.told_now (sym c.report.ensures.wired ∙ wired))

pub returns-clause-ok : goal.returns-clause-ok
returns-clause-ok g c =
    asked_left c.self.inside.deployment c.report.new.self c.self.inside.told (trace_names c.report.new.self c.self.inside.told)
    c.self.inside.run.moment c.args.self.now c.restart.new.self (wanted c.self.inside.deployment.decls) c.self.view_is
    c.in_ok-faults.ensures.asked c.restart.ensures
    ∙ ap (λ (s : State). untold (asked c.args.self.now (wanted s.decls))) c.self.view_is

pub returns-clause-known : goal.returns-clause-known
returns-clause-known g c =
    ap (λ (s : State). s.known) (returns-clause-ok g c)
    ∙ subst (λ (s : State). known_with s.decls s.known (wanted s.decls) ≡ wanted s.decls) c.self.view_is
    (known_with-wanted c.self.inside.deployment.decls c.self.inside.deployment.known c.report.ensures.order)

pub returns-clause-work : goal.returns-clause-work
returns-clause-work g c = ap (λ (s : State). s.work) (returns-clause-ok g c)

pub returns-clause-step : goal.returns-clause-step
returns-clause-step g c = (
  refl,
  (
    ap Reported (c.in_ok-faults.ensures.faults ∙ ap (λ (s : State). faults s.decls s.book) c.self.view_is),
    returns-clause-ok g c,
  ),
)
