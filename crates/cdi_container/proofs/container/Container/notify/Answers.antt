use Rattle.cdi_container.proofs.Common.{None, subst, sym, ap, ◌∙◌, keys_of_event, cleared, Moment, beginning, run_by, State, RunAnswers}
use Rattle.cdi_container.proofs.Common.{trace_names, Ok, Err}
use Rattle.cdi_legal.specs.LegalRun.{notify_all}
use Rattle.cdi_container.proofs.{AskedLemmas.some-all, AskedLemmas.event-apart, Ending.standing_at}
use Rattle.cdi_container.proofs.Asking.{leaves_run, refused_by, ran, run_left, run_without_memory}
use Rattle.cdi_container.proofs.Playing.{rests_cleared, rests_ran, rests_unplayed}
use Rattle.cdi_container.specs.Asked.{fired_of, run_of_event}
use Rattle.cdi_container.proofs.container.Container.notify.Goals as goal

pub invariant_of-self : goal.invariant_of-self
invariant_of-self g c =
    rests_cleared c.notified.new.self c.restart.new.self.moment c.fire.new.run.moment c.in_err-outcome-in-Ok.ensures.out_of_memory

pub invariant_of-self-in-Ok : goal.invariant_of-self-in-Ok
invariant_of-self-in-Ok g c =
    rests_ran c.notified.new.self c.player-player.result.stage.scene c.self.inside.run.moment c.restart.new.self.moment
    c.fire.new.run.moment c.in-Ok.ensures.wired c.player-player.ensures.scene c.restart.ensures c.self.invariant.rooted
    c.fire.ensures.rooted c.fire.ensures.furnished

pub invariant_of-self-in-Err : goal.invariant_of-self-in-Err
invariant_of-self-in-Err g c =
    rests_unplayed c.self.inside.deployment c.notified.new.self c.self.inside.run.moment c.restart.new.self.moment c.self.inside.told
    c.self.invariant c.restart.ensures (λ w. c.notified.ensures.wired_still w) c.notified.ensures.decls c.notified.ensures.book

pub returns-in_err-outcome-in-Ok : goal.returns-in_err-outcome-in-Ok
returns-in_err-outcome-in-Ok g c =
    let d = c.self.inside.deployment in
    let names = trace_names d c.self.inside.told in
    subst (λ (s : State). RunAnswers s (keys_of_event s.decls s.book c.args.event_type c.args.quals.now)
    (run_of_event s.decls s.book c.args.arg c.args.event_type c.args.quals.now) c.from_residual.result
    (standing_at c.notified.new.self (trace_names c.notified.new.self None) c.fire.new.run.moment)) c.self.view_is
    (run_without_memory (standing_at d names c.self.inside.run.moment)
    (standing_at c.notified.new.self (trace_names c.notified.new.self None) c.fire.new.run.moment)
    (keys_of_event d.decls d.book c.args.event_type c.args.quals.now)
    (run_of_event d.decls d.book c.args.arg c.args.event_type c.args.quals.now) c.from_residual.result c.from_residual.ensures.1
    (leaves_run d c.notified.new.self names (trace_names c.notified.new.self None) c.self.inside.run.moment c.fire.new.run.moment
    (keys_of_event d.decls d.book c.args.event_type c.args.quals.now)
    (some-all (keys_of_event d.decls d.book c.args.event_type c.args.quals.now) d c.notified.new.self
    (event-apart d c.args.event_type c.args.quals.now) c.in-Ok.ensures.asked)
    (c.in_err-outcome-in-Ok.ensures.out_of_memory
    ∙ ap (λ (x : Moment). beginning (cleared x.standing.given)) c.restart.ensures)))

pub returns-in_ok-outcome-in-Ok : goal.returns-in_ok-outcome-in-Ok
returns-in_ok-outcome-in-Ok g c =
    let d = c.self.inside.deployment in
    subst (λ (s : State). RunAnswers s (keys_of_event s.decls s.book c.args.event_type c.args.quals.now)
    (run_of_event s.decls s.book c.args.arg c.args.event_type c.args.quals.now) (Ok c.in_ok-outcome-in-Ok.outcome)
    (standing_at c.notified.new.self (trace_names c.notified.new.self None) c.fire.new.run.moment)) c.self.view_is
    (ran d c.notified.new.self c.player-player.result.stage.scene (trace_names d c.self.inside.told) c.self.inside.run.moment
    c.restart.new.self.moment c.fire.new.run.moment (keys_of_event d.decls d.book c.args.event_type c.args.quals.now)
    (run_of_event d.decls d.book c.args.arg c.args.event_type c.args.quals.now)
    (notify_all c.as_slice.result.now c.args.arg) c.in_ok-outcome-in-Ok.outcome
    c.in-Ok.ensures.asked c.restart.ensures c.player-player.ensures.scene
    (ap (run_by (λ observers. notify_all observers c.args.arg)) c.in-Ok.ensures.answer
    ∙ ap (λ observers. Ok (notify_all observers c.args.arg)) (sym c.as_slice.ensures)) c.in_ok-outcome-in-Ok.ensures.legal)

pub returns-in-Err : goal.returns-in-Err
returns-in-Err g c =
    let d = c.self.inside.deployment in
    subst (λ (s : State). RunAnswers s (keys_of_event s.decls s.book c.args.event_type c.args.quals.now)
    (run_of_event s.decls s.book c.args.arg c.args.event_type c.args.quals.now) (Err c.leave_unplayed.result)
    c.leave_unplayed.new.self) c.self.view_is
    (run_left d c.notified.new.self (trace_names d c.self.inside.told) (trace_names c.notified.new.self None) c.self.inside.run.moment
    c.restart.new.self.moment (keys_of_event d.decls d.book c.args.event_type c.args.quals.now)
    (run_of_event d.decls d.book c.args.arg c.args.event_type c.args.quals.now) c.in-Err.error c.leave_unplayed.result
    c.leave_unplayed.new.self c.restart.ensures
    (refused_by (λ observers. notify_all observers c.args.arg)
    (fired_of d.decls d.book c.args.event_type c.args.quals.now) c.in-Err.error c.in-Err.ensures.answer) c.in-Err.ensures.asked
    c.leave_unplayed.ensures.same c.leave_unplayed.ensures.left)
