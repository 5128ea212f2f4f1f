use Rattle.cdi_container.proofs.Common.{None, subst, asked_for, ap, ◌∙◌, keys_of_use, cleared, Moment, beginning, run_by, State, RunAnswers}
use Rattle.cdi_container.proofs.Common.{trace_names, Ok, Err}
use Rattle.cdi_container.proofs.{AskedLemmas.some-all, AskedLemmas.use-apart, Ending.standing_at}
use Rattle.cdi_container.proofs.Asking.{leaves_run, refused_by, ran, run_left, run_without_memory}
use Rattle.cdi_container.proofs.Playing.{rests_cleared, rests_ran, rests_unplayed}
use Rattle.cdi_container.specs.Asked.{aim_of, run_at, run_of_use}
use Rattle.cdi_container.proofs.container.Container.use_bean.Goals as goal

pub invariant_of-self : goal.invariant_of-self
invariant_of-self g c =
    rests_cleared c.aim.new.self c.restart.new.self.moment c.use_one.new.run.moment c.in_err-outcome-in-Ok.ensures.out_of_memory

pub invariant_of-self-in-Ok : goal.invariant_of-self-in-Ok
invariant_of-self-in-Ok g c =
    rests_ran c.aim.new.self c.player-player.result.stage.scene c.self.inside.run.moment c.restart.new.self.moment
    c.use_one.new.run.moment c.in-Ok.ensures.wired c.player-player.ensures.scene c.restart.ensures c.self.invariant.rooted
    c.use_one.ensures.rooted c.use_one.ensures.furnished

pub invariant_of-self-in-Err : goal.invariant_of-self-in-Err
invariant_of-self-in-Err g c =
    rests_unplayed c.self.inside.deployment c.aim.new.self c.self.inside.run.moment c.restart.new.self.moment c.self.inside.told
    c.self.invariant c.restart.ensures (λ w. c.aim.ensures.wired_still w) c.aim.ensures.decls c.aim.ensures.book

pub returns-in_err-outcome-in-Ok : goal.returns-in_err-outcome-in-Ok
returns-in_err-outcome-in-Ok g c =
    let d = c.self.inside.deployment in
    let names = trace_names d c.self.inside.told in
    subst (λ (s : State). RunAnswers s (keys_of_use s.decls s.book c.args.bean_type c.args.quals.now)
    (run_of_use s.decls s.book (asked_for c.args.bean_type c.args.quals.now c.args.message)) c.from_residual.result
    (standing_at c.aim.new.self (trace_names c.aim.new.self None) c.use_one.new.run.moment)) c.self.view_is
    (run_without_memory (standing_at d names c.self.inside.run.moment)
    (standing_at c.aim.new.self (trace_names c.aim.new.self None) c.use_one.new.run.moment)
    (keys_of_use d.decls d.book c.args.bean_type c.args.quals.now)
    (run_of_use d.decls d.book (asked_for c.args.bean_type c.args.quals.now c.args.message)) c.from_residual.result
    c.from_residual.ensures.1
    (leaves_run d c.aim.new.self names (trace_names c.aim.new.self None) c.self.inside.run.moment c.use_one.new.run.moment
    (keys_of_use d.decls d.book c.args.bean_type c.args.quals.now)
    (some-all (keys_of_use d.decls d.book c.args.bean_type c.args.quals.now) d c.aim.new.self
    (use-apart d c.args.bean_type c.args.quals.now) c.in-Ok.ensures.asked)
    (c.in_err-outcome-in-Ok.ensures.out_of_memory
    ∙ ap (λ (x : Moment). beginning (cleared x.standing.given)) c.restart.ensures)))

pub returns-in_ok-outcome-in-Ok : goal.returns-in_ok-outcome-in-Ok
returns-in_ok-outcome-in-Ok g c =
    let d = c.self.inside.deployment in
    subst (λ (s : State). RunAnswers s (keys_of_use s.decls s.book c.args.bean_type c.args.quals.now)
    (run_of_use s.decls s.book (asked_for c.args.bean_type c.args.quals.now c.args.message)) (Ok c.in_ok-outcome-in-Ok.outcome)
    (standing_at c.aim.new.self (trace_names c.aim.new.self None) c.use_one.new.run.moment)) c.self.view_is
    (ran d c.aim.new.self c.player-player.result.stage.scene (trace_names d c.self.inside.told) c.self.inside.run.moment
    c.restart.new.self.moment c.use_one.new.run.moment (keys_of_use d.decls d.book c.args.bean_type c.args.quals.now)
    (run_of_use d.decls d.book (asked_for c.args.bean_type c.args.quals.now c.args.message))
    (run_at c.in-Ok.aim) c.in_ok-outcome-in-Ok.outcome
    c.in-Ok.ensures.asked c.restart.ensures c.player-player.ensures.scene
    (ap (run_by run_at) c.in-Ok.ensures.answer) c.in_ok-outcome-in-Ok.ensures.legal)

pub returns-in-Err : goal.returns-in-Err
returns-in-Err g c =
    let d = c.self.inside.deployment in
    subst (λ (s : State). RunAnswers s (keys_of_use s.decls s.book c.args.bean_type c.args.quals.now)
    (run_of_use s.decls s.book (asked_for c.args.bean_type c.args.quals.now c.args.message)) (Err c.leave_unplayed.result)
    c.leave_unplayed.new.self) c.self.view_is
    (run_left d c.aim.new.self (trace_names d c.self.inside.told) (trace_names c.aim.new.self None) c.self.inside.run.moment
    c.restart.new.self.moment (keys_of_use d.decls d.book c.args.bean_type c.args.quals.now)
    (run_of_use d.decls d.book (asked_for c.args.bean_type c.args.quals.now c.args.message)) c.in-Err.error c.leave_unplayed.result
    c.leave_unplayed.new.self c.restart.ensures
    (refused_by run_at (aim_of d.decls d.book (asked_for c.args.bean_type c.args.quals.now c.args.message)) c.in-Err.error
    c.in-Err.ensures.answer) c.in-Err.ensures.asked c.leave_unplayed.ensures.same c.leave_unplayed.ensures.left)
