use Rattle.std.proofs.Common.{ap}
use Rattle.cdi_legal.specs.Moment.{Moment}
use Rattle.cdi_legal.proofs.{Following.runs_follow, Housing.runs_rooted, Keeping.runs_keep, Sharing.runs_single}
use Rattle.cdi_run.proofs.{Ran.run_budget, Ran.run_cause, Ran.run_faultless, Ran.run_ordered, Staying.runs_stay, Staying.settled_same}
use Rattle.cdi_run.specs.Known.{IsSettled}
use Rattle.cdi_run.proofs.player.Player.use_one.Goals as goal

pub returns-in-Ok-clause-follows : goal.returns-in-Ok-clause-follows
returns-in-Ok-clause-follows g c = runs_follow (rw c.restart.ensures at c.in-Ok.ensures)

pub returns-in-Ok-clause-single : goal.returns-in-Ok-clause-single
returns-in-Ok-clause-single g c = runs_single (rw c.restart.ensures at c.in-Ok.ensures)

pub returns-in-Ok-clause-kept : goal.returns-in-Ok-clause-kept
returns-in-Ok-clause-kept g c = runs_keep (rw c.restart.ensures at c.in-Ok.ensures) c.given-given.ensures.rising

pub returns-in-Ok-clause-furnished : goal.returns-in-Ok-clause-furnished
returns-in-Ok-clause-furnished g c =
    let settled : IsSettled c.args.self.now.stage c.restart.new.self.moment =
    settled_same c.args.self.now.stage c.args.run.now.moment c.restart.new.self.moment
    (ap (λ (m : Moment). m.standing) c.restart.ensures)
    (record { sound = c.scene.ensures.sound; rises = c.given-given.ensures.rising; furnished = c.requires.furnished }) in
    runs_stay c.args.self.now.stage c.in-Ok.ensures settled

pub returns-in-Ok-clause-rooted : goal.returns-in-Ok-clause-rooted
returns-in-Ok-clause-rooted g c = λ h. runs_rooted (rw c.restart.ensures at c.in-Ok.ensures) c.given-given.ensures.rising h

pub returns-in-Ok-clause-ordered : goal.returns-in-Ok-clause-ordered
returns-in-Ok-clause-ordered g c = run_ordered (rw c.restart.ensures at c.in-Ok.ensures)

pub returns-in-Ok-clause-faultless : goal.returns-in-Ok-clause-faultless
returns-in-Ok-clause-faultless g c = run_faultless (rw c.restart.ensures at c.in-Ok.ensures) _ c.scene.ensures.sound

pub returns-in-Ok-clause-budget : goal.returns-in-Ok-clause-budget
returns-in-Ok-clause-budget g c = run_budget (rw c.restart.ensures at c.in-Ok.ensures)

pub returns-in-Ok-clause-cause : goal.returns-in-Ok-clause-cause
returns-in-Ok-clause-cause g c = run_cause (rw c.restart.ensures at c.in-Ok.ensures)
