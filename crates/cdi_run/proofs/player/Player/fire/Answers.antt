use Rattle.std.proofs.Common.{refl, ap}
use Rattle.cdi_legal.specs.{LegalRun.Runs, Moment.Moment}
use Rattle.cdi_legal.proofs.{Following.legal_follows, Housing.runs_rooted, Keeping.runs_keep, Sharing.legal_single}
use Rattle.cdi_run.proofs.{Ran.run_budget, Ran.run_cause, Ran.run_faultless, Ran.run_ordered, Staying.settled_after, Staying.settled_same}
use Rattle.cdi_run.specs.Known.{IsSettled}
use Rattle.cdi_run.proofs.player.Player.fire.Goals as goal

pub returns-in-Ok-clause-legal : goal.returns-in-Ok-clause-legal
returns-in-Ok-clause-legal g c = record {
  end = c.notify_each.new.run.moment;
  runs = Runs.fired _ _ _ _ _ (rw c.restart.ensures at c.in-Ok.ensures);
  pushed = refl;
  leaves = refl;
}

pub returns-in-Ok-clause-follows : goal.returns-in-Ok-clause-follows
returns-in-Ok-clause-follows g c = legal_follows (rw c.restart.ensures at c.in-Ok.ensures)

pub returns-in-Ok-clause-single : goal.returns-in-Ok-clause-single
returns-in-Ok-clause-single g c = legal_single (rw c.restart.ensures at c.in-Ok.ensures) tt

pub returns-in-Ok-clause-kept : goal.returns-in-Ok-clause-kept
returns-in-Ok-clause-kept g c =
    runs_keep (Runs.fired _ _ _ _ _ (rw c.restart.ensures at c.in-Ok.ensures)) c.given-given.ensures.rising

pub returns-in-Ok-clause-furnished : goal.returns-in-Ok-clause-furnished
returns-in-Ok-clause-furnished g c =
    let settled : IsSettled c.args.self.now.stage c.restart.new.self.moment =
    settled_same c.args.self.now.stage c.args.run.now.moment c.restart.new.self.moment
    (ap (λ (m : Moment). m.standing) c.restart.ensures)
    (record { sound = c.scene.ensures.sound; rises = c.given-given.ensures.rising; furnished = c.requires.furnished }) in
    (settled_after c.args.self.now.stage c.in-Ok.ensures tt settled).furnished

pub returns-in-Ok-clause-rooted : goal.returns-in-Ok-clause-rooted
returns-in-Ok-clause-rooted g c = λ h.
    runs_rooted (Runs.fired _ _ _ _ _ (rw c.restart.ensures at c.in-Ok.ensures)) c.given-given.ensures.rising h

pub returns-in-Ok-clause-ordered : goal.returns-in-Ok-clause-ordered
returns-in-Ok-clause-ordered g c = run_ordered (Runs.fired _ _ _ _ _ (rw c.restart.ensures at c.in-Ok.ensures))

pub returns-in-Ok-clause-faultless : goal.returns-in-Ok-clause-faultless
returns-in-Ok-clause-faultless g c = run_faultless (Runs.fired _ _ _ _ _ (rw c.restart.ensures at c.in-Ok.ensures)) _ c.scene.ensures.sound

pub returns-in-Ok-clause-budget : goal.returns-in-Ok-clause-budget
returns-in-Ok-clause-budget g c = run_budget (Runs.fired _ _ _ _ _ (rw c.restart.ensures at c.in-Ok.ensures))

pub returns-in-Ok-clause-cause : goal.returns-in-Ok-clause-cause
returns-in-Ok-clause-cause g c = run_cause (Runs.fired _ _ _ _ _ (rw c.restart.ensures at c.in-Ok.ensures))
