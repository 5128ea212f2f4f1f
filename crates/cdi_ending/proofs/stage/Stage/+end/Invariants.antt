use Rattle.std.proofs.Common.{◌+◌, ◌-◌, ◌*◌, length}
use Rattle.cdi_legal.specs.{Ends.Ends, Ends.dependents, Moment.Moment}
use Rattle.cdi_ending.specs.Room.{Shrinks, Pays}
use Rattle.cdi_ending.proofs.stage.Stage.+end.Given as goal

abbrev pub decreases-destroy : goal.decreases-destroy
decreases-destroy g l = 2 * (l.run.now.moment.standing.given + 1 - l.id.number) + 1

abbrev pub decreases-destroy_dependents : goal.decreases-destroy_dependents
decreases-destroy_dependents g l = 2 * (l.run.now.moment.standing.given + 1 - l.number)

abbrev pub invariant-destroy_dependents-loop-youngest : goal.invariant-destroy_dependents-loop-youngest
invariant-destroy_dependents-loop-youngest g l = record {
  shrinks : Shrinks (l.number + 1) l.fn.run.moment.standing l.run.moment.standing;
  pays : Pays l.self.scene (l.number + 1) l.fn.run l.run;
  rest : (m : Moment) → Ends l.self.scene (dependents l.number) l.run.moment m → Ends l.self.scene (dependents l.number) l.fn.run.moment m;
}

abbrev pub decreases-destroy_dependents-loop-youngest : goal.decreases-destroy_dependents-loop-youngest
decreases-destroy_dependents-loop-youngest g l = length l.run.moment.standing.live
