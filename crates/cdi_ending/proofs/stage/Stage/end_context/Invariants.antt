use Rattle.std.proofs.Common.{length}
use Rattle.cdi_legal.specs.{Ends.Ends, Ends.context, Moment.Moment}
use Rattle.cdi_ending.specs.Room.{Pays}
use Rattle.cdi_ending.proofs.stage.Stage.end_context.Given as goal

abbrev pub invariant-loop-youngest : goal.invariant-loop-youngest
invariant-loop-youngest g l = record {
  pays : Pays l.self.scene 0 l.fn.run l.run;
  rest : (m : Moment) → Ends l.self.scene (context l.scope) l.run.moment m → Ends l.self.scene (context l.scope) l.fn.run.moment m;
}

abbrev pub decreases-loop-youngest : goal.decreases-loop-youngest
decreases-loop-youngest g l = length l.run.moment.standing.live
