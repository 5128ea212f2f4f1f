use Rattle.std.proofs.Common.{length, ◌≤◌}
use Rattle.cdi_legal.specs.{Ends.Ends, Ends.held, Moment.Moment}
use Rattle.cdi_ending.proofs.stage.Stage.destroy_held.Given as goal

abbrev pub invariant-loop-left : goal.invariant-loop-left
invariant-loop-left g l = record {
  few : l.left ≤ length l.made;
  rest : (m : Moment) → Ends l.self.scene (held l.made l.left) l.run.moment m
      → Ends l.self.scene (held l.made (length l.made)) l.fn.run.moment m;
}

abbrev pub decreases-loop-left : goal.decreases-loop-left
decreases-loop-left g l = l.left
