use Rattle.std.proofs.Common.{◌≡◌, ◌+◌, drop}
use Rattle.cdi_ending.specs.Room.{cost_from}
use Rattle.cdi_ending.proofs.stage.Stage.live_cost.Given as goal

abbrev pub invariant-loop-instance : goal.invariant-loop-instance
invariant-loop-instance g l =
    l.cost + cost_from l.self.scene 0 (drop l.instance-index l.live) ≡ cost_from l.self.scene 0 l.live
