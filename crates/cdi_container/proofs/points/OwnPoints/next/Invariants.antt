use Rattle.cdi_container.proofs.Common.{◌≡◌, length}
use Rattle.cdi_container.specs.Lent.{own_left}
use Rattle.cdi_container.proofs.points.OwnPoints.next.Given as goal

-- the same points are left
abbrev pub invariant-loop-mention : goal.invariant-loop-mention
invariant-loop-mention l = own_left l.self ≡ own_left l.initial.self

abbrev pub decreases-loop-mention : goal.decreases-loop-mention
decreases-loop-mention l = length l.self.mentions
