use Rattle.cdi_ways.specs.Order.{work_of}
use Rattle.cdi_ways.proofs.order.Walk.walk.Given as goal

abbrev pub decreases-steps : goal.decreases-steps
decreases-steps l = work_of l.self
