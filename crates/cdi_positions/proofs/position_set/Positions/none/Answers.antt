use Rattle.cdi_positions.proofs.Common.{replicate, refl, arith}
use Rattle.cdi_positions.proofs.SetLemmas.{none-left, EndsAt-none}
use Rattle.cdi_positions.proofs.position_set.Positions.none.Goals as goal

pub returns : goal.returns
returns c = none-left (replicate 32 0) 0 EndsAt-none 0 0 refl (omega arith)

pub invariant_of-result : goal.invariant_of-result
invariant_of-result c = (EndsAt-none, omega arith)
