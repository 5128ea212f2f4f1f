use Rattle.cdi_positions.proofs.Common.{replicate, arith}
use Rattle.cdi_positions.proofs.SetLemmas.{length-marks_of, unmarked-past, EndsAt-none}
use Rattle.cdi_positions.proofs.position_set.PositionSet.new.Goals as goal

pub returns-clause-none : goal.returns-clause-none
returns-clause-none c = λ p. unmarked-past (replicate 32 0) 0 EndsAt-none p (omega arith)

pub returns-clause-size : goal.returns-clause-size
returns-clause-size c = length-marks_of (replicate 32 0)

pub invariant_of-result : goal.invariant_of-result
invariant_of-result c = EndsAt-none
