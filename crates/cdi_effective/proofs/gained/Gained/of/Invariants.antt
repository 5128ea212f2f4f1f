use Rattle.cdi_effective.proofs.Common.{chain, beans_in}
use Rattle.cdi_effective.proofs.GainedLemmas.{GivesWith}
use Rattle.cdi_effective.proofs.gained.Gained.of.Given as goal

abbrev pub invariant-loop-other : goal.invariant-loop-other
invariant-loop-other l = GivesWith l.decls l.gained (beans_in l.other-iterator.rest.items) (chain l.decls l.bean)
