use Rattle.cdi_effective.proofs.Common.{chain}
use Rattle.cdi_effective.proofs.GainedLemmas.{GivesWithPlaces}
use Rattle.cdi_effective.proofs.chains.Chains.gained_by.Given as goal

abbrev pub invariant-loop-place : goal.invariant-loop-place
invariant-loop-place l = GivesWithPlaces l.self.decls.now l.gained l.place-iterator.rest.items (chain l.self.decls.now l.bean)
