use Rattle.cdi_effective.proofs.Common.{limit, ◌-◌}
use Rattle.cdi_effective.proofs.WalkLemmas.{Walks}
use Rattle.cdi_effective.proofs.chains.Chains.places_behind.Given as goal

abbrev pub invariant-loop-step : goal.invariant-loop-step
invariant-loop-step l = Walks l.self.decls.now l.bean l.places.items l.met.items l.last (limit - l.step)
