use Rattle.cdi_ways.proofs.Common.{◌≡◌, ◌+◌, ◌-◌, ℕ, vec_len, leaving_at}
use Rattle.cdi_ways.proofs.leaving.make_place.Given as goal

abbrev pub invariant-places : goal.invariant-places
invariant-places l = (n : ℕ) → leaving_at l.leaving.items n ≡ leaving_at l.fn.leaving.items n

abbrev pub decreases-places : goal.decreases-places
decreases-places l = l.node + 1 - vec_len l.leaving
