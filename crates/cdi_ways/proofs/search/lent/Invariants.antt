use Rattle.cdi_ways.proofs.Common.{◌≡◌, map, take}
use Rattle.cdi_ways.proofs.search.lent.Given as goal

abbrev pub invariant-loop-positions : goal.invariant-loop-positions
invariant-loop-positions l =
    map (λ positions. positions.now) l.list.items ≡ map (λ positions. positions.items) (take l.positions-index l.leaving)
