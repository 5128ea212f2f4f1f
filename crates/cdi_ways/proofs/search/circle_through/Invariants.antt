use Rattle.cdi_ways.proofs.Common.{◌-◌, ◌≤◌, vec_len, edges_of}
use Rattle.cdi_ways.specs.Search.{SearchesFrom}
use Rattle.cdi_ways.proofs.search.circle_through.Given as goal

abbrev pub invariant-taken : goal.invariant-taken
invariant-taken l = SearchesFrom l.edges l.start l.search l.place × (l.place ≤ vec_len l.search.steps)

abbrev pub decreases-taken : goal.decreases-taken
decreases-taken l = edges_of l.search - l.place
