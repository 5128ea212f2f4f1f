use Rattle.cdi_match.proofs.Common.{not, bytes_eq, next_of, tasks}
use Rattle.cdi_match.proofs.WalkLemmas.{Tells}
use Rattle.cdi_match.proofs.walk.leads_on.Given as goal

abbrev pub invariant-taken : goal.invariant-taken
invariant-taken l = Tells l.links l.decls (next_of l.links l.decls l.start) (λ s. not (bytes_eq s l.goal)) l.walk

abbrev pub decreases-taken : goal.decreases-taken
decreases-taken l = tasks l.walk
