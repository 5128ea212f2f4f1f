use Rattle.cdi_validate.proofs.Common.{◌≡◌, drop, first_marked}
use Rattle.cdi_validate.proofs.twice.first_marked.Given as goal

abbrev pub invariant-loop-link : goal.invariant-loop-link
invariant-loop-link l = first_marked (drop l.link-index l.links) l.marks ≡ first_marked l.links l.marks
