use Rattle.cdi_match.proofs.Common.{◌≡◌, has}
use Rattle.cdi_match.proofs.walk.has_name.Given as goal

abbrev pub invariant-loop-name : goal.invariant-loop-name
invariant-loop-name l = has l.name-iterator l.goal ≡ has l.fn.names l.goal
