use Rattle.cdi_match.proofs.Common.{◌≡◌, ◌++◌}
use Rattle.cdi_match.proofs.walk.push_names.Given as goal

abbrev pub invariant-loop-name : goal.invariant-loop-name
invariant-loop-name l = l.found.items ++ l.name-iterator ≡ l.fn.found.items ++ l.fn.names
