use Rattle.cdi_validate.proofs.Common.{◌≡◌, ◌++◌, keys}
use Rattle.cdi_validate.proofs.names.names_of.Given as goal

abbrev pub invariant-loop-name : goal.invariant-loop-name
invariant-loop-name l = l.names.items ++ l.name-iterator ≡ keys l.leaders
