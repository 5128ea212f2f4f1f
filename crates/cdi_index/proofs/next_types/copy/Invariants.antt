use Rattle.cdi_index.proofs.Common.{◌≡◌, ◌++◌, drop}
use Rattle.cdi_index.proofs.next_types.copy.Given as goal

abbrev pub invariant-loop-name : goal.invariant-loop-name
invariant-loop-name l = l.list.items ++ drop l.name-index l.names ≡ l.names
