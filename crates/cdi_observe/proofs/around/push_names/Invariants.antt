use Rattle.cdi_observe.proofs.Common.{◌≡◌, ◌++◌, drop}
use Rattle.cdi_observe.proofs.around.push_names.Given as goal

abbrev pub invariant-loop-name : goal.invariant-loop-name
invariant-loop-name l = l.names.items ++ drop l.name-index l.more ≡ l.fn.names.items ++ l.more
