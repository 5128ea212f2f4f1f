use Rattle.cdi_index.proofs.Common.{◌≡◌, ◌++◌, drop}
use Rattle.cdi_index.proofs.affected.copy_keys.Given as goal

abbrev pub invariant-loop-key : goal.invariant-loop-key
invariant-loop-key l = l.copy.items ++ drop l.key-index l.keys ≡ l.keys
