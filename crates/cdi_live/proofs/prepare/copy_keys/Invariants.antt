use Rattle.cdi_live.proofs.Common.{◌≡◌, take}
use Rattle.cdi_live.proofs.prepare.copy_keys.Given as goal

abbrev pub invariant-loop-key : goal.invariant-loop-key
invariant-loop-key l = l.copy.items ≡ take l.key-index l.keys
