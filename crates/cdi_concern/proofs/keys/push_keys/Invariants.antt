use Rattle.std.proofs.Common.{◌≡◌, ◌++◌, take}
use Rattle.cdi_concern.proofs.keys.push_keys.Given as goal

abbrev pub invariant-loop-key : goal.invariant-loop-key
invariant-loop-key l = l.keys.items ≡ l.fn.keys.items ++ take l.key-index l.more
