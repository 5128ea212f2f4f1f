use Rattle.cdi_effective.proofs.Common.{◌≡◌, drop, key_at, ◌++◌, map}
use Rattle.cdi_effective.proofs.reads.push_keys.Given as goal

abbrev pub invariant-loop-name : goal.invariant-loop-name
invariant-loop-name l = l.keys.items ++ map (key_at l.kind) (drop l.name-index l.names) ≡ l.fn.keys.items ++ map (key_at l.kind) l.names
