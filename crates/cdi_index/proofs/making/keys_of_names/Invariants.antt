use Rattle.cdi_index.proofs.Common.{◌≡◌, map, key_at, ◌++◌, drop}
use Rattle.cdi_index.proofs.making.keys_of_names.Given as goal

abbrev pub invariant-loop-name : goal.invariant-loop-name
invariant-loop-name l = l.keys ++ map (key_at l.kind) (drop l.name-index l.names) ≡ map (key_at l.kind) l.names
