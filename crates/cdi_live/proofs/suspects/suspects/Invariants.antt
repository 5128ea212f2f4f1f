use Rattle.cdi_live.proofs.Common.{◌≡◌, List, bytes_eq, ℕ, flat_map, holds, take, types_of_key, contains}
use Rattle.cdi_live.proofs.suspects.suspects.Given as goal

abbrev pub invariant-loop-key : goal.invariant-loop-key
invariant-loop-key l = (t : List ℕ) → contains bytes_eq l.types t
    ≡ holds (flat_map (types_of_key l.sides.index.now.decls l.sides.next.now) (take l.key-index l.sides.affected.now)) t
