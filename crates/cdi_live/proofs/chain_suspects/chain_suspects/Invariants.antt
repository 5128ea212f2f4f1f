use Rattle.cdi_live.proofs.Common.{◌≡◌, List, bytes_eq, ℕ, is_chain_suspect, take, contains}
use Rattle.cdi_live.proofs.chain_suspects.chain_suspects.Given as goal

abbrev pub invariant-loop-key : goal.invariant-loop-key
invariant-loop-key l = (c : List ℕ) → contains bytes_eq l.classes c
    ≡ is_chain_suspect l.sides.index.now.decls l.sides.next.now (take l.key-index l.sides.affected.now) c
