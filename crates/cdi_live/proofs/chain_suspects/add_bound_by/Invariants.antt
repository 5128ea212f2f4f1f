use Rattle.cdi_live.proofs.Common.{◌≡◌, List, list_any, bytes_eq, ℕ, ◌||◌, is_bound_by, take, contains}
use Rattle.cdi_live.proofs.chain_suspects.add_bound_by.Given as goal

abbrev pub invariant-loop-key : goal.invariant-loop-key
invariant-loop-key l = (c : List ℕ) → contains bytes_eq l.classes c
    ≡ (contains bytes_eq l.fn.classes c || list_any (λ k. is_bound_by l.index.decls k c) (take l.key-index l.keys))
