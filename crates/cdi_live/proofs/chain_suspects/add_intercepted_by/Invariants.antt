use Rattle.cdi_live.proofs.Common.{◌≡◌, List, bytes_eq, ℕ, ◌||◌, is_intercepted_by, take, contains}
use Rattle.cdi_live.proofs.chain_suspects.add_intercepted_by.Given as goal

abbrev pub invariant-loop-binding : goal.invariant-loop-binding
invariant-loop-binding l = (c : List ℕ) → contains bytes_eq l.classes c
    ≡ (contains bytes_eq l.fn.classes c || is_intercepted_by l.index.decls c (take l.binding-index l.bindings))
