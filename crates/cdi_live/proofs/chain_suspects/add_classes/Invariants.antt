use Rattle.cdi_live.proofs.Common.{◌≡◌, List, bytes_eq, ℕ, ◌||◌, flat_map, map, holds, take, contains, class_named}
use Rattle.cdi_live.proofs.chain_suspects.add_classes.Given as goal

abbrev pub invariant-loop-decl : goal.invariant-loop-decl
invariant-loop-decl l = (c : List ℕ) → contains bytes_eq l.classes c
    ≡ (contains bytes_eq l.fn.classes c || holds (flat_map class_named (map (λ d. d.now) (take l.decl-index l.decls))) c)
