use Rattle.cdi_live.proofs.Common.{◌≡◌, List, bytes_eq, ℕ, ◌||◌, flat_map, map, holds, take, contains, concerned}
use Rattle.cdi_live.proofs.suspects.add_all_concerned.Given as goal

abbrev pub invariant-loop-decl : goal.invariant-loop-decl
invariant-loop-decl l = (t : List ℕ) → contains bytes_eq l.types t
    ≡ (contains bytes_eq l.fn.types t || holds (flat_map (concerned l.index.decls) (map (λ d. d.now) (take l.decl-index l.decls))) t)
