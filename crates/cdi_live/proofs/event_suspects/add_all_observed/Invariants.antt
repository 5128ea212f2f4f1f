use Rattle.cdi_live.proofs.Common.{◌≡◌, List, bytes_eq, ℕ, ◌||◌, flat_map, map, holds, take, contains, types_observed}
use Rattle.cdi_live.proofs.event_suspects.add_all_observed.Given as goal

abbrev pub invariant-loop-decl : goal.invariant-loop-decl
invariant-loop-decl l = (t : List ℕ) → contains bytes_eq l.types t
    ≡ (contains bytes_eq l.fn.types t || holds (flat_map types_observed (map (λ d. d.now) (take l.decl-index l.decls))) t)
