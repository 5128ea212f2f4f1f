use Rattle.cdi_live.proofs.Common.{◌≡◌, List, bytes_eq, ℕ, ◌||◌, flat_map, map, holds, take, contains, fired_types}
use Rattle.cdi_live.proofs.event_suspects.add_all_fired.Given as goal

abbrev pub invariant-loop-decl : goal.invariant-loop-decl
invariant-loop-decl l = (t : List ℕ) → contains bytes_eq l.types t
    ≡ (contains bytes_eq l.fn.types t || holds (flat_map fired_types (map (λ d. d.now) (take l.decl-index l.decls))) t)
