use Rattle.cdi_live.proofs.Common.{◌≡◌, List, bytes_eq, ℕ, ◌||◌, flat_map, holds, fired_in, fired_types, contains}
use Rattle.cdi_live.proofs.event_suspects.add_fired.Given as goal

abbrev pub invariant-loop-mention : goal.invariant-loop-mention
invariant-loop-mention l = (t : List ℕ) → (contains bytes_eq l.types t || holds (flat_map fired_in l.mention-iterator) t)
    ≡ (contains bytes_eq l.fn.types t || holds (fired_types l.decl) t)
