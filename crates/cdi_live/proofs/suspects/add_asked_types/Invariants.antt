use Rattle.cdi_live.proofs.Common.{◌≡◌, List, bytes_eq, ℕ, ◌||◌, flat_map, holds, asked_in, asked_types, contains}
use Rattle.cdi_live.proofs.suspects.add_asked_types.Given as goal

abbrev pub invariant-loop-mention : goal.invariant-loop-mention
invariant-loop-mention l = (t : List ℕ) → (contains bytes_eq l.types t || holds (flat_map asked_in l.mention-iterator) t)
    ≡ (contains bytes_eq l.fn.types t || holds (asked_types l.decl) t)
