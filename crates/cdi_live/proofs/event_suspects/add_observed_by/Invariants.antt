use Rattle.cdi_live.proofs.Common.{◌≡◌, List, bytes_eq, ℕ, ◌||◌, holds, event_types, take, contains}
use Rattle.cdi_live.proofs.event_suspects.add_observed_by.Given as goal

abbrev pub invariant-loop-method : goal.invariant-loop-method
invariant-loop-method l = (t : List ℕ) → contains bytes_eq l.types t
    ≡ (contains bytes_eq l.fn.types t || holds (event_types (take l.method-index l.methods)) t)
