use Rattle.cdi_live.proofs.Common.{◌≡◌, List, length, bytes_eq, ℕ, ◌||◌, holds, keys_of, take, ◌-◌, contains}
use Rattle.cdi_live.proofs.event_suspects.add_kept.Given as goal

abbrev pub invariant-names : goal.invariant-names
invariant-names l = (t : List ℕ) → contains bytes_eq l.types t
    ≡ (contains bytes_eq l.fn.types t || holds (take l.index (keys_of l.events)) t)

abbrev pub decreases-names : goal.decreases-names
decreases-names l = length (keys_of l.events) - l.index
