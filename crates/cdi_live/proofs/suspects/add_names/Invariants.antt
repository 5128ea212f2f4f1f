use Rattle.cdi_live.proofs.Common.{◌≡◌, List, bytes_eq, ℕ, ◌||◌, holds, take, contains}
use Rattle.cdi_live.proofs.suspects.add_names.Given as goal

abbrev pub invariant-loop-name : goal.invariant-loop-name
invariant-loop-name l = (t : List ℕ) → contains bytes_eq l.types t ≡ (contains bytes_eq l.fn.types t || holds (take l.name-index l.names) t)
