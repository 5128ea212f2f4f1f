use Rattle.cdi_live.proofs.Common.{◌≡◌, List, bytes_eq, ℕ, ◌||◌, holds, take, types_of_records, contains}
use Rattle.cdi_live.proofs.suspects.add_types_of_records.Given as goal

abbrev pub invariant-loop-bean : goal.invariant-loop-bean
invariant-loop-bean l = (t : List ℕ) → contains bytes_eq l.types t
    ≡ (contains bytes_eq l.fn.types t || holds (types_of_records (take l.bean-index l.records)) t)
