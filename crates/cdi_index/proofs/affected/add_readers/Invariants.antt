use Rattle.cdi_index.proofs.Common.{◌≡◌, ◌||◌, DeclKey, same_key, take, is_reader_among, contains}
use Rattle.cdi_index.proofs.affected.add_readers.Given as goal

abbrev pub invariant-loop-slot : goal.invariant-loop-slot
invariant-loop-slot l = (k : DeclKey) → contains same_key l.affected k
    ≡ (contains same_key l.fn.affected k || is_reader_among l.shelf (take l.slot-index l.slots) k l.key)
