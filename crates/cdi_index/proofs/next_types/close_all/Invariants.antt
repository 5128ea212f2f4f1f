use Rattle.cdi_index.proofs.Common.{same_key, get}
use Rattle.cdi_index.specs.Made.{AreClosed}
use Rattle.cdi_index.proofs.next_types.close_all.Given as goal

abbrev pub invariant-loop-key : goal.invariant-loop-key
invariant-loop-key l = AreClosed l.decls (get same_key l.closed)
