use Rattle.cdi_index.proofs.Common.{◌≡◌, true, map, ◌++◌, unless_replaced, drop}
use Rattle.cdi_index.proofs.replaced.disable_all.Given as goal

abbrev pub invariant-loop-record : goal.invariant-loop-record
invariant-loop-record l = l.copies ++ map (unless_replaced true) (drop l.record-index l.records) ≡ map (unless_replaced true) l.records
