use Rattle.cdi_index.proofs.Common.{◌≡◌, map, take, turn_by}
use Rattle.cdi_index.proofs.replaced.turn_all.Given as goal

abbrev pub invariant-loop-key : goal.invariant-loop-key
invariant-loop-key l = l.list.items ≡ map (turn_by l.shelf l.postings l.affected.keys l.changes) (take l.key-index l.key-items)
