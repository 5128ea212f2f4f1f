use Rattle.cdi_memo.proofs.ChangeLemmas.{empty-once}
use Rattle.cdi_memo.proofs.memo.Memo.new.Goals as goal

pub invariant_of-result : goal.invariant_of-result
invariant_of-result g c = empty-once g.Q.PartialEq.eq c.new.result.entries c.new.ensures.empty
