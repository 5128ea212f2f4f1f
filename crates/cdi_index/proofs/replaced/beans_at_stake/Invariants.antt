use Rattle.cdi_index.proofs.Common.{◌≡◌, DeclKey, same_key, take, is_at_stake, contains}
use Rattle.cdi_index.proofs.replaced.beans_at_stake.Given as goal

abbrev pub invariant-loop-change : goal.invariant-loop-change
invariant-loop-change l = (k : DeclKey) → contains same_key l.beans k ≡ is_at_stake l.shelf (take l.change-index l.changes) k
