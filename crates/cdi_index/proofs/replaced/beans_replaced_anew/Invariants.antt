use Rattle.cdi_index.proofs.Common.{◌≡◌, DeclKey, same_key, take, is_replaced_anew, contains}
use Rattle.cdi_index.proofs.replaced.beans_replaced_anew.Given as goal

abbrev pub invariant-loop-change : goal.invariant-loop-change
invariant-loop-change l = (k : DeclKey) → contains same_key l.beans k ≡ is_replaced_anew (take l.change-index l.changes) k
