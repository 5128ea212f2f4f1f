use Rattle.cdi_index.proofs.Common.{◌≡◌, list_any, DeclKey, same_key, take, touches, contains}
use Rattle.cdi_index.proofs.affected.affected_by.Given as goal

abbrev pub invariant-loop-key : goal.invariant-loop-key
invariant-loop-key l = (k : DeclKey) → contains same_key l.affected k
    ≡ list_any (touches l.shelf l.postings k) (take l.key-index l.keys)
