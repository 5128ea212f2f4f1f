use Rattle.std.proofs.Common.{◌≡◌, drop}
use Rattle.std.specs.BTreeMap.{get}
use Rattle.cdi_model.specs.Bytes.{byte_order}
use Rattle.cdi_match.specs.Bindings.{uses_in}
use Rattle.cdi_intercept.proofs.ConflictLemmas.{differ_after}
use Rattle.cdi_intercept.specs.Conflicts.{has_conflict, use_at}
use Rattle.cdi_intercept.proofs.conflict.has_conflict.Given as goal

abbrev pub invariant-loop-index : goal.invariant-loop-index
invariant-loop-index l =
    differ_after l.decls (λ name. use_at (uses_in l.uses) (get byte_order l.latest name)) (uses_in (drop l.index l.uses))
    ≡ has_conflict l.decls (uses_in l.uses)
