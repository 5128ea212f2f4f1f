use Rattle.std.proofs.Common.{◌≡◌, take}
use Rattle.cdi_concern.specs.Concern.{names_of_kind}
use Rattle.cdi_concern.proofs.sought.names_of_kind.Given as goal

abbrev pub invariant-loop-key : goal.invariant-loop-key
invariant-loop-key l = l.names.items ≡ names_of_kind l.kind (take l.key-index l.keys)
