use Rattle.std.proofs.Common.{◌≡◌, false, take}
use Rattle.std.specs.List.{list_any}
use Rattle.cdi_concern.specs.Concern.{is_inherited}
use Rattle.cdi_concern.proofs.keys.has_inherited.Given as goal

abbrev pub invariant-loop-key : goal.invariant-loop-key
invariant-loop-key l = list_any is_inherited (take l.key-index l.keys) ≡ false
