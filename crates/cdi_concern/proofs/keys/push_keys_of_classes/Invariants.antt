use Rattle.std.proofs.Common.{◌≡◌, ◌++◌, take}
use Rattle.cdi_concern.specs.Concern.{keys_of_classes}
use Rattle.cdi_concern.proofs.keys.push_keys_of_classes.Given as goal

abbrev pub invariant-loop-class : goal.invariant-loop-class
invariant-loop-class l = l.keys.items ≡ l.fn.keys.items ++ keys_of_classes (take l.class-index l.classes)
