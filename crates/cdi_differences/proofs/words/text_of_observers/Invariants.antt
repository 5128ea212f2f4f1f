use Rattle.std.proofs.Common.{◌≡◌, take, string_bytes}
use Rattle.cdi_differences.specs.Wiring.{text_of_observers}
use Rattle.cdi_differences.proofs.words.text_of_observers.Given as goal

abbrev pub invariant-loop-id : goal.invariant-loop-id
invariant-loop-id l = string_bytes l.text ≡ text_of_observers (take l.id-index l.ids)
