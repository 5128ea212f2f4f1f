use Rattle.std.proofs.Common.{◌≡◌, take, string_bytes}
use Rattle.cdi_differences.specs.Wiring.{text_of_names}
use Rattle.cdi_differences.proofs.words.text_of_names.Given as goal

abbrev pub invariant-loop-name : goal.invariant-loop-name
invariant-loop-name l = string_bytes l.text ≡ text_of_names (take l.name-index l.names)
