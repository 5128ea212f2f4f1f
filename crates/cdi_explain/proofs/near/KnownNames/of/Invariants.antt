use Rattle.std.proofs.Common.{◌≡◌, take}
use Rattle.cdi_explain.specs.Near.{known_in}
use Rattle.cdi_explain.proofs.near.KnownNames.of.Given as goal

abbrev pub invariant-loop-name : goal.invariant-loop-name
invariant-loop-name l = known_in l.list.items ≡ take l.name-index l.declared
