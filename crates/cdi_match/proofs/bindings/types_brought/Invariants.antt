use Rattle.cdi_match.proofs.Common.{◌≡◌, map, take, name_of_use, uses_in}
use Rattle.cdi_match.proofs.bindings.types_brought.Given as goal

abbrev pub invariant-loop-binding : goal.invariant-loop-binding
invariant-loop-binding l = l.names.items ≡ map name_of_use (uses_in (take l.binding-index l.uses))
