use Rattle.cdi_match.proofs.Common.{◌≡◌, ◌++◌, take, uses_in}
use Rattle.cdi_match.proofs.bindings.push_uses.Given as goal

abbrev pub invariant-loop-binding : goal.invariant-loop-binding
invariant-loop-binding l = uses_in l.list.items ≡ uses_in l.fn.list.items ++ take l.binding-index l.uses
