use Rattle.std.proofs.Common.{◌≡◌, drop}
use Rattle.cdi_match.specs.Bindings.{uses_in}
use Rattle.cdi_effective.specs.Qualifiers.{uses_one}
use Rattle.cdi_intercept.proofs.seen.uses_one.Given as goal

abbrev pub invariant-loop-binding : goal.invariant-loop-binding
invariant-loop-binding l = uses_one (uses_in (drop l.binding-index l.bindings)) l.fn.name ≡ uses_one (uses_in l.bindings) l.fn.name
