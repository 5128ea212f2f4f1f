use Rattle.std.proofs.Common.{◌≡◌, drop}
use Rattle.std.specs.List.{list_any}
use Rattle.cdi_match.specs.Bindings.{uses_in}
use Rattle.cdi_effective.specs.Qualifiers.{uses_one}
use Rattle.cdi_intercept.specs.Sees.{shares_type}
use Rattle.cdi_intercept.proofs.seen.shares_type.Given as goal

abbrev pub invariant-loop-binding : goal.invariant-loop-binding
invariant-loop-binding l =
    list_any (λ u. uses_one (uses_in l.bindings) u.name) (drop l.binding-index l.binding-items) ≡ shares_type (uses_in l.bindings) l.interceptor
