use Rattle.cdi_effective.proofs.Common.{◌≡◌, uses_in, in_place_of, uses_one, ◌++◌, not, filter}
use Rattle.cdi_effective.proofs.bindings.in_place_of.Given as goal

abbrev pub invariant-loop-binding : goal.invariant-loop-binding
invariant-loop-binding l =
    uses_in l.list.items ++ filter (λ u. not (uses_one (uses_in l.fn.own.items) u.name)) (uses_in l.binding-iterator.rest.items)
    ≡ in_place_of (uses_in l.fn.others.items) (uses_in l.fn.own.items)
