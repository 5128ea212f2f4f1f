use Rattle.cdi_effective.proofs.Common.{◌≡◌, ℕ, ◌||◌, List, drop, uses_in, uses_one, byte_order, contains}
use Rattle.cdi_effective.proofs.bindings.types_of.Given as goal

abbrev pub invariant-loop-binding : goal.invariant-loop-binding
invariant-loop-binding l = (name : List ℕ) →
    (contains byte_order l.types name || uses_one (uses_in (drop l.binding-index l.uses)) name) ≡ uses_one (uses_in l.uses) name
