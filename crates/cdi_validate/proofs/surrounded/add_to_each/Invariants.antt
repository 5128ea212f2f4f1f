use Rattle.cdi_validate.proofs.Common.{◌≡◌, List, ◌++◌, ℕ, [], ◌∷◌, IsStrictlySortedBy, has, drop, byte_order}
use Rattle.std.proofs.Common.{if◌then◌else◌}
use Rattle.cdi_validate.specs.Surrounded.{numbers_at}
use Rattle.cdi_validate.proofs.surrounded.add_to_each.Given as goal

abbrev pub invariant-loop-name : goal.invariant-loop-name
invariant-loop-name l = record {
  rise : IsStrictlySortedBy byte_order (drop l.name-index l.names);
  numbers : (t : List ℕ) → numbers_at l.by_interceptor t ++ (if has (drop l.name-index l.names) t then l.number ∷ [] else [])
      ≡ numbers_at l.fn.by_interceptor t ++ (if has l.names t then l.number ∷ [] else []);
}
