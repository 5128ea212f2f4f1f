use Rattle.std.proofs.Common.{◌≡◌, ◌++◌, ◌∷◌, [], ℕ, List, drop, if◌then◌else◌}
use Rattle.std.specs.List.Sorted.{IsStrictlySortedBy}
use Rattle.cdi_model.specs.Bytes.{byte_order}
use Rattle.cdi_match.specs.Chain.{has}
use Rattle.cdi_resolve.specs.Places.{places_at}
use Rattle.cdi_resolve.proofs.places.add_types.Given as goal

abbrev pub invariant-loop-name : goal.invariant-loop-name
invariant-loop-name l = record {
  rise : IsStrictlySortedBy byte_order (drop l.name-index l.names);
  places : (t : List ℕ) → places_at l.types t ++ (if has (drop l.name-index l.names) t then l.place ∷ [] else [])
      ≡ places_at l.fn.types t ++ (if has l.names t then l.place ∷ [] else []);
}
