use Rattle.std.proofs.Common.{◌≡◌, ◌++◌, ℕ, List, Some, drop, map, filter}
use Rattle.std.specs.List.{slice_get}
use Rattle.cdi_resolve.specs.{Choices.offers, Places.places_at}
use Rattle.cdi_resolve.proofs.places.places_of_types.Given as goal

abbrev pub invariant-loop-place : goal.invariant-loop-place
invariant-loop-place l = (t : List ℕ) →
    map (slice_get l.beans) (places_at l.types t) ++ map Some (filter (offers t) (drop l.place l.beans))
    ≡ map Some (filter (offers t) l.beans)
