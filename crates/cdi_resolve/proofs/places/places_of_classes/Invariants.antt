use Rattle.std.proofs.Common.{◌≡◌, ℕ, List, drop}
use Rattle.std.specs.{List.position_from, Option.option_or, Prelude.position}
use Rattle.indexmap.specs.IndexMap.{get}
use Rattle.cdi_effective.specs.Records.{is_of_class}
use Rattle.cdi_resolve.specs.Places.{same_name}
use Rattle.cdi_resolve.proofs.places.places_of_classes.Given as goal

abbrev pub invariant-loop-place : goal.invariant-loop-place
invariant-loop-place l = (class : List ℕ) →
    option_or (get same_name l.classes class) (position_from (is_of_class class) l.place (drop l.place l.beans))
    ≡ position (is_of_class class) l.beans
