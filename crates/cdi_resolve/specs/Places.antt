-- Where the beans of a list stand.
use Rattle.std.specs.Prelude.{◌≡◌, ℕ, nat_eq, Bool, List, [], map, filter, Some, position, slice_get, Vec}
use Rattle.std.specs.Cmp.Lexicographic.{pointwise}
use Rattle.std.specs.Option.{option_map_or}
use Rattle.std.specs.declared.alloc.Global.{Global}
use Rattle.indexmap.specs.IndexMap.{IndexMap, get}
use Rattle.cdi_effective.specs.Records.{is_of_class}
use Rattle.cdi_effective.specs.declared.records.Effective.{Effective}
use Rattle.cdi_resolve.specs.Choices.{offers}

-- two names are one
abbrev pub same_name : List ℕ → List ℕ → Bool
same_name = pointwise nat_eq

-- each class has the place of its first bean
abbrev pub ArePlacesOfClasses : {S : Type 0} → List Effective → IndexMap (List ℕ) ℕ S → Type 0
ArePlacesOfClasses beans classes = (class : List ℕ) → get same_name classes class ≡ position (is_of_class class) beans

-- the places of a type
abbrev pub places_at : {S : Type 0} → IndexMap (List ℕ) (Vec ℕ Global) S → List ℕ → List ℕ
places_at types t = option_map_or (λ places. places.items) (get same_name types t) []

-- at the places of each type stand the enabled beans that have it, in order
abbrev pub ArePlacesOfTypes : {S : Type 0} → List Effective → IndexMap (List ℕ) (Vec ℕ Global) S → Type 0
ArePlacesOfTypes beans types = (t : List ℕ) → map (slice_get beans) (places_at types t) ≡ map Some (filter (offers t) beans)
