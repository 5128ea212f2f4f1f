use Rattle.std.proofs.Common.{◌≡◌, Some, map, take}
use Rattle.std.specs.List.{slice_get}
use Rattle.cdi_resolve.proofs.bean_list.at_places.Given as goal

abbrev pub invariant-loop-place : goal.invariant-loop-place
invariant-loop-place l = map (λ bean. Some bean.now) l.list.items ≡ map (slice_get l.beans) (take l.place-index l.places)
