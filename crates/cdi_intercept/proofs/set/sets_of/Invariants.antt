use Rattle.std.proofs.Common.{◌≡◌, map, take}
use Rattle.cdi_intercept.specs.{Lent.uses_at, Sets.with_set}
use Rattle.cdi_intercept.proofs.set.sets_of.Given as goal

abbrev pub invariant-loop-place : goal.invariant-loop-place
invariant-loop-place l = map uses_at l.sets.items ≡ map (with_set l.decls l.class l.bean) (take l.place-index l.place-items)
