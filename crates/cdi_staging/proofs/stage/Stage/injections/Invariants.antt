use Rattle.cdi_staging.proofs.Common.{◌≡◌, ◌++◌, map, has, around_in, injections_around, drop}
use Rattle.cdi_staging.proofs.stage.Stage.injections.Given as goal

abbrev pub invariant-loop-position : goal.invariant-loop-position
invariant-loop-position g l =
    l.list ++ injections_around (λ i. has l.names.items i.name) l.position (map around_in (drop l.position l.self.around.now))
    ≡ injections_around (λ i. has l.names.items i.name) 0 (map around_in l.self.around.now)
