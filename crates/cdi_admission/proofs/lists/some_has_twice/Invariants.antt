use Rattle.std.proofs.Common.{◌≡◌, map, drop}
use Rattle.std.specs.List.{list_any}
use Rattle.cdi_uses.specs.Twice.{has_twice}
use Rattle.cdi_admission.proofs.lists.some_has_twice.Given as goal

abbrev pub invariant-loop-names : goal.invariant-loop-names
invariant-loop-names l = list_any has_twice (map (λ names. map (λ n. n.now) names.items) (drop l.names-index l.lists))
    ≡ list_any has_twice (map (λ names. map (λ n. n.now) names.items) l.lists)
