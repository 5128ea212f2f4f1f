use Rattle.cdi_uses.proofs.Common.{◌≡◌, ◌++◌, map, drop, use_name}
use Rattle.cdi_uses.proofs.uses.has_name_twice.Given as goal

abbrev pub invariant-loop-text : goal.invariant-loop-text
invariant-loop-text l = map (λ n. n.now) l.names.items ++ map use_name (map (λ u. u.now) (drop l.text-index l.uses))
    ≡ map use_name (map (λ u. u.now) l.uses)
