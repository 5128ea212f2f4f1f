use Rattle.cdi_uses.proofs.Common.{◌≡◌, ◌++◌, map, option_map, space, uses_in, pieces, left_of}
use Rattle.cdi_uses.proofs.events.uses_in.Given as goal

abbrev pub invariant-loop-rest : goal.invariant-loop-rest
invariant-loop-rest l = map (λ u. u.now) l.uses.items ++ pieces space (option_map (λ u. u.now) l.rest) ≡ uses_in l.text

abbrev pub decreases-loop-rest : goal.decreases-loop-rest
decreases-loop-rest l = left_of (option_map (λ u. u.now) l.rest)
