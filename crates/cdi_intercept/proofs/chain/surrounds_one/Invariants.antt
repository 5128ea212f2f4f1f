use Rattle.std.proofs.Common.{◌≡◌, drop, map}
use Rattle.cdi_intercept.specs.{Chains.surrounds_one, Lent.uses_at}
use Rattle.cdi_intercept.proofs.chain.surrounds_one.Given as goal

abbrev pub invariant-loop-place : goal.invariant-loop-place
invariant-loop-place l =
    surrounds_one l.decls (map uses_at (drop l.place-index l.sets)) l.interceptor ≡ surrounds_one l.decls (map uses_at l.sets) l.interceptor
