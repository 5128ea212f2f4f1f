use Rattle.std.proofs.Common.{◌≡◌, ◌++◌, drop, filter, map}
use Rattle.cdi_intercept.specs.{Chains.surrounds_one, Lent.lent_in, Lent.uses_at}
use Rattle.cdi_intercept.proofs.chain.around_any.Given as goal

abbrev pub invariant-loop-interceptor : goal.invariant-loop-interceptor
invariant-loop-interceptor l =
    lent_in l.list.items ++ filter (surrounds_one l.decls (map uses_at l.sets.items)) (lent_in (drop l.interceptor-index l.order))
    ≡ filter (surrounds_one l.decls (map uses_at l.sets.items)) (lent_in l.order)
