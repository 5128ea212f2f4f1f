use Rattle.std.proofs.Common.{◌≡◌, ◌++◌, drop, filter}
use Rattle.cdi_match.specs.Bindings.{uses_in}
use Rattle.cdi_intercept.specs.{Chains.surrounds, Lent.lent_in}
use Rattle.cdi_intercept.proofs.chain.chain_among.Given as goal

abbrev pub invariant-loop-interceptor : goal.invariant-loop-interceptor
invariant-loop-interceptor l =
    lent_in l.list.items ++ filter (surrounds l.decls (uses_in l.set) l.place) (lent_in (drop l.interceptor-index l.order))
    ≡ filter (surrounds l.decls (uses_in l.set) l.place) (lent_in l.order)
