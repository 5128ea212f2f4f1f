use Rattle.std.proofs.Common.{◌≡◌, ◌++◌, map}
use Rattle.cdi_match.specs.Bindings.{uses_in}
use Rattle.cdi_intercept.specs.{Chains.chain_by, Lent.lent_in}
use Rattle.cdi_intercept.proofs.asked.chain_of.Given as goal

abbrev pub invariant-loop-interceptor : goal.invariant-loop-interceptor
invariant-loop-interceptor l =
    l.names ++ map (λ i. i.name) (lent_in l.interceptor-iterator.rest.items)
    ≡ map (λ i. i.name) (chain_by l.decls (uses_in l.set.items) l.place)
