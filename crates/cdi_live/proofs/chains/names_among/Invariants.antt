use Rattle.cdi_live.proofs.Common.{◌≡◌, map, filter, surrounds, take, lent_in}
use Rattle.cdi_match.specs.Bindings.{uses_in}
use Rattle.cdi_live.proofs.chains.names_among.Given as goal

abbrev pub invariant-loop-interceptor : goal.invariant-loop-interceptor
invariant-loop-interceptor l =
    l.names.items ≡ map (λ i. i.name) (filter (surrounds l.decls (uses_in l.bindings) l.place) (lent_in (take l.interceptor-index l.interceptors)))
