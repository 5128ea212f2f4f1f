use Rattle.std.proofs.Common.{◌≡◌, ◌++◌, filter}
use Rattle.cdi_intercept.specs.{Chains.interceptors, Chains.is_enabled, Lent.lent_in}
use Rattle.cdi_intercept.proofs.chain.enabled.Given as goal

abbrev pub invariant-loop-decl : goal.invariant-loop-decl
invariant-loop-decl l = lent_in l.list.items ++ filter is_enabled (interceptors l.decl-iterator) ≡ filter is_enabled (interceptors l.decls)
