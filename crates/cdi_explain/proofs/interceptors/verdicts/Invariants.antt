use Rattle.std.proofs.Common.{◌≡◌, ◌++◌, map}
use Rattle.cdi_match.specs.Bindings.{uses_in}
use Rattle.cdi_intercept.specs.Chains.{interceptors}
use Rattle.cdi_explain.specs.Interceptors.{interceptor_verdict}
use Rattle.cdi_explain.proofs.interceptors.verdicts.Given as goal

abbrev pub invariant-loop-decl : goal.invariant-loop-decl
invariant-loop-decl l =
    l.verdicts ++ map (interceptor_verdict l.decls (uses_in l.set) l.place) (interceptors l.decl-iterator)
    ≡ map (interceptor_verdict l.decls (uses_in l.set) l.place) (interceptors l.decls)
