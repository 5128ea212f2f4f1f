use Rattle.cdi_staging.proofs.Common.{◌≡◌, ◌++◌, map, in_order, lent_in}
use Rattle.cdi_staging.specs.Naming.{interceptor_names}
use Rattle.cdi_staging.proofs.names.names_of_interceptors.Given as goal

abbrev pub invariant-loop-interceptor : goal.invariant-loop-interceptor
invariant-loop-interceptor l =
    l.names ++ map interceptor_names (lent_in l.interceptor-iterator.rest.items) ≡ map interceptor_names (in_order l.decls)
