use Rattle.cdi_staging.proofs.Common.{◌≡◌, ◌++◌, map, drop}
use Rattle.cdi_staging.specs.Naming.{method_names}
use Rattle.cdi_staging.proofs.names.names_of_methods.Given as goal

abbrev pub invariant-loop-method : goal.invariant-loop-method
invariant-loop-method l = l.names ++ map method_names (drop l.method-index l.methods) ≡ map method_names l.methods
