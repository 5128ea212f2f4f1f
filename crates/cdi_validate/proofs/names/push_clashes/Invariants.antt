use Rattle.cdi_validate.proofs.Common.{◌≡◌, ◌++◌, map, filter, leading, is_ambiguous}
use Rattle.cdi_faults.specs.declared.fault.Fault.TheVariants as faults_are
use Rattle.cdi_validate.proofs.names.push_clashes.Given as goal

abbrev pub invariant-loop-name : goal.invariant-loop-name
invariant-loop-name l =
    l.faults.items ++ map (λ e. faults_are.NameClash e.0) (filter (λ e. is_ambiguous (leading e.1)) l.name-iterator)
    ≡ l.fn.faults.items ++ map (λ e. faults_are.NameClash e.0) (filter (λ e. is_ambiguous (leading e.1)) l.leaders.entries)
