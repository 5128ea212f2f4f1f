use Rattle.cdi_validate.proofs.Common.{◌≡◌, ◌++◌, map, name_of_decl, kind_of}
use Rattle.cdi_faults.specs.declared.fault.Fault.TheVariants as the_faults
use Rattle.cdi_validate.proofs.deployment.push_declared.Given as goal

abbrev pub invariant-loop-subject : goal.invariant-loop-subject
invariant-loop-subject l =
    l.faults.items ++ map (the_faults.Declared l.code (kind_of l.decl) (name_of_decl l.decl)) l.subject-iterator.rest.items
    ≡ l.fn.faults.items ++ map (the_faults.Declared l.code (kind_of l.decl) (name_of_decl l.decl)) l.fn.subjects.items
