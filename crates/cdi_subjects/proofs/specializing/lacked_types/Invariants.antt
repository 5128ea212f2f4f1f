use Rattle.std.proofs.Common.{◌≡◌, ◌++◌, not, map, filter, drop}
use Rattle.cdi_match.specs.Chain.{has}
use Rattle.cdi_faults.specs.declared.fault.Subject.TheVariants as parts
use Rattle.cdi_subjects.specs.Records.{lacked_by}
use Rattle.cdi_subjects.proofs.specializing.lacked_types.Given as goal

abbrev pub invariant-loop-name : goal.invariant-loop-name
invariant-loop-name g l =
    l.subjects.items ++ map parts.Type (filter (λ t. not (has l.managed.types t)) (drop l.name-index l.name-items))
    ≡ lacked_by (g.V.View.list l.fn.view) l.fn.decl l.fn.beans
