use Rattle.std.proofs.Common.{◌≡◌, ◌++◌, drop, filter, map}
use Rattle.cdi_faults.specs.declared.fault.Subject.TheVariants as subjects
use Rattle.cdi_subjects.specs.Records.{conditional_by}
use Rattle.cdi_subjects.proofs.conditional.conditional_dependents.Given as goal

abbrev pub invariant-loop-observer : goal.invariant-loop-observer
invariant-loop-observer l =
    l.subjects.items
    ++ map (λ o. subjects.Observer o.name) (filter (λ o. o.is_conditional) (drop l.observer-index l.observer-items))
    ≡ conditional_by l.fn.decl l.fn.beans
