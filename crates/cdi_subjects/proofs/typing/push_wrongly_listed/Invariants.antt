use Rattle.std.proofs.Common.{◌≡◌, ◌++◌, not, map, filter, drop}
use Rattle.cdi_match.specs.Chain.{has}
use Rattle.cdi_faults.specs.declared.fault.Subject.TheVariants as parts
use Rattle.cdi_subjects.proofs.typing.push_wrongly_listed.Given as goal

abbrev pub invariant-loop-name : goal.invariant-loop-name
invariant-loop-name l =
    l.subjects.items ++ map (parts.Typed l.bean.id.producer) (filter (λ s. not (has l.bean.types s)) (drop l.name-index l.name-items))
    ≡ l.fn.subjects.items ++ map (parts.Typed l.bean.id.producer) (filter (λ s. not (has l.bean.types s)) l.name-items)
