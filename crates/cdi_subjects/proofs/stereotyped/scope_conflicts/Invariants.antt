use Rattle.std.proofs.Common.{◌≡◌, ◌++◌, drop}
use Rattle.cdi_subjects.specs.Subjects.{scope_conflicts}
use Rattle.cdi_subjects.proofs.stereotyped.scope_conflicts.Given as goal

abbrev pub invariant-loop-bean : goal.invariant-loop-bean
invariant-loop-bean l = l.subjects.items ++ scope_conflicts (drop l.bean-index l.beans) ≡ scope_conflicts l.beans
