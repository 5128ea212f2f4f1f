use Rattle.std.proofs.Common.{◌≡◌, ◌++◌}
use Rattle.cdi_subjects.specs.{Filter.found_in, Parts.unfit_in, Parts.unfit_parts}
use Rattle.cdi_subjects.proofs.bodies.unfit_parts.Given as goal

abbrev pub invariant-loop-mention : goal.invariant-loop-mention
invariant-loop-mention g l = l.subjects.items ++ found_in (unfit_in (g.B.Bodies.promises l.book) l.decl) l.mention-iterator
    ≡ unfit_parts (g.B.Bodies.promises l.book) l.decl
