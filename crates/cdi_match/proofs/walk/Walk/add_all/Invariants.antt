use Rattle.cdi_match.proofs.Common.{Walk, HasMarks, Meets}
use Rattle.cdi_match.proofs.walk.Walk.add_all.Given as goal

abbrev pub invariant-loop-name : goal.invariant-loop-name
invariant-loop-name l =
    HasMarks l.self × ((w : Walk) → Meets l.links l.decls l.name-iterator l.self w → Meets l.links l.decls l.fn.names l.fn.self w)
