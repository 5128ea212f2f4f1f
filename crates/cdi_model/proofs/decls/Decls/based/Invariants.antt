use Rattle.cdi_model.proofs.Common.{length}
use Rattle.cdi_model.proofs.BaseLemmas.{IsPut}
use Rattle.cdi_model.proofs.decls.Decls.based.Given as goal

abbrev pub invariant-loop-decl : goal.invariant-loop-decl
invariant-loop-decl l = IsPut l.self l.map.entries l.left

abbrev pub decreases-loop-decl : goal.decreases-loop-decl
decreases-loop-decl l = length l.left
