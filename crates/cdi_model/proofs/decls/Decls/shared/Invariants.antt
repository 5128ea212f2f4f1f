use Rattle.cdi_model.proofs.Common.{◌≡◌, ◌++◌, length, map}
use Rattle.cdi_model.proofs.decls.Decls.shared.Given as goal

abbrev pub invariant-loop-decl : goal.invariant-loop-decl
invariant-loop-decl l = map (λ decl. decl.value) l.list.items ++ l.left ≡ l.self

abbrev pub decreases-loop-decl : goal.decreases-loop-decl
decreases-loop-decl l = length l.left
