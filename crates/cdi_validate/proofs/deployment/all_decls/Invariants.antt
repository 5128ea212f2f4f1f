use Rattle.cdi_validate.proofs.Common.{◌≡◌, ◌++◌, map}
use Rattle.cdi_validate.proofs.deployment.all_decls.Given as goal

abbrev pub invariant-loop-decl : goal.invariant-loop-decl
invariant-loop-decl l = map (λ d. d.now) l.list.items ++ l.decl-iterator ≡ l.decls
