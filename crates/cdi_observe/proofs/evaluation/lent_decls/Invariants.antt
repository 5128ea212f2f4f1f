use Rattle.cdi_observe.proofs.Common.{◌≡◌, map, take}
use Rattle.cdi_observe.proofs.evaluation.lent_decls.Given as goal

abbrev pub invariant-loop-decl : goal.invariant-loop-decl
invariant-loop-decl l = map (λ d. d.now) l.list.items ≡ map (λ d. d.value) (take l.decl-index l.shared)
