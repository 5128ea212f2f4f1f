use Rattle.cdi_model.proofs.Common.{◌≡◌, ◌++◌, drop, shared_in}
use Rattle.cdi_model.proofs.added.Added.copy.Given as goal

abbrev pub invariant-loop-decl : goal.invariant-loop-decl
invariant-loop-decl l = shared_in l.list.items ++ shared_in (drop l.decl-index l.decl-items) ≡ shared_in l.decl-items
