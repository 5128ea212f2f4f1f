use Rattle.cdi_effective.proofs.Common.{◌≡◌, drop, class_names, ◌++◌, beans_in}
use Rattle.cdi_effective.proofs.chain.class_names.Given as goal

abbrev pub invariant-loop-bean : goal.invariant-loop-bean
invariant-loop-bean l = l.names.items ++ class_names (beans_in (drop l.bean-index l.beans)) ≡ class_names (beans_in l.beans)
