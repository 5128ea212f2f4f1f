use Rattle.std.proofs.Common.{◌≡◌, ◌++◌, map}
use Rattle.cdi_assembly.proofs.findings.collect_beans.Given as goal

abbrev pub invariant-loop-bean : goal.invariant-loop-bean
invariant-loop-bean l = map (λ bean. bean.now) l.list.items ++ l.bean-iterator ≡ l.fn.beans
