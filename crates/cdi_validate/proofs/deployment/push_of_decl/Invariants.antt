use Rattle.cdi_validate.proofs.Common.{◌≡◌, ◌++◌, flat_map, faults_of, drop, faults_of_code}
use Rattle.cdi_validate.proofs.deployment.push_of_decl.Given as goal

abbrev pub invariant-loop-code : goal.invariant-loop-code
invariant-loop-code g l =
    l.faults.items ++ flat_map (faults_of_code (g.V.View.list l.view) (g.B.Bodies.promises l.book) l.decl) (drop l.code-index l.code-items)
    ≡ l.fn.faults.items ++ faults_of (g.V.View.list l.view) (g.B.Bodies.promises l.book) l.decl
