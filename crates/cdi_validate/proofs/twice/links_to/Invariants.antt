use Rattle.cdi_validate.proofs.Common.{◌≡◌, ◌++◌, class_names, drop, links_to}
use Rattle.cdi_effective.specs.Lent.{beans_in}
use Rattle.cdi_validate.proofs.twice.links_to.Given as goal

abbrev pub invariant-loop-bean : goal.invariant-loop-bean
invariant-loop-bean l =
    l.links.items ++ links_to l.decls (class_names (beans_in (drop l.bean-index l.beans)))
    ≡ links_to l.decls (class_names (beans_in l.beans))
