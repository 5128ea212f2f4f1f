use Rattle.cdi_validate.proofs.Common.{◌≡◌}
use Rattle.std.specs.List.{list_any}
use Rattle.cdi_validate.specs.Surrounded.{gives_needs}
use Rattle.cdi_validate.proofs.circles.give_needs.Given as goal

abbrev pub invariant-loop-decl : goal.invariant-loop-decl
invariant-loop-decl l = list_any gives_needs l.decl-iterator ≡ list_any gives_needs l.decls
