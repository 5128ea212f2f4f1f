use Rattle.std.proofs.Common.{◌≡◌}
use Rattle.std.specs.List.{find}
use Rattle.cdi_explain.specs.Replacers.{replaces}
use Rattle.cdi_explain.proofs.replacer.replacer_of.Given as goal

abbrev pub invariant-loop-decl : goal.invariant-loop-decl
invariant-loop-decl l = find (replaces l.decls l.class) l.decl-iterator ≡ find (replaces l.decls l.class) l.decls
