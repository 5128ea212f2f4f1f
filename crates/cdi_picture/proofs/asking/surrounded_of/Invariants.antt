use Rattle.std.proofs.Common.{◌≡◌}
use Rattle.cdi_picture.proofs.asking.surrounded_of.Given as goal

abbrev pub invariant-loop-decl : goal.invariant-loop-decl
invariant-loop-decl g l = record {
  decls : l.container.decls ≡ l.initial.container.decls;
  book : l.container.book ≡ l.initial.container.book;
}
