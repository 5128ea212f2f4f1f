use Rattle.std.proofs.Common.{◌≡◌}
use Rattle.cdi_picture.proofs.asking.push_places.Given as goal

abbrev pub invariant-loop-place : goal.invariant-loop-place
invariant-loop-place g l = record {
  decls : l.container.decls ≡ l.initial.container.decls;
  book : l.container.book ≡ l.initial.container.book;
}
