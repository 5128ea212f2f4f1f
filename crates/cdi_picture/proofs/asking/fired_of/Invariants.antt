use Rattle.std.proofs.Common.{◌≡◌}
use Rattle.cdi_picture.proofs.asking.fired_of.Given as goal

abbrev pub invariant-loop-owner : goal.invariant-loop-owner
invariant-loop-owner g l = record {
  decls : l.container.decls ≡ l.initial.container.decls;
  book : l.container.book ≡ l.initial.container.book;
}
