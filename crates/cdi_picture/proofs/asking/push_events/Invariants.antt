use Rattle.std.proofs.Common.{◌≡◌}
use Rattle.cdi_picture.proofs.asking.push_events.Given as goal

abbrev pub invariant-loop-mention : goal.invariant-loop-mention
invariant-loop-mention g l = record {
  decls : l.container.decls ≡ l.initial.container.decls;
  book : l.container.book ≡ l.initial.container.book;
}
