use Rattle.std.proofs.Common.{◌≡◌, ◌++◌, true, drop}
use Rattle.std.specs.List.{list_all}
use Rattle.cdi_assembly.specs.Put.{is_declaration, left_by_sources, refused_from, told}
use Rattle.cdi_assembly.proofs.assembly.assemble.Given as goal

abbrev pub invariant-loop-position : goal.invariant-loop-position
invariant-loop-position g l = record {
  decls : left_by_sources l.container.decls (drop l.position l.sources) ≡ left_by_sources l.initial.container.decls l.sources;
  told : list_all is_declaration l.sources ≡ true
      → told l.assembly.problems.items ++ refused_from l.position l.container.decls (drop l.position l.sources)
      ≡ refused_from 0 l.initial.container.decls l.sources;
  book : l.container.book ≡ l.initial.container.book;
}
