use Rattle.std.proofs.Common.{◌≡◌, ◌++◌, flat_map, map}
use Rattle.cdi_differences.specs.{Holds.shown_line, Wiring.chain_lines}
use Rattle.cdi_differences.proofs.wiring.add_chains.Given as goal

abbrev pub invariant-loop-decl : goal.invariant-loop-decl
invariant-loop-decl g l =
    record {
      lines : map shown_line l.lines.items ++ flat_map (chain_lines l.decls) l.decl-iterator
          ≡ map shown_line l.initial.lines.items ++ flat_map (chain_lines l.decls) l.decls;
      decls : l.container.decls ≡ l.initial.container.decls;
      book : l.container.book ≡ l.initial.container.book;
    }
