use Rattle.std.proofs.Common.{◌≡◌, ◌++◌, drop, flat_map, map}
use Rattle.cdi_differences.specs.{Holds.shown_line, Wiring.chain_lines_at}
use Rattle.cdi_differences.proofs.wiring.add_chains_of.Given as goal

abbrev pub invariant-loop-place : goal.invariant-loop-place
invariant-loop-place g l =
    record {
      lines : map shown_line l.lines.items ++ flat_map (chain_lines_at l.initial.container.decls l.bean.name)
          (drop l.place-index l.place-items) ≡ map shown_line l.initial.lines.items ++ flat_map
          (chain_lines_at l.initial.container.decls l.bean.name) l.place-items;
      decls : l.container.decls ≡ l.initial.container.decls;
      book : l.container.book ≡ l.initial.container.book;
    }
