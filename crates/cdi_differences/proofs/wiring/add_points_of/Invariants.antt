use Rattle.std.proofs.Common.{◌≡◌, ◌++◌, flat_map, map}
use Rattle.cdi_differences.specs.{Holds.shown_line, Wiring.point_lines, Wiring.point_lines_in}
use Rattle.cdi_differences.proofs.wiring.add_points_of.Given as goal

abbrev pub invariant-loop-mention : goal.invariant-loop-mention
invariant-loop-mention g l =
    record {
      lines : map shown_line l.lines.items ++ flat_map (point_lines_in l.initial.container.decls l.owner) l.mention-iterator
          ≡ map shown_line l.initial.lines.items ++ point_lines l.initial.container.decls l.owner;
      decls : l.container.decls ≡ l.initial.container.decls;
      book : l.container.book ≡ l.initial.container.book;
    }
