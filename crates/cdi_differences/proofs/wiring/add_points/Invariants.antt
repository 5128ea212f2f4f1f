use Rattle.std.proofs.Common.{◌≡◌, ◌++◌, flat_map, map}
use Rattle.cdi_differences.specs.{Holds.shown_line, Wiring.point_lines}
use Rattle.cdi_differences.proofs.wiring.add_points.Given as goal

abbrev pub invariant-loop-owner : goal.invariant-loop-owner
invariant-loop-owner g l =
    record {
      lines : map shown_line l.lines.items ++ flat_map (point_lines l.decls) l.owner-iterator
          ≡ map shown_line l.initial.lines.items ++ flat_map (point_lines l.decls) l.decls;
      decls : l.container.decls ≡ l.initial.container.decls;
      book : l.container.book ≡ l.initial.container.book;
    }
