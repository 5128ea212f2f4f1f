use Rattle.std.proofs.Common.{◌≡◌, ◌++◌, flat_map, map}
use Rattle.cdi_differences.specs.{Holds.shown_line, Wiring.observer_lines}
use Rattle.cdi_differences.proofs.wiring.add_observers.Given as goal

abbrev pub invariant-loop-owner : goal.invariant-loop-owner
invariant-loop-owner g l =
    record {
      lines : map shown_line l.lines.items ++ flat_map (observer_lines l.decls) l.owner-iterator
          ≡ map shown_line l.initial.lines.items ++ flat_map (observer_lines l.decls) l.decls;
      decls : l.container.decls ≡ l.initial.container.decls;
      book : l.container.book ≡ l.initial.container.book;
    }
