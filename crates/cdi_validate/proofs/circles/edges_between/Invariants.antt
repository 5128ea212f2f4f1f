use Rattle.cdi_validate.proofs.Common.{◌≡◌, List, ◌++◌, flat_map, Decl, needs, needs_in}
use Rattle.cdi_validate.specs.Needed.{edges_of}
use Rattle.cdi_validate.proofs.circles.edges_between.Given as goal

abbrev pub invariant-loop-decl : goal.invariant-loop-decl
invariant-loop-decl g l = record {
  gone : (es : List Decl) × (es ++ l.decl-iterator ≡ g.V.View.list l.view);
  edges : l.edges.items ++ edges_of l.dependents.numbers (flat_map (needs_in (g.V.View.list l.view)) l.decl-iterator)
      ≡ edges_of l.dependents.numbers (needs (g.V.View.list l.view));
}
