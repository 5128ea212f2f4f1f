use Rattle.cdi_validate.proofs.Common.{◌≡◌, ◌++◌, flat_map, true, map, point_named, need_in, are_answerable, key_of_point}
use Rattle.cdi_validate.specs.Needed.{edges_of}
use Rattle.cdi_validate.proofs.circles.add_needs_along.Given as goal

abbrev pub invariant-loop-mention : goal.invariant-loop-mention
invariant-loop-mention g l = record {
  answerable : are_answerable (g.V.View.kept l.view) (map key_of_point (flat_map point_named l.mention-iterator)) ≡ true;
  edges : l.edges.items
      ++ edges_of l.dependents.numbers (flat_map (need_in (g.V.View.list l.view) l.bean) l.mention-iterator)
      ≡ l.fn.edges.items ++ edges_of l.dependents.numbers (flat_map (need_in (g.V.View.list l.view) l.bean) l.fn.mentions);
}
