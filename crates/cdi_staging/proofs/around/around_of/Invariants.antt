use Rattle.cdi_staging.proofs.Common.{◌≡◌, true, ◌++◌, map, flat_map, are_answerable, key_of_point, around_in, around_of, targets, lent_in}
use Rattle.cdi_staging.proofs.around.around_of.Given as goal

abbrev pub invariant-loop-decl : goal.invariant-loop-decl
invariant-loop-decl g l = record {
  answerable : are_answerable (g.V.View.kept l.view) (map key_of_point (flat_map (λ i. i.points) (lent_in l.decl-iterator.rest.items)))
      ≡ true;
  around : map around_in l.list.items ++ map (λ i. (i, targets (g.V.View.list l.view) i.points)) (lent_in l.decl-iterator.rest.items)
      ≡ around_of (g.V.View.list l.view);
}
