use Rattle.cdi_staging.proofs.Common.{◌≡◌, ℕ, ◌++◌, Some, flat_map, Decl, names_in, kind_of, name_of_decl, find_decl, slice_get}
use Rattle.cdi_staging.proofs.names.names_of.Given as goal

abbrev pub invariant-loop-decl : goal.invariant-loop-decl
invariant-loop-decl g l = record {
  declared : (k : ℕ) (d : Decl) → slice_get l.decl-iterator k ≡ Some d
      → find_decl (kind_of d) (name_of_decl d) (g.V.View.list l.view) ≡ Some d;
  names : l.list.items ++ flat_map (names_in (g.V.View.list l.view)) l.decl-iterator
      ≡ flat_map (names_in (g.V.View.list l.view)) (g.V.View.list l.view);
}
