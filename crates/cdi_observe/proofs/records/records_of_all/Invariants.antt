use Rattle.cdi_observe.proofs.Common.{◌≡◌, ℕ, ◌++◌, map, Some, find_decl, Decl, kind_of, name_of_decl, slice_get, entries, flat_map}
use Rattle.cdi_observe.proofs.records.records_of_all.Given as goal

abbrev pub invariant-loop-decl : goal.invariant-loop-decl
invariant-loop-decl g l = record {
  declared : (k : ℕ) (d : Decl) → slice_get l.decl-iterator k ≡ Some d
      → find_decl (kind_of d) (name_of_decl d) (g.V.View.list l.view) ≡ Some d;
  beans : map (λ bean. bean.now) l.list.items ++ flat_map (entries (g.V.View.list l.view)) l.decl-iterator
      ≡ flat_map (entries (g.V.View.list l.view)) (g.V.View.list l.view);
}
