use Rattle.cdi_staging.proofs.Common.{◌≡◌, ℕ, ◌++◌, Some, flat_map, Decl, staged_beans, kind_of, name_of_decl, find_decl, slice_get}
use Rattle.cdi_staging.proofs.stage.Stage.staged_beans.Given as goal

abbrev pub invariant-loop-decl : goal.invariant-loop-decl
invariant-loop-decl g l = record {
  declared : (k : ℕ) (d : Decl) → slice_get l.decl-iterator k ≡ Some d
      → find_decl (kind_of d) (name_of_decl d) (g.V.View.list l.self.view.now) ≡ Some d;
  beans : l.list.items ++ flat_map (staged_beans (g.V.View.list l.self.view.now) (g.B.Bodies.promises l.self.book.now)) l.decl-iterator
      ≡ flat_map (staged_beans (g.V.View.list l.self.view.now) (g.B.Bodies.promises l.self.book.now)) (g.V.View.list l.self.view.now);
}
