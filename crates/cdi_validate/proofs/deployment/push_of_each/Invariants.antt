use Rattle.cdi_validate.proofs.Common.{◌≡◌, ◌++◌, flat_map, faults_of, map, ◌&&◌, list_any, take, key_of, same_key, has_faults}
use Rattle.indexmap.specs.IndexSet.{contains}
use Rattle.cdi_validate.proofs.deployment.push_of_each.Given as goal

abbrev pub invariant-loop-decl : goal.invariant-loop-decl
invariant-loop-decl g l = record {
  faults : l.faults.items ≡ l.fn.faults.items
      ++ flat_map (faults_of (g.V.View.list l.view) (g.B.Bodies.promises l.book)) (map (λ d. d.now) (take l.decl-index l.decls));
  keys : (k : _) → contains same_key l.keys k
      ≡ list_any (λ d. same_key (key_of d) k && has_faults (g.V.View.list l.view) (g.B.Bodies.promises l.book) d)
      (map (λ d. d.now) (take l.decl-index l.decls));
}
