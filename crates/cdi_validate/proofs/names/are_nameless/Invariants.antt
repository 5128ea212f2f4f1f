use Rattle.cdi_validate.proofs.Common.{◌≡◌, map, drop, list_all, is_nameless}
use Rattle.cdi_validate.proofs.names.are_nameless.Given as goal

abbrev pub invariant-loop-decl : goal.invariant-loop-decl
invariant-loop-decl g l =
    list_all (is_nameless (g.V.View.list l.view)) (map (λ d. d.now) (drop l.decl-index l.decls))
    ≡ list_all (is_nameless (g.V.View.list l.view)) (map (λ d. d.now) l.decls)
