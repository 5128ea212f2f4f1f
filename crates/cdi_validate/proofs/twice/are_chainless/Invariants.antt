use Rattle.cdi_validate.proofs.Common.{◌≡◌, map, is_chainless, drop, list_all}
use Rattle.cdi_validate.proofs.twice.are_chainless.Given as goal

abbrev pub invariant-loop-decl : goal.invariant-loop-decl
invariant-loop-decl g l =
    list_all (is_chainless (g.V.View.list l.view)) (map (λ d. d.now) (drop l.decl-index l.decls))
    ≡ list_all (is_chainless (g.V.View.list l.view)) (map (λ d. d.now) l.decls)
