use Rattle.cdi_validate.proofs.Common.{◌≡◌, List, ◌++◌, flat_map, Decl, filter, enabled_bean, AllZip, KeepsChain}
use Rattle.cdi_validate.proofs.twice.chains_of.Given as goal

abbrev pub invariant-loop-decl : goal.invariant-loop-decl
invariant-loop-decl g l = (es : List Decl) × (es ++ l.decl-iterator ≡ g.V.View.list l.view)
    × AllZip (KeepsChain (g.V.View.list l.view)) l.chains.items
    (filter (λ b. b.specializes) (flat_map (enabled_bean (g.V.View.list l.view)) es))
