use Rattle.cdi_validate.proofs.Common.{◌≡◌, List, ◌++◌, flat_map, Decl, entries, enabled_name, AreLed, AreNames}
use Rattle.cdi_validate.proofs.names.leaders_of_names.Given as goal

abbrev pub invariant-loop-decl : goal.invariant-loop-decl
invariant-loop-decl g l = (es : List Decl) × (es ++ l.decl-iterator ≡ g.V.View.list l.view)
    × AreLed l.leaders (flat_map (entries (g.V.View.list l.view)) es)
    × AreNames (flat_map enabled_name (flat_map (entries (g.V.View.list l.view)) es))
