use Rattle.cdi_validate.proofs.Common.{◌≡◌, List, ◌++◌, flat_map, Decl, length, entries, ◌+◌, enabled_name}
use Rattle.cdi_validate.proofs.names.have_names_at_most.Given as goal

abbrev pub invariant-loop-decl : goal.invariant-loop-decl
invariant-loop-decl g l = (es : List Decl) × (es ++ l.decl-iterator ≡ g.V.View.list l.view)
    × (length (flat_map enabled_name (flat_map (entries (g.V.View.list l.view)) es)) + l.left ≡ l.fn.most)
