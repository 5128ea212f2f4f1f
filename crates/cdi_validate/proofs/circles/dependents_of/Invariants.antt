use Rattle.cdi_validate.proofs.Common.{◌≡◌, List, ◌++◌, flat_map, Decl, dependents_by_text, entries, AreNamed}
use Rattle.cdi_validate.specs.Needed.{AreNumbered}
use Rattle.cdi_validate.proofs.circles.dependents_of.Given as goal

abbrev pub invariant-loop-decl : goal.invariant-loop-decl
invariant-loop-decl g l = (es : List Decl) × (es ++ l.decl-iterator ≡ g.V.View.list l.view)
    × AreNumbered (dependents_by_text (flat_map (entries (g.V.View.list l.view)) es)) l.dependents × AreNamed es
