use Rattle.cdi_validate.proofs.Common.{◌≡◌, List, ◌++◌, flat_map, ℕ, Decl}
use Rattle.cdi_validate.specs.Surrounded.{number_around, numbers_at}
use Rattle.cdi_validate.proofs.circles.number_all.Given as goal

abbrev pub invariant-loop-decl : goal.invariant-loop-decl
invariant-loop-decl g l = record {
  gone : (es : List Decl) × (es ++ l.decl-iterator ≡ g.V.View.list l.view);
  numbers : (name : List ℕ) → numbers_at l.by_interceptor name
      ++ flat_map (number_around l.dependents.numbers (g.V.View.list l.view) name) l.decl-iterator
      ≡ flat_map (number_around l.dependents.numbers (g.V.View.list l.view) name) (g.V.View.list l.view);
}
