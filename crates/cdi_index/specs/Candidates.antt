-- The beans among which a choice is made first.
use Rattle.std.specs.Prelude.{◌≡◌, ℕ, List, filter, map, ◌&&◌}
use Rattle.cdi_model.specs.declared.decl.Decl.{Decl}
use Rattle.cdi_match.specs.Chain.{has}
use Rattle.cdi_effective.specs.Beans.{beans}
use Rattle.cdi_index.specs.declared.index.Candidates.{Candidates}
use Rattle.cdi_index.specs.declared.index.Candidates.TheVariants.{All, Alternatives}
use Rattle.cdi_index.specs.Made.{serves_as_alternative}

-- they are all of the type, or the alternatives among these
abbrev pub AreFirst : List Decl → List ℕ → Candidates → Type 0
AreFirst ds t (All list) = map (λ b. b.now) list.items ≡ filter (λ b. has b.types t) (beans ds)
AreFirst ds t (Alternatives list) = map (λ b. b.now) list.items ≡ filter (λ b. serves_as_alternative b && has b.types t) (beans ds)
