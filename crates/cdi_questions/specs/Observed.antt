-- The types of an event by which its observer methods are found.
use Rattle.std.specs.Prelude.{ℕ, List, filter}
use Rattle.cdi_index.specs.Under.{is_observed}
use Rattle.cdi_match.specs.Types.{types_of}
use Rattle.cdi_model.specs.declared.decl.Decl.{Decl}

-- those that some observer method observes, in order
abbrev pub observed_types : List Decl → List ℕ → List (List ℕ)
observed_types ds t = filter (is_observed ds) (types_of ds t)
