-- Lists of observer methods that events share.
use Rattle.std.specs.Prelude.{◌≡◌, ℕ, List}
use Rattle.std.specs.List.{AllByRecursion}
use Rattle.cdi_effective.specs.Beans.{beans}
use Rattle.cdi_live.specs.declared.event_lists.EventLists.{EventLists}
use Rattle.cdi_model.specs.declared.decl.Decl.{Decl}
use Rattle.cdi_model.specs.declared.quals.Qual.{Qual}
use Rattle.cdi_observe.specs.Observers.{notified}
use Rattle.cdi_observe.specs.declared.observers.ObserverId.{ObserverId}
use Rattle.cdi_questions.specs.Observed.{observed_types}

-- The ids are those that are notified of each event with these qualifiers of which just these types are observed.
abbrev pub IsRightFor : List Decl → List (List ℕ) → List Qual → List ObserverId → Type 0
IsRightFor ds types us ids = (t : List ℕ) → types ≡ observed_types ds t → ids ≡ notified ds (beans ds) t us

-- So it is with each list.
abbrev pub AreRightLists : List Decl → EventLists → Type 0
AreRightLists ds kept = AllByRecursion (λ list. IsRightFor ds list.observed.items list.quals list.ids) kept.lists.items
