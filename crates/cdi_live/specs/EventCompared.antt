-- Which kept events see something else after edits.
use Rattle.std.specs.Prelude.{◌≡◌, ℕ, Bool, ◌&&◌, List}
use Rattle.std.specs.List.{list_any}
use Rattle.std.specs.Str.{bytes_eq}
use Rattle.cdi_model.specs.SameUse.{same_quals}
use Rattle.cdi_model.specs.declared.decl.Decl.{Decl}
use Rattle.cdi_model.specs.declared.quals.Qual.{Qual}
use Rattle.cdi_effective.specs.Beans.{beans}
use Rattle.cdi_memo.specs.Answers.{parts_under, Answers}
use Rattle.cdi_observe.specs.declared.observers.ObserverId.{ObserverId}
use Rattle.cdi_observe.specs.Keys.{EventKey}
use Rattle.cdi_observe.specs.Observers.{observing}
use Rattle.cdi_questions.specs.Observed.{observed_types}
use Rattle.cdi_seen.specs.Touched.{is_touched, observers_alike}
use Rattle.cdi_live.specs.declared.event_compare.Compared.{Compared}

-- the observer methods that are kept of events
abbrev pub Events : Type 0
Events = Answers (List Qual) (List ObserverId)

-- an event of the type with one of these qualifiers is this one, and is touched
abbrev pub is_touched_among : List Decl → List Decl → List ℕ → List Qual → List (List Qual) → Bool
is_touched_among ds es t us parts = list_any (λ q. same_quals us q && is_touched ds es (EventKey t q)) parts

-- a kept event of one of the types is this one, and is touched
abbrev pub is_touched_of : List Decl → List Decl → Events → List (List ℕ) → List ℕ → List Qual → Bool
is_touched_of ds es m types t us = list_any (λ n. bytes_eq t n && is_touched_among ds es n us (parts_under m n)) types

-- events of the type see the same observer methods
abbrev pub see_same_observers : List Decl → List Decl → List ℕ → Bool
see_same_observers ds es t = observers_alike ds (observing ds (beans ds) t) es (observing es (beans es) t)

-- so it is for each type of which an event has just these that are observed, before and after
abbrev pub IsCompared : List Decl → List Decl → List (List ℕ) → List (List ℕ) → Bool → Type 0
IsCompared ds es before after is = (t : List ℕ) → before ≡ observed_types ds t → after ≡ observed_types es t → is ≡ see_same_observers ds es t

abbrev pub IsRightBetween : List Decl → List Decl → Compared → Type 0
IsRightBetween ds es compared = IsCompared ds es compared.before.items compared.after.items compared.is_same
