-- The wiring of a deployment as texts: what its declarations ask for, each with the answer.
use Rattle.std.specs.Prelude.{ℕ, List, [], ◌∷◌, ◌++◌, codes, flat_map, fold, length, map, ◌==◌, if◌then◌else◌, Result, Ok, Err}
use Rattle.cdi_model.specs.Bytes.{space}
use Rattle.cdi_model.specs.Decl.{kind_of, name_of_decl, word_of_kind}
use Rattle.cdi_model.specs.EventText.{text_of_event}
use Rattle.cdi_model.specs.Mentions.{Mention, EventOf, PointOf, mentions}
use Rattle.cdi_model.specs.PlaceText.{text_of_place}
use Rattle.cdi_model.specs.declared.decl.Decl.{Decl}
use Rattle.cdi_model.specs.declared.decl.Decl.TheVariants as decls
use Rattle.cdi_model.specs.declared.decl.EventDecl.{EventDecl}
use Rattle.cdi_model.specs.declared.decl.PointDecl.{PointDecl}
use Rattle.cdi_model.specs.declared.mention.PointPlace.{PointPlace}
use Rattle.cdi_model.specs.declared.place.BeanPlace.{BeanPlace}
use Rattle.cdi_model.specs.declared.refusal.Refusal.{Refusal}
use Rattle.cdi_bodies.specs.Book.{Promised}
use Rattle.cdi_effective.specs.Beans.{beans}
use Rattle.cdi_resolve.specs.Choices.{chosen}
use Rattle.cdi_resolve.specs.ChoiceText.{text_of_choice}
use Rattle.cdi_intercept.specs.Chains.{chain_of}
use Rattle.cdi_intercept.specs.Sets.{places_of}
use Rattle.cdi_observe.specs.Observers.{notified}
use Rattle.cdi_observe.specs.ObserverText.{text_of_observer}
use Rattle.cdi_observe.specs.declared.observers.ObserverId.{ObserverId}
use Rattle.cdi_faults.specs.FaultText.{text_of_fault, text_of_point}
use Rattle.cdi_faults.specs.declared.fault.Fault.{Fault}
use Rattle.cdi_validate.specs.Faults.{faults}

-- what is asked for, and the answer
abbrev pub Shown : Type 0
Shown = List ℕ × List ℕ

-- a word more, after a space where it is not the first
abbrev pub joined : List ℕ → List ℕ → List ℕ
joined [] word = word
joined (c ∷ cs) word = (c ∷ cs) ++ space ∷ word

-- ---- injection points

-- a point is named as a fault names it
abbrev pub point_line : List Decl → Decl → PointPlace → PointDecl → Shown
point_line ds owner place p = (
  codes "point " ++ word_of_kind (kind_of owner) ++ codes " " ++ name_of_decl owner ++ codes " " ++ text_of_point place p.name,
  text_of_choice (chosen ds (beans ds) p.required_type p.qualifiers),
)

abbrev pub point_lines_in : List Decl → Decl → Mention → List Shown
point_lines_in ds owner (PointOf place p) = point_line ds owner place p ∷ []
point_lines_in ds owner other = []

-- the points of a declaration
abbrev pub point_lines : List Decl → Decl → List Shown
point_lines ds owner = flat_map (point_lines_in ds owner) (mentions owner)

-- ---- interceptors

abbrev pub text_of_names : List (List ℕ) → List ℕ
text_of_names names = fold joined [] names

-- where some are around the place
abbrev pub lines_of_chain : List ℕ → BeanPlace → List (List ℕ) → List Shown
lines_of_chain bean place names = if length names == 0 then []
    else (codes "chain " ++ bean ++ codes " " ++ text_of_place place, text_of_names names) ∷ []

-- nothing is there to ask for where there is no such place
abbrev pub lines_of_answer : List ℕ → BeanPlace → Result (List (List ℕ)) Refusal → List Shown
lines_of_answer bean place (Ok names) = lines_of_chain bean place names
lines_of_answer bean place (Err refusal) = []

abbrev pub chain_lines_at : List Decl → List ℕ → BeanPlace → List Shown
chain_lines_at ds bean place = lines_of_answer bean place (chain_of ds bean place)

-- the places of a bean
abbrev pub chain_lines : List Decl → Decl → List Shown
chain_lines ds (decls.Bean bean) = flat_map (chain_lines_at ds bean.name) (places_of bean)
chain_lines ds d = []

-- ---- events

abbrev pub text_of_observers : List ObserverId → List ℕ
text_of_observers ids = fold (λ text id. joined text (text_of_observer id)) [] ids

-- where it has observer methods
abbrev pub lines_of_event : EventDecl → List ObserverId → List Shown
lines_of_event e ids = if length ids == 0 then [] else (codes "observers " ++ text_of_event e, text_of_observers ids) ∷ []

abbrev pub observer_lines_of : List Decl → EventDecl → List Shown
observer_lines_of ds e = lines_of_event e (notified ds (beans ds) e.event_type e.qualifiers)

abbrev pub observer_lines_in : List Decl → Mention → List Shown
observer_lines_in ds (EventOf e) = observer_lines_of ds e
observer_lines_in ds other = []

-- the events that bodies of a declaration may fire
abbrev pub observer_lines : List Decl → Decl → List Shown
observer_lines ds owner = flat_map (observer_lines_in ds) (mentions owner)

-- ---- all

abbrev pub fault_line : Fault → Shown
fault_line fault = (text_of_fault fault, codes "fault")

-- what declarations ask for, with the answers
unfoldable pub answer_lines : List Decl → List Shown
answer_lines ds = flat_map (point_lines ds) ds ++ flat_map (chain_lines ds) ds ++ flat_map (observer_lines ds) ds

unfoldable pub wiring : List Decl → List Promised → List Shown
wiring ds book = answer_lines ds ++ map fault_line (faults ds book)
