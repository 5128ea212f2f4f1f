-- Which declarations ask for a bean of a type, or for the observer methods of an event of it, with some uses of qualifiers.
use Rattle.std.specs.Prelude.{ℕ, Bool, false, ◌&&◌, List}
use Rattle.std.specs.List.{list_any}
use Rattle.std.specs.Str.{bytes_eq}
use Rattle.std.specs.Cmp.Lexicographic.{pointwise}
use Rattle.cdi_model.specs.Mentions.{mentions, Mention, EventOf, PointOf}
use Rattle.cdi_model.specs.SameUse.{same_qual}
use Rattle.cdi_model.specs.declared.decl.Decl.{Decl}
use Rattle.cdi_model.specs.declared.decl.EventDecl.{EventDecl}
use Rattle.cdi_model.specs.declared.decl.PointDecl.{PointDecl}
use Rattle.cdi_model.specs.declared.quals.Qual.{Qual}
use Rattle.cdi_effective.specs.Qualifiers.{required}
use Rattle.cdi_index.specs.declared.asked.Question.{Question}
use Rattle.cdi_index.specs.declared.asked.Question.TheVariants as questions

-- a point asks for the type with these uses, as they are written
abbrev pub point_asks : List ℕ → List Qual → PointDecl → Bool
point_asks t us point = bytes_eq t point.required_type && pointwise same_qual us (required point.qualifiers)

-- an event of the type with these uses, as they are written, asks who observes it
abbrev pub event_asks : List ℕ → List Qual → EventDecl → Bool
event_asks t us event = bytes_eq t event.event_type && pointwise same_qual us event.qualifiers

-- what is named in one place is such a point, or such an event
abbrev pub asks_in : Question → List ℕ → List Qual → Mention → Bool
asks_in questions.Choice t us (PointOf place point) = point_asks t us point
asks_in questions.Event t us (EventOf event) = event_asks t us event
asks_in question t us other = false

-- a point of a declaration asks for it, or a body of it may fire it
unfoldable pub asks_for : Question → List ℕ → List Qual → Decl → Bool
asks_for question t us d = list_any (asks_in question t us) (mentions d)

-- a declaration asks for it
abbrev pub is_asked : List Decl → Question → List ℕ → List Qual → Bool
is_asked ds question t us = list_any (asks_for question t us) ds
