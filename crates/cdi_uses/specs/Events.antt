-- The texts of events: a type, and uses of qualifiers, each behind one space.
use Rattle.std.specs.Prelude.{◌≡◌, ◌≢◌, ℕ, Bool, true, false, not, ◌&&◌, ◌||◌, List, [], ◌∷◌, map, codes}
use Rattle.std.specs.List.{AllByRecursion, join_with_byte, list_all, list_any}
use Rattle.std.specs.Str.{bytes_eq}
use Rattle.cdi_model.specs.Bytes.{space}
use Rattle.cdi_model.specs.EventText.{text_of_event}
use Rattle.cdi_model.specs.Grammar.{is_name}
use Rattle.cdi_model.specs.Quals.{AreInOrder}
use Rattle.cdi_model.specs.declared.decl.EventDecl.{EventDecl}
use Rattle.cdi_model.specs.declared.quals.Qual.{Qual}
use Rattle.cdi_uses.specs.Meaning.{CanBeSpelled, SpellsUse}
use Rattle.cdi_uses.specs.Pieces.{cut, pieces}
use Rattle.cdi_uses.specs.Twice.{has_twice}
use Rattle.cdi_uses.specs.Uses.{is_use, use_name, repeats_member, quals_from}

-- ---- what it means to be an event text

-- a use that an event may have: `Default` is none (profile)
abbrev pub SpellsEventUse : List ℕ → Type 0
SpellsEventUse text = SpellsUse text × (text ≢ codes "Default")

-- TYPE USE USE (CDI 4.0, Event types and qualifier types; the text: profile)
pub record SpellsEvent (text : List ℕ) : Type 0 where
  pub event_type : List ℕ
  pub uses : List (List ℕ)
  pub grammar : is_name event_type ≡ true
  pub each : AllByRecursion SpellsEventUse uses
  pub joined : text ≡ join_with_byte space (event_type ∷ uses)

-- ---- how it is found, and what it says

abbrev pub is_event_use : List ℕ → Bool
is_event_use text = is_use text && not (bytes_eq text (codes "Default"))

-- what stands before the first space
abbrev pub type_in : List ℕ → List ℕ
type_in text = (cut space text).0

-- the parts behind it, which spaces part
abbrev pub uses_in : List ℕ → List (List ℕ)
uses_in text = pieces space (cut space text).1

abbrev pub is_event : List ℕ → Bool
is_event text = is_name (type_in text) && list_all is_event_use (uses_in text)

-- the name of a qualifier stands twice, or a use writes a member twice
abbrev pub event_repeats : List ℕ → Bool
event_repeats text = has_twice (map use_name (uses_in text)) || list_any repeats_member (uses_in text)

-- the type, and the uses in the order of their names
abbrev pub event_of : List ℕ → EventDecl
event_of text = record { event_type = type_in text; qualifiers = quals_from [] (uses_in text) }

-- ---- what is read back

-- a use that a text can spell, and not of `Default`
abbrev pub IsOfEvent : Qual → Type 0
IsOfEvent u = CanBeSpelled u × (u.name ≢ codes "Default")

-- an event that a text can spell
pub record CanBeFired (e : EventDecl) : Type 0 where
  pub event_type : is_name e.event_type ≡ true
  pub uses : AllByRecursion IsOfEvent e.qualifiers
  pub order : AreInOrder e.qualifiers

-- the text is one of an event, which repeats nothing, and says the event
pub record ReadsAs (text : List ℕ) (e : EventDecl) : Type 0 where
  pub grammar : is_event text ≡ true
  pub once : event_repeats text ≡ false
  pub says : event_of text ≡ e

-- The text of an event is read back as it.
abbrev pub EventsReadBack : Type 0
EventsReadBack = (e : EventDecl) → CanBeFired e → ReadsAs (text_of_event e) e
