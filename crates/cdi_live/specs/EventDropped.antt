-- The kept events that edited declarations might fire, and that no body may fire after the edits.
use Rattle.std.specs.Prelude.{ℕ, Bool, false, not, ◌&&◌, List, is_some}
use Rattle.std.specs.List.{list_any}
use Rattle.std.specs.Option.{option_map_or}
use Rattle.std.specs.Str.{bytes_eq}
use Rattle.cdi_model.specs.SameUse.{same_quals}
use Rattle.cdi_model.specs.declared.decl.Decl.{Decl}
use Rattle.cdi_model.specs.declared.decl.EventDecl.{EventDecl}
use Rattle.cdi_model.specs.declared.key.DeclKey.{DeclKey}
use Rattle.cdi_model.specs.declared.quals.Qual.{Qual}
use Rattle.cdi_model.specs.DeclList.{find_decl}
use Rattle.cdi_model.specs.Mentions.{mentions, Mention, EventOf}
use Rattle.cdi_index.specs.declared.asked.Question.TheVariants as questions
use Rattle.cdi_index.specs.Asked.{is_asked}
use Rattle.cdi_memo.specs.Answers.{answer}
use Rattle.cdi_live.specs.EventCompared.{Events}
use Rattle.cdi_live.specs.declared.event_dropped.EventWants.{EventWants}

-- the event is kept
abbrev pub is_kept : Events → List ℕ → List Qual → Bool
is_kept m t us = is_some (answer same_quals m t us)

-- which events are kept, and not fired after the edits
abbrev pub Drops : Type 0
Drops = List ℕ → List Qual → Bool

abbrev pub drops_before : EventWants → Drops
drops_before w t us = is_kept w.events.now t us && not (is_asked w.sides.now.next.now questions.Event t us)

-- an event that may be fired is this one, which is dropped
abbrev pub is_dropped_event : Drops → EventDecl → List ℕ → List Qual → Bool
is_dropped_event drops event t us = (bytes_eq t event.event_type && same_quals us event.qualifiers)
    && drops event.event_type event.qualifiers

abbrev pub is_dropped_in : Drops → List ℕ → List Qual → Mention → Bool
is_dropped_in drops t us (EventOf event) = is_dropped_event drops event t us
is_dropped_in drops t us other = false

-- a body of a declaration might fire it
unfoldable pub is_dropped_by : Drops → List ℕ → List Qual → Decl → Bool
is_dropped_by drops t us d = list_any (is_dropped_in drops t us) (mentions d)

-- one of that of a key might, before the edits
abbrev pub is_dropped_at : List Decl → Drops → List ℕ → List Qual → DeclKey → Bool
is_dropped_at ds drops t us k = option_map_or (is_dropped_by drops t us) (find_decl k.kind k.name ds) false
