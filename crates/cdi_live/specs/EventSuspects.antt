-- The types of events that may see something else after edits.
use Rattle.std.specs.Prelude.{ℕ, Bool, ◌&&◌, ◌||◌, List, [], ◌∷◌, ◌++◌, map, flat_map}
use Rattle.std.specs.List.{list_any}
use Rattle.std.specs.Option.{option_map_or}
use Rattle.std.specs.Str.{bytes_eq}
use Rattle.cdi_model.specs.declared.decl.Decl.{Decl}
use Rattle.cdi_model.specs.declared.decl.Kind.TheVariants as kinds
use Rattle.cdi_model.specs.declared.decl.ObserverDecl.{ObserverDecl}
use Rattle.cdi_model.specs.declared.key.DeclKey.{DeclKey}
use Rattle.cdi_model.specs.DeclKey.{key_at}
use Rattle.cdi_model.specs.DeclList.{find_decl}
use Rattle.cdi_model.specs.Edits.{is_among}
use Rattle.cdi_model.specs.Mentions.{mentions, Mention, EventOf}
use Rattle.cdi_match.specs.Types.{object}
use Rattle.cdi_index.specs.Made.{made_of, reads}
use Rattle.cdi_seen.specs.Words.{types_observed}
use Rattle.cdi_live.specs.Suspects.{holds}
use Rattle.cdi_live.specs.Users.{users_of_edited}

-- ---- what is observed

-- the types that some observer methods observe
abbrev pub event_types : List ObserverDecl → List (List ℕ)
event_types methods = map (λ o. o.event_type) methods

-- those of the declaration of a key
abbrev pub observed_of : List Decl → DeclKey → List (List ℕ)
observed_of ds k = option_map_or types_observed (find_decl k.kind k.name ds) []

-- before and after
abbrev pub observed_by_key : List Decl → List Decl → DeclKey → List (List ℕ)
observed_by_key ds es k = observed_of ds k ++ observed_of es k

-- ---- what is fired

-- the type of the event that is named in a place
abbrev pub fired_in : Mention → List (List ℕ)
fired_in (EventOf event) = event.event_type ∷ []
fired_in other = []

-- the types of the events that bodies of a declaration may fire
unfoldable pub fired_types : Decl → List (List ℕ)
fired_types d = flat_map fired_in (mentions d)

-- a declaration that uses an edited qualifier may fire events of the type
abbrev pub is_fired : List Decl → List DeclKey → List ℕ → Bool
is_fired ds edited t = holds (flat_map fired_types (users_of_edited ds edited)) t

-- ---- which events have a type

-- t is x, or a declared type that has x, or a kept one where x is what all have
abbrev pub may_have : List Decl → List (List ℕ) → List ℕ → List ℕ → Bool
may_have ds kept x t = bytes_eq x t
    || (reads (made_of ds (key_at kinds.Type t)) (key_at kinds.Type x) || (bytes_eq x object && holds kept t))

-- t may have one of these
abbrev pub may_have_one : List Decl → List (List ℕ) → List (List ℕ) → List ℕ → Bool
may_have_one ds kept names t = list_any (λ x. may_have ds kept x t) names

-- the types that are observed by what edits concern
abbrev pub concerned_types : List Decl → List Decl → List DeclKey → List DeclKey → List (List ℕ)
concerned_types ds es edited affected =
    flat_map (observed_by_key ds es) affected ++ flat_map types_observed (users_of_edited ds edited)

-- events of the type may see something else
abbrev pub is_suspect : List Decl → List Decl → List DeclKey → List DeclKey → List (List ℕ) → List ℕ → Bool
is_suspect ds es edited affected kept t = (is_among affected (key_at kinds.Type t) || is_fired ds edited t)
    || may_have_one ds kept (concerned_types ds es edited affected) t
