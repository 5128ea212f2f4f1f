-- The types of which choices may be other ones after edits.
use Rattle.std.specs.Prelude.{ℕ, Bool, List, [], ◌∷◌, ◌++◌, flat_map}
use Rattle.std.specs.List.{list_any}
use Rattle.std.specs.Str.{bytes_eq}
use Rattle.cdi_model.specs.declared.decl.Decl.{Decl}
use Rattle.cdi_model.specs.declared.decl.Decl.TheVariants as decls
use Rattle.cdi_model.specs.declared.decl.Kind.{Kind}
use Rattle.cdi_model.specs.declared.decl.Kind.TheVariants as kinds
use Rattle.cdi_model.specs.declared.key.DeclKey.{DeclKey}
use Rattle.cdi_model.specs.Mentions.{mentions, Mention, PointOf}
use Rattle.cdi_effective.specs.Records.{records_in}
use Rattle.cdi_effective.specs.declared.records.Effective.{Effective}
use Rattle.cdi_live.specs.Users.{users_of_edited}

-- the name is among these
abbrev pub holds : List (List ℕ) → List ℕ → Bool
holds names t = list_any (λ n. bytes_eq n t) names

abbrev pub types_of_records : List Effective → List (List ℕ)
types_of_records records = flat_map (λ r. r.types) records

-- the type for which a point asks that is named in a place
abbrev pub asked_in : Mention → List (List ℕ)
asked_in (PointOf place point) = point.required_type ∷ []
asked_in other = []

-- the types for which the points of a declaration ask
unfoldable pub asked_types : Decl → List (List ℕ)
asked_types d = flat_map asked_in (mentions d)

-- ---- by qualifiers

-- the types of the beans of a declaration
abbrev pub types_given : List Decl → Decl → List (List ℕ)
types_given ds (decls.Bean b) = types_of_records (records_in ds b.name)
types_given ds other = []

-- those, and the types for which its points ask
abbrev pub concerned : List Decl → Decl → List (List ℕ)
concerned ds d = types_given ds d ++ asked_types d

-- ---- by records

-- the types of the beans of a declaration, before and after
abbrev pub types_of_kind : List Decl → List Decl → Kind → List ℕ → List (List ℕ)
types_of_kind ds es kinds.Bean name = types_of_records (records_in ds name) ++ types_of_records (records_in es name)
types_of_kind ds es other name = []

abbrev pub types_of_key : List Decl → List Decl → DeclKey → List (List ℕ)
types_of_key ds es k = types_of_kind ds es k.kind k.name

-- the types of which choices may be other ones
abbrev pub suspects : List Decl → List Decl → List DeclKey → List DeclKey → List (List ℕ)
suspects ds es edited affected = flat_map (types_of_key ds es) affected ++ flat_map (concerned ds) (users_of_edited ds edited)
