-- What a way into a text leads to, and where a text is refused.
use Rattle.std.specs.Prelude.{◌≡◌, ◌⊎◌, ◌≤◌, ℕ, Bool, true, ◌-◌, codes, List, [], ◌∷◌, length, take, Option, Some, None}
use Rattle.std.specs.Prelude.{option_map, option_and_then, is_some, IfSome, not, ◌&&◌, if◌then◌else◌, String, string_bytes, Vec}
use Rattle.std.specs.Option.{option_or}
use Rattle.std.specs.declared.alloc.Global.{Global}
use Rattle.toml.specs.Data.{Data, array, table, Items, Members, get_member, get_item}
use Rattle.toml.specs.Text.{are_tables}
use Rattle.cdi_model.specs.declared.refusal.Refusal.{Refusal}
use Rattle.cdi_model.specs.declared.refusal.Refusal.TheVariants as refusals
use Rattle.cdi_text.specs.declared.schema.Schema.{Schema}
use Rattle.cdi_text.specs.declared.schema.Schema.TheVariants as schemas
use Rattle.cdi_text.specs.declared.schema.Item.{Item}
use Rattle.cdi_text.specs.declared.schema.Item.TheVariants.{Table}
use Rattle.cdi_text.specs.declared.schema.Shape.{Shape}
use Rattle.cdi_text.specs.declared.schema.Shape.TheVariants.{One, Many}
use Rattle.cdi_text.specs.declared.conditions.Condition.{Condition}
use Rattle.cdi_text.specs.declared.conditions.Condition.TheVariants.{MissingKey, Twice}
use Rattle.cdi_text.specs.declared.steps.Step.{Step}
use Rattle.cdi_text.specs.declared.steps.Step.TheVariants.{Key, Entry}
use Rattle.cdi_text.specs.Schema.{Row, rows, shape_of}
use Rattle.cdi_text.specs.Conditions.{refusal_of, value_has, is_required}
use Rattle.cdi_text.specs.Meaning.{HasKey}
use Rattle.cdi_text.specs.Params.{IsSuchMethod}
use Rattle.cdi_text.specs.Reading.{kind_in, schema_of, tree_of}
use Rattle.cdi_text.specs.KeyLines.{line_at, line_of_key}

-- ---- ways

-- the key is required and absent, and the way ends at it
abbrev pub EndsAtMissing : Condition → Schema → Members → List ℕ → List Step → Type 0
EndsAtMissing condition schema ms key way = (condition ≡ MissingKey) × (is_required (rows schema) key ≡ true) × (get_member key ms ≡ None)
    × (way ≡ [])

-- the key and the way lead to the params of a producer or an observer of a bean, of which one has the name of a point
abbrev pub EndsAtParams : Condition → Schema → Members → List ℕ → List Step → Type 0
EndsAtParams condition schema bean key way = (index : ℕ) × (params : String Global) × (condition ≡ Twice) × (schema ≡ schemas.Bean)
    × (way ≡ Entry index ∷ Key params ∷ []) × (string_bytes params ≡ codes "params")
    × ((key ≡ codes "producers") ⊎ (key ≡ codes "observers")) × IsSuchMethod key bean index

-- The way leads from a value to a place of which the condition holds: to a value by itself, to a required key that is
-- absent, or to params with the name of a point. It goes by a key into a table where its row holds a table, and by a
-- number to an entry of a list, and on from there where all entries are tables.
abbrev pub LeadsTo : Condition → Option Shape → Data → List Step → Type 0
LeadsTo condition shape value [] = value_has condition shape value ≡ true
LeadsTo condition shape value (Key key ∷ way) = (schema : Schema) × (ms : Members)
    × (shape ≡ Some (One (Table schema))) × (value ≡ table ms)
    × (EndsAtMissing condition schema ms (string_bytes key) way
    ⊎ (EndsAtParams condition schema ms (string_bytes key) way
    ⊎ ((next : Data) × HasKey (string_bytes key) next ms × LeadsTo condition (shape_of schema (string_bytes key)) next way)))
LeadsTo condition shape value (Entry index ∷ way) = (i : Item) × (ds : Items) × (next : Data)
    × (shape ≡ Some (Many i)) × (value ≡ array ds) × (get_item index ds ≡ Some next) × ((way ≡ []) ⊎ (are_tables ds ≡ true))
    × LeadsTo condition (Some (One i)) next way

-- the way leads so from a table
abbrev pub LeadsFrom : Condition → Schema → Members → List Step → Type 0
LeadsFrom condition schema ms way = LeadsTo condition (Some (One (Table schema))) (table ms) way

-- the way is to the key `kind`
abbrev pub IsToKind : List Step → Type 0
IsToKind way = (key : String Global) × (way ≡ Key key ∷ []) × (string_bytes key ≡ codes "kind")

-- the way leads to what is refused: the text as a whole, its kind, or a place of which the refusal's condition holds
abbrev pub IsWayTo : Refusal → List ℕ → List Step → Type 0
IsWayTo refusals.TooLong text way = way ≡ []
IsWayTo refusals.NotToml text way = way ≡ []
IsWayTo refusals.UnknownKind text way = IsToKind way
IsWayTo refusal text way = (condition : Condition) × (schema : Schema) × (ms : Members)
    × (refusal ≡ refusal_of condition) × (tree_of text ≡ Some ms) × (option_map schema_of (kind_in ms) ≡ Some schema)
    × LeadsFrom condition schema ms way

-- ---- lines

-- the part of a way that stands in the text: a key that is missing does not
abbrev pub present_part : Refusal → List Step → List Step
present_part refusals.MissingKey way = take (length way - 1) way
present_part _ way = way

-- the last key of a way
abbrev pub last_key : List Step → Option (List ℕ)
last_key [] = None
last_key (Key key ∷ way) = option_or (last_key way) (Some (string_bytes key))
last_key (Entry index ∷ way) = last_key way

-- the line of the last key of a way, where it stands in the text just once
abbrev pub line_of_way : List ℕ → List Step → Option ℕ
line_of_way text way = option_and_then (line_of_key text) (last_key way)

-- the line of what is refused: of some place of a text that is not TOML, or of the way
abbrev pub IsLineOf : Refusal → List ℕ → List Step → Option ℕ → Type 0
IsLineOf refusals.NotToml text way line = (place : ℕ) × (place ≤ length text) × (line ≡ Some (line_at text place))
IsLineOf refusal text way line = line ≡ line_of_way text (present_part refusal way)

-- ---- how a way is found

-- there is a way exactly where a test says so, and it leads to a place of which the condition holds
abbrev pub Finds : Condition → Option Shape → Data → Bool → Option (Vec Step Global) → Type 0
Finds condition shape value test found = (is_some found ≡ test) × IfSome found (λ way. LeadsTo condition shape value way.items)

abbrev pub FindsFrom : Condition → Schema → Members → Bool → Option (Vec Step Global) → Type 0
FindsFrom condition schema ms test found = Finds condition (Some (One (Table schema))) (table ms) test found

-- the way has one step more, to a key
abbrev pub IsByKey : List ℕ → List Step → List Step → Type 0
IsByKey bytes way longer = (key : String Global) × (string_bytes key ≡ bytes) × (longer ≡ Key key ∷ way)

-- the way goes by a key and a number to `params`
abbrev pub IsToParams : List ℕ → ℕ → List Step → Type 0
IsToParams bytes index way = (key : String Global) × (params : String Global) × (string_bytes key ≡ bytes) × (string_bytes
    params ≡ codes "params")
    × (way ≡ Key key ∷ Entry index ∷ Key params ∷ [])

-- the entry at the number has the condition by itself
abbrev pub IsBadEntry : Condition → Item → Items → ℕ → Type 0
IsBadEntry condition i ds index = (next : Data) × (get_item index ds ≡ Some next) × (value_has condition (Some (One i)) next ≡ true)

-- the first key that a table must have by some rows, and lacks
abbrev pub first_missing : List Row → Members → Option (List ℕ)
first_missing [] ms = None
first_missing (row ∷ rows) ms = if row.is_required && not (is_some (get_member row.key ms)) then Some row.key else first_missing rows ms
