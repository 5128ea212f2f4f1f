-- Which beans others replace, and the records that these have.
use Rattle.std.specs.Prelude.{◌≡◌, ℕ, Bool, true, false, not, cond, ◌&&◌, ◌||◌, List, [], ◌∷◌, map, Option, Some, None, if◌then◌else◌}
use Rattle.std.specs.List.{list_any}
use Rattle.std.specs.Option.{option_map_or}
use Rattle.cdi_model.specs.declared.decl.Decl.{Decl}
use Rattle.cdi_model.specs.declared.decl.Kind.{Kind}
use Rattle.cdi_model.specs.declared.decl.Kind.TheVariants as kinds
use Rattle.cdi_model.specs.declared.key.DeclKey.{DeclKey}
use Rattle.cdi_model.specs.DeclKey.{key_at, same_key}
use Rattle.cdi_model.specs.Edits.{is_among}
use Rattle.cdi_effective.specs.Beans.{unless_replaced}
use Rattle.cdi_effective.specs.Specialized.{is_replaced}
use Rattle.cdi_effective.specs.declared.records.Effective.{Effective}
use Rattle.cdi_postings.specs.Listing.{Listing, under}
use Rattle.cdi_postings.specs.Words.{word_at}
use Rattle.cdi_postings.specs.declared.word.Reason.TheVariants as reasons
use Rattle.cdi_index.specs.declared.change.Change.{Change}
use Rattle.cdi_index.specs.declared.making.Given.{Given}
use Rattle.cdi_index.specs.declared.making.Given.TheVariants as given
use Rattle.cdi_index.specs.declared.making.Made.{Made}
use Rattle.cdi_index.specs.declared.prepare.Next.{Next}
use Rattle.indexmap.specs.IndexMap.{get}
use Rattle.cdi_index.specs.declared.replaced.Turn.{Turn}
use Rattle.cdi_index.specs.declared.shelf.Kept.{Kept}
use Rattle.cdi_index.specs.declared.shelf.Shelf.{Shelf}
use Rattle.cdi_index.specs.Kept.{kept_at, made_in, stored}
use Rattle.cdi_index.specs.Made.{made_of, replaces_in}

-- the key is that of a bean that is replaced by a bean of which this is made
abbrev pub replaces : Option Made → DeclKey → Bool
replaces made k = is_among (map (key_at kinds.Bean) (replaces_in made)) k

-- it is the key of a bean, and another replaces it
abbrev pub is_replaced_of : Kind → List ℕ → List Decl → Bool
is_replaced_of kinds.Bean name ds = is_replaced ds name
is_replaced_of other name ds = false

abbrev pub is_replaced_key : List Decl → DeclKey → Bool
is_replaced_key ds k = is_replaced_of k.kind k.name ds

-- the records of a bean that is replaced
abbrev pub disabled_in : Given → Option (List Effective)
disabled_in (given.Types types) = None
disabled_in (given.Records records) = Some (map (unless_replaced true) records)
disabled_in given.Nothing = None

abbrev pub disabled : Option Made → Option (List Effective)
disabled None = None
disabled (Some made) = disabled_in made.given

-- the records that are lent of a bean: these where it is replaced, and else those that were made
abbrev pub lent_in : Given → List Effective
lent_in (given.Types types) = []
lent_in (given.Records records) = records
lent_in given.Nothing = []

abbrev pub lent : Option (List Effective) → Option Made → List Effective
lent (Some records) made = records
lent None None = []
lent None (Some made) = lent_in made.given

abbrev pub replaced_records : List Decl → DeclKey → Option (List Effective)
replaced_records ds k = if is_replaced_key ds k then disabled (made_of ds k) else None

-- The records of each bean that is replaced are these, and there are no others.
abbrev pub AreReplaced : List Decl → (DeclKey → Option (List Effective)) → Type 0
AreReplaced ds records = (k : DeclKey) → records k ≡ replaced_records ds k

-- ---- after changes

-- of which declarations they are
abbrev pub keys_changed : List Change → List DeclKey
keys_changed changes = map (λ c. c.key) changes

-- what is made of a declaration after some changes, where this was before
abbrev pub made_after : List Change → Option Made → DeclKey → Option Made
made_after [] before k = before
made_after (c ∷ cs) before k = cond (same_key c.key k) c.made (made_after cs before k)

-- a change may leave a bean replaced or not: it is of that declaration, or replaces that bean before or after
abbrev pub stakes : Shelf → DeclKey → Change → Bool
stakes shelf k c = same_key c.key k || (replaces (made_in (stored shelf c.key)) k || replaces c.made k)

abbrev pub is_at_stake : Shelf → List Change → DeclKey → Bool
is_at_stake shelf changes k = list_any (stakes shelf k) changes

-- a bean is replaced by one that is made anew
abbrev pub is_replaced_anew : List Change → DeclKey → Bool
is_replaced_anew changes k = list_any (λ c. replaces c.made k) changes

-- what is kept is of a declaration that is not affected, and replaces the bean
abbrev pub is_other : List DeclKey → Option Kept → DeclKey → Bool
is_other affected kept k = option_map_or (λ e. not (list_any (same_key e.key) affected) && replaces (Some e.made) k) kept false

-- a bean is replaced by one at these slots that is not affected
abbrev pub is_replaced_still : Shelf → List DeclKey → List ℕ → DeclKey → Bool
is_replaced_still shelf affected slots k = list_any (λ s. is_other affected (kept_at shelf s) k) slots

abbrev pub is_replaced_after : Shelf → List Listing → List DeclKey → List Change → DeclKey → Bool
is_replaced_after shelf listings affected changes k = is_replaced_anew changes k
    || is_replaced_still shelf affected (under listings (word_at reasons.Replaces k.name)) k

-- the records of a bean after changes, where it is replaced then
abbrev pub records_after : Shelf → List Listing → List DeclKey → List Change → DeclKey → Option (List Effective)
records_after shelf listings affected changes k =
    if is_replaced_after shelf listings affected changes k then disabled (made_after changes (made_in (stored shelf k)) k) else None

abbrev pub turn_by : Shelf → List Listing → List DeclKey → List Change → DeclKey → Turn
turn_by shelf listings affected changes k = record { key = k; records = records_after shelf listings affected changes k }

-- whose records they are
abbrev pub keys_turned : List Turn → List DeclKey
keys_turned turns = map (λ t. t.key) turns

-- the records of replaced beans after some turns
abbrev pub turned : List Turn → (DeclKey → Option (List Effective)) → DeclKey → Option (List Effective)
turned [] records k = records k
turned (t ∷ ts) records k = cond (same_key t.key k) t.records (turned ts records k)

-- the records of replaced beans after the next commit
abbrev pub replaced_next : Shelf → Next → DeclKey → Option (List Effective)
replaced_next shelf next = turned next.turns.list.items (get same_key shelf.replaced)
