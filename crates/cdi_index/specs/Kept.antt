-- What is kept of declarations, by slots.
use Rattle.std.specs.Prelude.{◌≡◌, ◌<◌, ℕ, nat_eq, Bool, true, false, ◌&&◌, ◌||◌, List, Option, Some, None, option_map}
use Rattle.std.specs.List.{list_any}
use Rattle.std.specs.Option.{option_map_or}
use Rattle.indexmap.specs.IndexMap.{get}
use Rattle.cdi_model.specs.declared.decl.Decl.{Decl}
use Rattle.cdi_model.specs.declared.key.DeclKey.{DeclKey}
use Rattle.cdi_model.specs.DeclKey.{same_key}
use Rattle.cdi_postings.specs.declared.word.Word.{Word}
use Rattle.cdi_postings.specs.Listing.{Listing, is_listed, under}
use Rattle.cdi_index.specs.declared.making.Made.{Made}
use Rattle.cdi_index.specs.declared.shelf.Kept.{Kept}
use Rattle.cdi_index.specs.declared.shelf.Shelf.{Shelf}
use Rattle.cdi_index.specs.Made.{has_word, is_kept, made_of, reads, word_of}

-- what is kept of a declaration, and its slot
abbrev pub Stored : Type 0
Stored = ℕ × Kept

abbrev pub made_in : Option Stored → Option Made
made_in stored = option_map (λ s. s.1.made) stored

abbrev pub number_in : Option Stored → Option ℕ
number_in stored = option_map (λ s. s.1.number) stored

-- what is kept at a slot
abbrev pub stored_at : (ℕ → Option Kept) → Option ℕ → Option Stored
stored_at kept None = None
stored_at kept (Some slot) = option_map (λ e. (slot, e)) (kept slot)

-- the slot of a declaration
abbrev pub slot_of : Shelf → DeclKey → Option ℕ
slot_of shelf k = get same_key shelf.slots k

abbrev pub kept_at : Shelf → ℕ → Option Kept
kept_at shelf slot = get nat_eq shelf.kept slot

-- what is kept of a declaration
abbrev pub stored : Shelf → DeclKey → Option Stored
stored shelf k = stored_at (kept_at shelf) (slot_of shelf k)

-- the slot is that of the declaration whose key is kept there
abbrev pub Owns : (DeclKey → Option ℕ) → (ℕ → Option Kept) → Type 0
Owns slots kept = (k : DeclKey) (s : ℕ) → slots k ≡ Some s → option_map (λ e. e.key) (kept s) ≡ Some k

abbrev pub IsOwned : (DeclKey → Option ℕ) → (ℕ → Option Kept) → Type 0
IsOwned slots kept = (s : ℕ) (e : Kept) → kept s ≡ Some e → slots e.key ≡ Some s

-- The slots of declarations are those at which something of them is kept.
pub record IsShelf (shelf : Shelf) : Type 0 where
  pub owns : Owns (slot_of shelf) (kept_at shelf)
  pub owned : IsOwned (slot_of shelf) (kept_at shelf)

-- nothing is kept from a slot on
abbrev pub IsFreeFrom : ℕ → Shelf → Type 0
IsFreeFrom first shelf = (s : ℕ) (e : Kept) → kept_at shelf s ≡ Some e → s < first

-- What is kept is what is made of each declaration.
abbrev pub IsExact : List Decl → (DeclKey → Option Stored) → Type 0
IsExact ds m = (k : DeclKey) → made_in (m k) ≡ made_of ds k

-- Each slot is listed under the words of what is kept there. It may be listed under others.
abbrev pub IsSound : (DeclKey → Option Stored) → List Listing → Type 0
IsSound m listings = (w : Word) (k : DeclKey) (s : ℕ) (e : Kept) → m k ≡ Some (s, e) → has_word (Some e.made) w ≡ true
    → is_listed listings w s ≡ true

-- What is listed at slots before the first free one stays listed.
abbrev pub Keeps : List Listing → List Listing → Type 0
Keeps old new = (w : Word) (s : ℕ) → is_listed old w s ≡ true → is_listed new w s ≡ true

-- ---- who reads a declaration

-- what is kept is of the declaration k, and read that of the key
abbrev pub is_reader : Option Kept → DeclKey → DeclKey → Bool
is_reader kept k key = option_map_or (λ e. same_key e.key k && reads (Some e.made) key) kept false

abbrev pub is_reader_among : Shelf → List ℕ → DeclKey → DeclKey → Bool
is_reader_among shelf slots k key = list_any (λ s. is_reader (kept_at shelf s) k key) slots

-- an edit of a key changes what is made of a declaration: it is that declaration, or is read and so listed
abbrev pub touches : Shelf → List Listing → DeclKey → DeclKey → Bool
touches shelf listings k key = (is_kept key.kind && same_key key k) || is_reader_among shelf (under listings (word_of key)) k key
