-- Which slots are listed under words.
use Rattle.std.specs.Prelude.{◌≡◌, ℕ, nat_eq, Bool, false, not, ◌&&◌, ◌||◌, List, [], map, unwrap_or}
use Rattle.std.specs.List.{list_any}
use Rattle.std.specs.Map.{lookup}
use Rattle.std.specs.Option.{option_map_or}
use Rattle.indexmap.specs.IndexMap.{IndexMap, get}
use Rattle.indexmap.specs.IndexSet.{IndexSet, contains}
use Rattle.cdi_postings.specs.Words.{same_word}
use Rattle.cdi_postings.specs.declared.word.Word.{Word}

-- a word with the slots under it
abbrev pub Listing : Type 0
Listing = Word × List ℕ

-- the slots under a word
abbrev pub under : List Listing → Word → List ℕ
under listings w = unwrap_or (lookup (same_word w) listings) []

-- the slot is listed under the word
abbrev pub is_listed : List Listing → Word → ℕ → Bool
is_listed listings w k = list_any (nat_eq k) (under listings w)

-- One slot more is listed under a word, and all that were stay.
abbrev pub Lists : Word → ℕ → List Listing → List Listing → Type 0
Lists word slot old new = (w : Word) (k : ℕ) → is_listed new w k ≡ (is_listed old w k || (same_word word w && nat_eq slot k))

-- One slot is listed no more under a word, and all else stays.
abbrev pub Unlists : Word → ℕ → List Listing → List Listing → Type 0
Unlists word slot old new = (w : Word) (k : ℕ) → is_listed new w k ≡ (is_listed old w k && not (same_word word w && nat_eq slot k))

-- The same is listed under each word.
abbrev pub ListTheSame : List Listing → List Listing → Type 0
ListTheSame old new = (w : Word) (k : ℕ) → is_listed new w k ≡ is_listed old w k

-- ---- as it is kept

abbrev pub listings : {S : Type 0} → List (Word × IndexSet ℕ S) → List Listing
listings entries = map (λ e. (e.0, e.1.keys)) entries

-- a map of words has the slot in the set of a word
abbrev pub is_in : {S T : Type 0} → IndexMap Word (IndexSet ℕ T) S → Word → ℕ → Bool
is_in words w k = option_map_or (λ slots. contains nat_eq slots k) (get same_word words w) false
