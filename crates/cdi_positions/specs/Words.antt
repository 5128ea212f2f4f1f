-- How words hold a mark for each position.
use Rattle.std.specs.Prelude.{◌+◌, ◌*◌, ◌/◌, ◌%◌, ◌==◌, ℕ, zero, suc, Bool, List, [], ◌∷◌, ◌++◌, drop, flat_map, length, ◌<◌, ◌≤◌, ◌≡◌, slice_index}
use Rattle.cdi_positions.specs.Marks.{marked_from}

-- how many words there are
abbrev pub word_count : ℕ
word_count = 32

-- the marks of so many bits of a word, the lowest first
unfoldable pub low_marks : ℕ → ℕ → List Bool
low_marks zero word = []
low_marks (suc more) word = (word % 2 == 1) ∷ low_marks more (word / 2)

-- the marks of a word
unfoldable pub marks_in : ℕ → List Bool
marks_in word = low_marks 64 word

abbrev pub marks_of : List ℕ → List Bool
marks_of words = flat_map marks_in words

-- the positions that are left of some words, of the one at an index those of this word
abbrev pub positions_left : List ℕ → ℕ → ℕ → List ℕ
positions_left words index word = marked_from (index * 64) (marks_in word ++ marks_of (drop (index + 1) words))

-- there are all words, and each before an index is zero
pub record BeginsAt (index : ℕ) (words : List ℕ) : Type 0 where
  pub sized : length words ≡ word_count
  pub within : index < word_count
  pub before : (i : ℕ) → i < index → slice_index words i ≡ 0

-- there are all words, and each from an index on is zero
pub record EndsAt (used : ℕ) (words : List ℕ) : Type 0 where
  pub sized : length words ≡ word_count
  pub within : used ≤ word_count
  pub after : (i : ℕ) → used ≤ i → slice_index words i ≡ 0
