-- Where a key stands in a text as a word, and in which line.
use Rattle.std.specs.Prelude.{ℕ, Bool, false, not, ◌&&◌, ◌||◌, ◌==◌, ◌+◌, ◌-◌, nat_le, List, [], ◌∷◌, filter, length, take, drop, slice_get, Option, Some, None, option_map, if◌then◌else◌}
use Rattle.std.specs.List.{count_by, range_with_len, list_all}
use Rattle.std.specs.Str.{bytes_eq}

-- a byte that may be in a bare key: A to Z, a to z, 0 to 9, `_` or `-` (TOML, Keys)
abbrev pub is_key_byte : ℕ → Bool
is_key_byte b = (nat_le 65 b && nat_le b 90) || (nat_le 97 b && nat_le b 122) || (nat_le 48 b && nat_le b 57) || (b == 95) || (b == 45)

abbrev pub is_in_key : Option ℕ → Bool
is_in_key None = false
is_in_key (Some b) = is_key_byte b

-- a key that may be written without quotes
abbrev pub is_bare : List ℕ → Bool
is_bare key = not (length key == 0) && list_all is_key_byte key

-- the word stands at the place: its bytes do, and no byte of a key is right before it or right after it
abbrev pub stands_at : List ℕ → List ℕ → ℕ → Bool
stands_at text word place = bytes_eq word (take (length word) (drop place text))
    && not (is_in_key (slice_get (take place text) (place - 1)))
    && not (is_in_key (slice_get (drop place text) (length word)))

-- the places at which the word stands
abbrev pub places : List ℕ → List ℕ → List ℕ
places text word = filter (stands_at text word) (range_with_len 0 (length text))

-- the element of a list of one
abbrev pub only : List ℕ → Option ℕ
only (place ∷ []) = Some place
only _ = None

-- the line of a place, from 1: one more than the line feeds before it
abbrev pub line_at : List ℕ → ℕ → ℕ
line_at text place = 1 + count_by (λ b. b == 10) (take place text)

-- the line of the only place at which a bare key stands
abbrev pub line_of_key : List ℕ → List ℕ → Option ℕ
line_of_key text key = if is_bare key then option_map (line_at text) (only (places text key)) else None
