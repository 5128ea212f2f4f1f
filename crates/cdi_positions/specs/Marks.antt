-- Which positions are in a set: a mark for each.
use Rattle.std.specs.Prelude.{◌≡◌, ◌+◌, ◌<◌, ℕ, Bool, false, if◌then◌else◌, List, [], ◌∷◌, length, take, slice_index_or}
use Rattle.std.specs.List.{filter}

-- how many positions there are
abbrev pub limit : ℕ
limit = 2048

-- the position is in the set
abbrev pub is_marked : List Bool → ℕ → Bool
is_marked marks position = slice_index_or marks position false

-- how many are in it
abbrev pub marked_count : List Bool → ℕ
marked_count marks = length (filter (λ m. m) marks)

-- how many below a position are in it
abbrev pub count_below : ℕ → List Bool → ℕ
count_below position marks = marked_count (take position marks)

-- the positions in it, rising, where the first mark is that of a position
abbrev pub marked_from : ℕ → List Bool → List ℕ
marked_from n [] = []
marked_from n (m ∷ ms) = if m then n ∷ marked_from (n + 1) ms else marked_from (n + 1) ms

-- the position is not in the set, and so are just n below it
pub record IsOutside (n : ℕ) (marks : List Bool) (position : ℕ) : Type 0 where
  pub within : position < length marks
  pub unmarked : is_marked marks position ≡ false
  pub before : count_below position marks + n ≡ position
