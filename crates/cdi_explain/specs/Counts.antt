-- How many characters of each class texts have.
use Rattle.std.specs.Prelude.{◌≡◌, ◌<◌, ◌+◌, ◌-◌, ◌%◌, ℕ, nat_eq, Bool, List, count_by, length, slice_index}
use Rattle.std.specs.Str.{chars}

-- the character is of a class
abbrev pub is_of_class : ℕ → ℕ → Bool
is_of_class class c = nat_eq (c % 16) class

-- these are the numbers of characters of the first classes
abbrev pub AreCounted : List ℕ → List ℕ → Type 0
AreCounted name counts = (class : ℕ) → class < length counts → slice_index counts class ≡ count_by (is_of_class class) (chars name)

-- of a class one has three characters more than the other
abbrev pub AreApart : List ℕ → List ℕ → Type 0
AreApart counts others = (class : ℕ) × (class < length counts) × (class < length others)
    × (2 < (slice_index counts class - slice_index others class) + (slice_index others class - slice_index counts class))
