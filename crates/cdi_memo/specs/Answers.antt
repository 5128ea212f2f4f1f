-- Answers by a name and a further part.
use Rattle.std.specs.Prelude.{◌≡◌, ℕ, Bool, ◌&&◌, List, [], ◌∷◌, ◌++◌, length, map, Option, None, Some, unwrap_or, is_some, if◌then◌else◌}
use Rattle.std.specs.Map.{keys_of, lookup}
use Rattle.std.specs.Option.{option_map_or}
use Rattle.std.specs.Str.{bytes_eq}
use Rattle.indexmap.specs.IndexMap.{IndexMap}

-- for each name the answers by their parts
abbrev pub Answers : Type 0 → Type 0 → Type 0
Answers Q A = List (List ℕ × List (Q × A))

-- a name and a part
abbrev pub Question : Type 0 → Type 0
Question Q = List ℕ × Q

module _ {Q A : Type 0} where
  -- the parts of a name of which an answer is kept
  abbrev pub parts_under : Answers Q A → List ℕ → List Q
  parts_under m name = keys_of (unwrap_or (lookup (bytes_eq name) m) [])

  -- the questions of which an answer is kept
  abbrev pub questions : Answers Q A → List (Question Q)
  questions [] = []
  questions (e ∷ m) = map (λ p. (e.0, p.0)) e.1 ++ questions m

  -- how many answers are kept
  abbrev pub how_many : Answers Q A → ℕ
  how_many m = length (questions m)

module _ {Q : Type 0} (eq : Q → Q → Bool) where
  -- the two have one name and one part
  abbrev pub same_question : Question Q → Question Q → Bool
  same_question k l = bytes_eq k.0 l.0 && eq k.1 l.1

module _ {Q A : Type 0} (eq : Q → Q → Bool) where
  -- the answer by a name and a part
  abbrev pub answer : Answers Q A → List ℕ → Q → Option A
  answer m name q = option_map_or (λ parts. lookup (eq q) parts) (lookup (bytes_eq name) m) None

  -- whether a question has an answer
  abbrev pub is_kept : Answers Q A → Question Q → Bool
  is_kept m k = is_some (answer m k.0 k.1)

  -- The answer by a name and a part is this, and all others stay.
  abbrev pub Keeps : List ℕ → Q → A → Answers Q A → Answers Q A → Type 0
  Keeps name q a old new = (n : List ℕ) (r : Q)
      → answer new n r ≡ (if bytes_eq name n && eq q r then Some a else answer old n r)

  -- No answer by a name and a part is kept, and all others stay.
  abbrev pub Removes : List ℕ → Q → Answers Q A → Answers Q A → Type 0
  Removes name q old new = (n : List ℕ) (r : Q)
      → answer new n r ≡ (if bytes_eq name n && eq q r then None else answer old n r)

-- as they are kept
abbrev pub answers_in : {Q A S : Type 0} → List (List ℕ × IndexMap Q A S) → Answers Q A
answers_in entries = map (λ e. (e.0, e.1.entries)) entries
