-- Laws of answers by a name and a further part.
use Rattle.std.specs.Prelude.{◌≡◌, ℕ, ◌<◌, Bool, List, length, filter, is_some, IfSome, IsTrue}
use Rattle.std.specs.List.{list_any, IsDistinct}
use Rattle.std.specs.Map.{keys_of, lookup}
use Rattle.std.specs.Str.{bytes_eq}
use Rattle.cdi_memo.specs.Answers.{answer, how_many, is_kept, parts_under, same_question, Answers, Question}

module _ {Q A : Type 0} where
  -- Each name that stands has a part.
  abbrev pub NamesHaveParts : Answers Q A → Type 0
  NamesHaveParts m = (n : List ℕ) → IfSome (lookup (bytes_eq n) m) (λ parts. 0 < length parts)

module _ {Q A : Type 0} (eq : Q → Q → Bool) where
  -- An answer is kept just of the parts that stand under its name.
  abbrev pub PartsAreKept : Answers Q A → Type 0
  PartsAreKept m = (n : List ℕ) (q : Q) → is_some (answer eq m n q) ≡ list_any (eq q) (parts_under m n)

  -- No part stands twice under a name.
  abbrev pub PartsDiffer : Answers Q A → Type 0
  PartsDiffer m = (n : List ℕ) → IsDistinct eq (parts_under m n)

  -- No name stands twice, and no part twice under a name.
  abbrev pub AreOnce : Answers Q A → Type 0
  AreOnce m = IsDistinct bytes_eq (keys_of m) × PartsDiffer m

  -- Of questions that include all of which an answer is kept, and none twice, as many have an answer as there are.
  abbrev pub CountsAnswered : Answers Q A → Type 0
  CountsAnswered m = (asked : List (Question Q)) → IsDistinct (same_question eq) asked
      → ((k : Question Q) → IsTrue (is_kept eq m k) → IsTrue (list_any (same_question eq k) asked))
      → how_many m ≡ length (filter (is_kept eq m) asked)
