-- What differs between two tables of texts.
use Rattle.std.specs.Prelude.{ℕ, Bool, not, List, ◌++◌, filter, is_none, map, bytes_eq, Option, option_map, String, string_bytes}
use Rattle.std.specs.HashMap.{get_by_text, keys}
use Rattle.std.specs.Option.{option_eq}
use Rattle.indexmap.specs.IndexMap.{IndexMap}
use Rattle.cdi_differences.specs.declared.table.Difference.{Difference}

-- a key, its text before and its text after
abbrev pub Compared : Type 0
Compared = List ℕ × Option (List ℕ) × Option (List ℕ)

-- what is told of a difference
abbrev pub shown : Difference → Compared
shown d = (d.key.now, option_map (λ s. s.now) d.before, option_map (λ s. s.now) d.after)

-- the texts are not the same
abbrev pub differs : Compared → Bool
differs c = not (option_eq bytes_eq c.1 c.2)

-- there was no text before
abbrev pub is_new : Compared → Bool
is_new c = is_none c.1

module _ {Y Z S : Type 0} where
  -- the text of a key
  abbrev pub text_at : IndexMap (String Y) (String Z) S → List ℕ → Option (List ℕ)
  text_at table key = option_map string_bytes (get_by_text table key)

  -- a key with its texts in both tables
  abbrev pub compared : IndexMap (String Y) (String Z) S → IndexMap (String Y) (String Z) S → List ℕ → Compared
  compared before after key = (key, text_at before key, text_at after key)

  -- The keys of the table before whose texts differ, in its order, and then those of the table after that are new, in its order.
  abbrev pub differing : IndexMap (String Y) (String Z) S → IndexMap (String Y) (String Z) S → List Compared
  differing before after = filter differs (map (λ k. compared before after (string_bytes k)) (keys before))
      ++ filter is_new (map (λ k. compared before after (string_bytes k)) (keys after))
