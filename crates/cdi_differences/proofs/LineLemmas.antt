-- A table holds one line more after an insertion.
use Rattle.std.proofs.Common.{◌≡◌, ℕ, Bool, true, false, cond, List, ◌∷◌, Option, Some, None, String, string_bytes, refl, ap, ◌∙◌}
use Rattle.std.specs.{HashMap.Updates, HashMap.get_by_text, Option.option_map, Option.option_or, Prelude.string_eq, Str.bytes_eq}
use Rattle.std.proofs.lemmas.Map.Text.{hash_map_updates_text}
use Rattle.indexmap.specs.IndexMap.{IndexMap}
use Rattle.cdi_differences.specs.{Differences.text_at, Holds.text_in, Wiring.Shown}

one_more : {X : Type 0} (a b : Option X) (e : Bool) (t : X)
    → option_or a (cond e (Some t) b) ≡ option_or (option_or a (cond e (Some t) None)) b
one_more None b true t = refl
one_more None b false t = refl
one_more (Some x) b e t = refl

mapped : {Z : Type 0} (e : Bool) (v : String Z) (x : Option (String Z))
    → option_map string_bytes (cond e (Some v) x) ≡ cond e (Some (string_bytes v)) (option_map string_bytes x)
mapped true v x = refl
mapped false v x = refl

module _ {Y Z S : Type 0} (m n : IndexMap (String Y) (String Z) S) (k : String Y) (v : String Z) where
  at_after : Updates string_eq m n k (Some v) → (key : List ℕ)
      → text_at n key ≡ cond (bytes_eq (string_bytes k) key) (Some (string_bytes v)) (text_at m key)
  at_after is key = ap (option_map string_bytes) (hash_map_updates_text (string_bytes k) m n (Some v) is key)
      ∙ mapped (bytes_eq (string_bytes k) key) v (get_by_text m key)

  -- what was held of the table and of the lines that are left
  pub one_line_more : (lines all : List Shown) → Updates string_eq m n k (Some v)
      → ((key : List ℕ) → option_or (text_in ((string_bytes k, string_bytes v) ∷ lines) key) (text_at m key) ≡ text_in all key)
      → (key : List ℕ) → option_or (text_in lines key) (text_at n key) ≡ text_in all key
  one_line_more lines all is held key = ap (option_or (text_in lines key)) (at_after is key)
      ∙ one_more (text_in lines key) (text_at m key) (bytes_eq (string_bytes k) key) (string_bytes v) ∙ held key
