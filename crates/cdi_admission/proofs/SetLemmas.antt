-- A set of texts that has one more.
use Rattle.std.proofs.Common.{arith, ◌≡◌, ℕ, Bool, true, cond, ◌||◌, List, ◌∷◌}
use Rattle.std.proofs.lemmas.{Cmp.nat_list_eq_equiv, Map.Text.is_eq-slice_cmp}
use Rattle.std.specs.{Cmp.Lexicographic.slice_cmp, Ordering.nat_cmp, Ordering.is_eq}
use Rattle.cdi_uses.specs.Twice.{is_text_among}

-- a text is in the set that has one more, or among the rest, where it was in the set or is among that one and the rest
pub one_more : (old new : List ℕ → Bool) (one : List ℕ) (rest : List (List ℕ))
    → ((text : List ℕ) → new text ≡ cond (is_eq (slice_cmp nat_cmp one text)) true (old text)) → (text : List ℕ)
    → (new text || is_text_among rest text) ≡ (old text || is_text_among (one ∷ rest) text)
one_more old new one rest grown text = grind (arith, is_eq-slice_cmp, nat_list_eq_equiv.symm)
