-- The members of a use, by those that are left to print.
use Rattle.cdi_model.proofs.Common.{◌≡◌, ℕ, List, [], ◌∷◌, ◌++◌, refl, sym, ◌∙◌, ap, append_assoc, signed_decimal, equals_sign}
use Rattle.std.proofs.{Common.ℤ, lemmas.List.append-nil}
use Rattle.cdi_model.specs.{UseText.text_of_pair, UseText.text_of_pairs, Bytes.comma}

-- the first stands behind this separator, each other one behind a comma
abbrev pub pairs_behind : List ℕ → List (List ℕ × ℤ) → List ℕ
pairs_behind separator [] = []
pairs_behind separator (p ∷ ps) = separator ++ (text_of_pair p ++ pairs_behind (comma ∷ []) ps)

pub pairs_behind_nothing : (ps : List (List ℕ × ℤ)) → pairs_behind [] ps ≡ text_of_pairs ps
pairs_behind_nothing [] = refl
pairs_behind_nothing (p ∷ []) = append-nil (text_of_pair p)
pairs_behind_nothing (p ∷ q ∷ ps) = ap (λ text. text_of_pair p ++ comma ∷ text) (pairs_behind_nothing (q ∷ ps))

-- one more is printed
pub pairs_behind_more : (written separator name whole : List ℕ) (value : ℤ) (left ps : List (List ℕ × ℤ)) → left ≡ (name, value) ∷ ps
    → written ++ pairs_behind separator left ≡ whole
    → (written ++ (separator ++ (name ++ equals_sign ∷ signed_decimal value))) ++ pairs_behind (comma ∷ []) ps ≡ whole
pairs_behind_more written separator name whole value left ps next so_far =
    append_assoc written (separator ++ (name ++ equals_sign ∷ signed_decimal value)) (pairs_behind (comma ∷ []) ps)
    ∙ ap (λ text. written ++ text) (append_assoc separator (name ++ equals_sign ∷ signed_decimal value) (pairs_behind (comma ∷ []) ps))
    ∙ ap (λ l. written ++ pairs_behind separator l) (sym next) ∙ so_far

-- all are printed
pub pairs_behind_done : (written separator : List ℕ) (left ps : List (List ℕ × ℤ)) → left ≡ []
    → written ++ pairs_behind separator left ≡ pairs_behind [] ps → written ≡ text_of_pairs ps
pairs_behind_done written separator left ps none so_far =
    sym (append-nil written) ∙ ap (λ l. written ++ pairs_behind separator l) (sym none) ∙ so_far ∙ pairs_behind_nothing ps
