-- Loops that push what each element gives.
use Rattle.cdi_validate.proofs.Common.{◌≡◌, List, ◌++◌, sym, ap, ◌∙◌, append_assoc, flat_map, ◌<◌, ℕ, [], ◌∷◌, length, arith}
use Rattle.cdi_validate.proofs.Common.{nil_from_length, ◌+◌, get_or, drop, at_drop_more, length-append}

-- what each gives is pushed
pub appended : {A B : Type 0} (f : A → List B) (xs : List A) (i : ℕ) (x : A) (old total : List B) → i < length xs → x ≡ get_or xs i x
    → old ++ flat_map f (drop i xs) ≡ total → (old ++ f x) ++ flat_map f (drop (i + 1) xs) ≡ total
appended f xs i x old total within at all =
    let rest = drop (i + 1) xs in
    append_assoc old (f x) (flat_map f rest) ∙ ap (λ y. old ++ flat_map f (y ∷ rest)) at
    ∙ sym (at_drop_more (λ ys. old ++ flat_map f ys) xs i x within) ∙ all

-- one that gives nothing is passed over
pub skipped : {A B : Type 0} (f : A → List B) (xs : List A) (i : ℕ) (x : A) (old total : List B) → i < length xs → x ≡ get_or xs i x
    → f x ≡ [] → old ++ flat_map f (drop i xs) ≡ total → old ++ flat_map f (drop (i + 1) xs) ≡ total
skipped f xs i x old total within at none all =
    let rest = drop (i + 1) xs in
    ap (λ ys. old ++ (ys ++ flat_map f rest)) (sym none) ∙ ap (λ y. old ++ flat_map f (y ∷ rest)) at
    ∙ sym (at_drop_more (λ ys. old ++ flat_map f ys) xs i x within) ∙ all

-- where the list is as long as before nothing was pushed
pub none-pushed : {A : Type 0} (old more all : List A) → all ≡ old ++ more → length all ≡ length old → more ≡ []
none-pushed old more all pushed same = grind (arith, length-append, nil_from_length)
