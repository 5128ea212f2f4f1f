-- Loops that push what passes a test.
use Rattle.std.proofs.Common.{◌≡◌, ℕ, ◌+◌, ◌<◌, Bool, true, false, cond, List, [], ◌∷◌, ◌++◌, map, filter, length, get_or, drop, refl, sym}
use Rattle.std.proofs.Common.{ap, ◌∙◌, append_assoc, inl, inr, ◌⊎◌}
use Rattle.std.specs.List.{zip}
use Rattle.std.proofs.lemmas.List.{at_drop_more}

-- one that passes is pushed
pub pushed : {A B : Type 0} (f : A → B) (p : A → Bool) (xs : List A) (i : ℕ) (x : A) (old total : List B) → i < length xs
    → x ≡ get_or xs i x → p x ≡ true
    → old ++ map f (filter p (drop i xs)) ≡ total → (old ++ f x ∷ []) ++ map f (filter p (drop (i + 1) xs)) ≡ total
pushed f p xs i x old total within at passes all =
    let rest = drop (i + 1) xs in
    append_assoc old (f x ∷ []) (map f (filter p rest))
    ∙ ap (λ b. old ++ map f (cond b (x ∷ filter p rest) (filter p rest))) (sym passes)
    ∙ ap (λ y. old ++ map f (filter p (y ∷ rest))) at
    ∙ sym (at_drop_more (λ ys. old ++ map f (filter p ys)) xs i x within)
    ∙ all

-- one that does not is passed over
pub passed_over : {A B : Type 0} (f : A → B) (p : A → Bool) (xs : List A) (i : ℕ) (x : A) (old total : List B) → i < length xs
    → x ≡ get_or xs i x → p x ≡ false
    → old ++ map f (filter p (drop i xs)) ≡ total → old ++ map f (filter p (drop (i + 1) xs)) ≡ total
passed_over f p xs i x old total within at fails all =
    let rest = drop (i + 1) xs in
    ap (λ b. old ++ map f (cond b (x ∷ filter p rest) (filter p rest))) (sym fails)
    ∙ ap (λ y. old ++ map f (filter p (y ∷ rest))) at
    ∙ sym (at_drop_more (λ ys. old ++ map f (filter p ys)) xs i x within)
    ∙ all

-- where one of two lists ends their pairs do
pub zip-empty : {A B : Type 0} (xs : List A) (ys : List B) → (xs ≡ []) ⊎ (ys ≡ []) → zip xs ys ≡ []
zip-empty [] ys ends = refl
zip-empty (x ∷ xs) [] ends = refl
zip-empty (x ∷ xs) (y ∷ ys) (inl e) = cc
zip-empty (x ∷ xs) (y ∷ ys) (inr e) = cc
