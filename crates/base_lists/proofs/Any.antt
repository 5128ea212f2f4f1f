-- Whether an element of a list passes a test.
use Rattle.std.proofs.Common.{◌≡◌, ℕ, suc, nat_eq, Bool, true, false, not, ◌||◌, List, [], ◌∷◌, map, filter, length, refl, sym, ap, ◌∙◌}
use Rattle.std.proofs.Common.{inl, inr, arith}
use Rattle.std.proofs.lemmas.Bool.{eqb-true, false_from_ne_true, false≢true, not_from_false, or_cases, or_left, or_right}
use Rattle.std.specs.List.{AllByRecursion, flat_map, list_any}
use Rattle.std.proofs.lemmas.List.Folds.{list_any-append}

pub any-none : {X : Type 0} (xs : List X) → list_any (λ x. false) xs ≡ false
any-none [] = refl
any-none (x ∷ xs) = any-none xs

pub any-map : {X Y : Type 0} (p : Y → Bool) (f : X → Y) (xs : List X) → list_any p (map f xs) ≡ list_any (λ x. p (f x)) xs
any-map p f [] = refl
any-map p f (x ∷ xs) = ap (λ b. p (f x) || b) (any-map p f xs)

pub any-flat_map : {X Y : Type 0} (q : Y → Bool) (f : X → List Y) (xs : List X)
    → list_any q (flat_map f xs) ≡ list_any (λ x. list_any q (f x)) xs
any-flat_map q f [] = refl
any-flat_map q f (x ∷ xs) = list_any-append q (f x) (flat_map f xs) ∙ ap (λ b. list_any q (f x) || b) (any-flat_map q f xs)

or-both : (a b c d : Bool) → ((a || b) || (c || d)) ≡ ((a || c) || (b || d))
or-both true b c d = refl
or-both false true true d = refl
or-both false true false d = refl
or-both false false c d = refl

-- one test or another
pub any-or : {X : Type 0} (p q : X → Bool) (xs : List X) → list_any (λ x. p x || q x) xs ≡ (list_any p xs || list_any q xs)
any-or p q [] = refl
any-or p q (x ∷ xs) = ap (λ b. (p x || q x) || b) (any-or p q xs) ∙ or-both (p x) (q x) (list_any p xs) (list_any q xs)

-- tests that agree
pub any-same : {X : Type 0} (p q : X → Bool) (xs : List X) → ((x : X) → p x ≡ q x) → list_any p xs ≡ list_any q xs
any-same p q [] same = refl
any-same p q (x ∷ xs) same = λ i. same x i || any-same p q xs same i

-- tests that agree on each element
pub any-alike : {X : Type 0} (p q : X → Bool) (xs : List X) → AllByRecursion (λ x. p x ≡ q x) xs → list_any p xs ≡ list_any q xs
any-alike p q [] same = refl
any-alike p q (x ∷ xs) same = ap (λ b. b || list_any p xs) same.0 ∙ ap (λ b. q x || b) (any-alike p q xs same.1)

-- a test that passes more
pub any-more : {X : Type 0} (p q : X → Bool) (xs : List X) → ((x : X) → p x ≡ true → q x ≡ true) → list_any p xs ≡ true
    → list_any q xs ≡ true
any-more p q [] more some = some
any-more p q (x ∷ xs) more some = elim (or_cases (p x) (list_any p xs) some) [
  | inl here ↦ or_left (q x) (list_any q xs) (more x here)
  | inr later ↦ or_right (q x) (list_any q xs) (any-more p q xs more later)
]

pub none-passes : {X : Type 0} (test : X → Bool) (xs : List X) → AllByRecursion (λ x. test x ≡ false) xs → list_any test xs ≡ false
none-passes test [] h = refl
none-passes test (x ∷ xs) h = ap (λ b. b || list_any test xs) h.0 ∙ none-passes test xs h.1

pub each-fails : {X : Type 0} (test : X → Bool) (xs : List X) → list_any test xs ≡ false → AllByRecursion (λ x. test x ≡ false) xs
each-fails test [] h = tt
each-fails test (x ∷ xs) h = by (test x) h (each-fails test xs)
  where
    by : (b : Bool) → (b || list_any test xs) ≡ false → (list_any test xs ≡ false → AllByRecursion (λ y. test y ≡ false) xs)
        → (b ≡ false) × AllByRecursion (λ y. test y ≡ false) xs
    by true f more = absurd (false≢true (sym f))
    by false f more = (refl, more f)

pub some_left : (n : ℕ) → not (nat_eq (suc n) 0) ≡ true
some_left n = not_from_false (nat_eq (suc n) 0) (false_from_ne_true (nat_eq (suc n) 0) (λ h. absurd (omega (arith, eqb-true (suc n) 0 h))))

-- some pass a test just where its filter leaves some
pub any-left : {X : Type 0} (p : X → Bool) (xs : List X) → not (nat_eq (length (filter p xs)) 0) ≡ list_any p xs
any-left p [] = refl
any-left p (x ∷ xs) = by (p x) refl (any-left p xs)
  where
    by : (b : Bool) → p x ≡ b → not (nat_eq (length (filter p xs)) 0) ≡ list_any p xs
        → not (nat_eq (length (filter p (x ∷ xs))) 0) ≡ list_any p (x ∷ xs)
    by true e more = rw e (some_left (length (filter p xs)))
    by false e more = rw e more
