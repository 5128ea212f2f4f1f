-- The elements of a list that pass a test.
use Rattle.std.proofs.Common.{◌≡◌, Bool, true, false, ◌&&◌, cond, List, [], ◌∷◌, filter, refl, ap, ◌∙◌}
use Rattle.std.specs.List.{AllByRecursion}

pub filter-each : {X : Type 0} (xs : List X) → filter (λ x. true) xs ≡ xs
filter-each [] = refl
filter-each (x ∷ xs) = ap (λ ys. x ∷ ys) (filter-each xs)

-- tests that agree
pub filter-same : {X : Type 0} (p q : X → Bool) (xs : List X) → ((x : X) → p x ≡ q x) → filter p xs ≡ filter q xs
filter-same p q [] same = refl
filter-same p q (x ∷ xs) same = λ i. cond (same x i) (x ∷ filter-same p q xs same i) (filter-same p q xs same i)

-- tests that agree on each element
pub filter-alike : {X : Type 0} (p q : X → Bool) (xs : List X) → AllByRecursion (λ x. p x ≡ q x) xs → filter p xs ≡ filter q xs
filter-alike p q [] same = refl
filter-alike p q (x ∷ xs) same = ap (λ b. cond b (x ∷ filter p xs) (filter p xs)) same.0
    ∙ ap (λ ys. cond (q x) (x ∷ ys) ys) (filter-alike p q xs same.1)

-- first one test, then the other
pub filter-both : {X : Type 0} (p q : X → Bool) (xs : List X) → filter (λ x. p x && q x) xs ≡ filter q (filter p xs)
filter-both p q [] = refl
filter-both p q (x ∷ xs) = by (p x) (filter-both p q xs)
  where
    by : (b : Bool) → filter (λ y. p y && q y) xs ≡ filter q (filter p xs)
        → cond (b && q x) (x ∷ filter (λ y. p y && q y) xs) (filter (λ y. p y && q y) xs)
        ≡ filter q (cond b (x ∷ filter p xs) (filter p xs))
    by true rest = ap (λ ys. cond (q x) (x ∷ ys) ys) rest
    by false rest = rest
