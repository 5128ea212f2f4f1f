-- The first place of a list at which a test passes.
use Rattle.cdi_model.proofs.Common.{◌≡◌, ◌<◌, ℕ, zero, suc, Bool, true, false, List, [], ◌∷◌, length, Some, None, option_map, refl}
use Rattle.cdi_model.proofs.Common.{position, slice_get, slice_index_or, arith, AllByRecursion, position-cons}

-- the test passes at a place, and at none before it
abbrev pub First : {X : Type 0} → (X → Bool) → ℕ → List X → Type 0
First p i [] = ⊥
First p zero (x ∷ xs) = p x ≡ true
First p (suc i) (x ∷ xs) = (p x ≡ false) × First p i xs

pub First-position : {X : Type 0} (p : X → Bool) (xs : List X) (i : ℕ) → position p xs ≡ Some i → First p i xs
First-position p [] i h = cc
First-position {X = X} p (x ∷ xs) i h = grind (arith, First-position p xs, position, position-cons, option_map)

pub position-First : {X : Type 0} (p : X → Bool) (xs : List X) (i : ℕ) → First p i xs → position p xs ≡ Some i
position-First p [] i h = absurd h
position-First p (x ∷ xs) zero h = rw (position-cons p x xs, h) refl
position-First p (x ∷ xs) (suc i) h = rw (position-cons p x xs, h.0, position-First p xs i h.1) refl

-- nowhere
abbrev pub Nowhere : {X : Type 0} → (X → Bool) → List X → Type 0
Nowhere p xs = AllByRecursion (λ x. p x ≡ false) xs

pub Nowhere-position : {X : Type 0} (p : X → Bool) (xs : List X) → position p xs ≡ None → Nowhere p xs
Nowhere-position p [] h = tt
Nowhere-position p (x ∷ xs) h = grind (arith, Nowhere-position p xs, position, position-cons, option_map)

pub position-Nowhere : {X : Type 0} (p : X → Bool) (xs : List X) → Nowhere p xs → position p xs ≡ None
position-Nowhere p [] h = refl
position-Nowhere p (x ∷ xs) h = rw (position-cons p x xs, h.0, position-Nowhere p xs h.1) refl

-- the place is in the list
pub First-within : {X : Type 0} (p : X → Bool) (xs : List X) (i : ℕ) → First p i xs → i < length xs
First-within p [] i h = absurd h
First-within p (x ∷ xs) zero h = omega arith
First-within p (x ∷ xs) (suc i) h = let within = First-within p xs i h.1 in omega (arith, within)

-- the element there
pub First-get : {X : Type 0} (p : X → Bool) (xs : List X) (i : ℕ) (d : X) → First p i xs → slice_get xs i ≡ Some (slice_index_or xs i d)
First-get p [] i d h = absurd h
First-get p (x ∷ xs) zero d h = refl
First-get p (x ∷ xs) (suc i) d h = First-get p xs i d h.1
