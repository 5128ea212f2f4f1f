-- The places of a list, and what is there.
use Rattle.std.proofs.Common.{◌≡◌, ◌⊎◌, ◌+◌, ℕ, zero, suc, Bool, cond, List, [], ◌∷◌, ◌++◌, map, length, Some, option_map, inl, inr, refl}
use Rattle.std.proofs.Common.{sym, ap, ◌∙◌, arith, position, slice_get}
use Rattle.std.proofs.lemmas.Option.{none-some, same_Some}

pub empty-from_length : {X : Type 0} (xs : List X) → length xs ≡ 0 → xs ≡ []
empty-from_length [] none = refl
empty-from_length (x ∷ xs) none = absurd (omega (arith, none))

-- ---- of two lists put together

pub at-front : {X : Type 0} (xs ys : List X) (k : ℕ) (x : X) → slice_get xs k ≡ Some x → slice_get (xs ++ ys) k ≡ Some x
at-front [] ys k x at = absurd (none-some x at)
at-front (v ∷ xs) ys zero x at = at
at-front (v ∷ xs) ys (suc k) x at = at-front xs ys k x at

pub at-back : {X : Type 0} (xs ys : List X) (k : ℕ) (x : X) → slice_get ys k ≡ Some x → (j : ℕ) × (slice_get (xs ++ ys) j ≡ Some x)
at-back [] ys k x at = (k, at)
at-back (v ∷ xs) ys k x at = let rest = at-back xs ys k x at in (suc rest.0, rest.1)

pub at-joined : {X : Type 0} (xs ys : List X) (k : ℕ) (x : X) → slice_get (xs ++ ys) k ≡ Some x
    → (slice_get xs k ≡ Some x) ⊎ ((i : ℕ) × (k ≡ length xs + i) × (slice_get ys i ≡ Some x))
at-joined [] ys k x at = inr (k, omega arith, at)
at-joined (v ∷ xs) ys zero x at = inl at
at-joined (v ∷ xs) ys (suc k) x at = elim (at-joined xs ys k x at) [
  | inl here ↦ inl here
  | inr later ↦ inr (later.0, omega (arith, later.1), later.2)
]

-- ---- of what a function gives

pub at-map : {X Y : Type 0} (f : X → Y) (xs : List X) (k : ℕ) (y : Y) → slice_get (map f xs) k ≡ Some y
    → (x : X) × (slice_get xs k ≡ Some x) × (f x ≡ y)
at-map f [] k y at = absurd (none-some y at)
at-map f (v ∷ xs) zero y at = (v, refl, same_Some (f v) y at)
at-map f (v ∷ xs) (suc k) y at = at-map f xs k y at

-- ---- of the first that passes a test

pub position-cons : {X : Type 0} (p : X → Bool) (x : X) (xs : List X)
    → position p (x ∷ xs) ≡ cond (p x) (Some 0) (option_map suc (position p xs))
position-cons p x xs = grind arith

pub position-map : {X Y : Type 0} (f : X → Y) (p : Y → Bool) (xs : List X) → position p (map f xs) ≡ position (λ x. p (f x)) xs
position-map f p [] = refl
position-map f p (x ∷ xs) = position-cons p (f x) (map f xs) ∙ ap (λ o. cond (p (f x)) (Some 0) (option_map suc o)) (position-map f p xs)
    ∙ sym (position-cons (λ x. p (f x)) x xs)
