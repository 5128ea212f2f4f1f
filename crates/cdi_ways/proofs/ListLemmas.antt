-- The elements of lists, by their places.
use Rattle.cdi_ways.proofs.Common.{◌≡◌, ◌+◌, ◌<◌, ℕ, zero, suc, List, [], ◌∷◌, ◌++◌, map, length, Some, inl, inr, ap, ◌∙◌, arith, slice_get}
use Rattle.cdi_ways.proofs.Common.{none-some, same_Some, at-joined}

-- ---- of two joined lists

pub at_second : {X : Type 0} (xs ys : List X) (i j : ℕ) (y : X) → i ≡ length xs + j → slice_get ys j ≡ Some y
    → slice_get (xs ++ ys) i ≡ Some y
at_second [] ys i j y e h = ap (slice_get ys) (omega (arith, e)) ∙ h
at_second (x ∷ xs) ys zero j y e h = absurd (omega (arith, e))
at_second (x ∷ xs) ys (suc i) j y e h = at_second xs ys i j y (omega (arith, e)) h

-- ---- of what a function gives

pub map_at : {X Y : Type 0} (f : X → Y) (xs : List X) (i : ℕ) (x : X) → slice_get xs i ≡ Some x → slice_get (map f xs) i ≡ Some (f x)
map_at f [] i x h = absurd (none-some x h)
map_at f (x' ∷ xs) zero x h = ap (λ u. Some (f u)) (same_Some x' x h)
map_at f (x' ∷ xs) (suc i) x h = map_at f xs i x h

pub at_within : {X : Type 0} (xs ys : List X) (i : ℕ) (x : X) → i < length xs → slice_get (xs ++ ys) i ≡ Some x → slice_get xs i ≡ Some x
at_within xs ys i x within h = elim (at-joined xs ys i x h) [
  | inl first ↦ first
  | inr second ↦ absurd (omega (arith, second.1, within))
]
