-- A stable sort leaves what is put in order one by one.
use Rattle.cdi_effective.proofs.Common.{◌≡◌, ◌<◌, ℕ, Bool, true, false, cond, List, [], ◌∷◌, length, refl, sym, ap, ◌∙◌, zero, suc, arith}
use Rattle.cdi_effective.proofs.Common.{◌&&◌, map, IsStrictWeakOrder, put, sorted_by, not, true≢false, filter, Rises, sorted-rises}
use native.Mathlib.Numerals.{unary_clauses}
use Rattle.std.specs.{Prelude.slice_index_or, List.Sorted.IsSortedBy, List.Sorted.IsStableBy, List.Sorted.ties}
use Rattle.std.proofs.lemmas.List.Sorted.{sorted_far}
use Rattle.base_lists.proofs.{Each.all-filter, Sorting.NoneBefore}

both-not : (p q : Bool) → (not p && not q) ≡ true → (p ≡ false) × (q ≡ false)
both-not p q h = grind (arith, true≢false)

not-both : (p q : Bool) → p ≡ false → q ≡ false → (not p && not q) ≡ true
not-both p q a b = grind (arith, true≢false)

module _ {X : Type 0} where
  abbrev first-or : X → List X → X
  first-or d [] = d
  first-or d (x ∷ xs) = x

  abbrev rest-of : List X → List X
  rest-of [] = []
  rest-of (x ∷ xs) = xs

  swapped : (p q : Bool) (x y : X) (r : List X) → (p ≡ true → q ≡ false)
      → cond q (y ∷ cond p (x ∷ r) r) (cond p (x ∷ r) r) ≡ cond p (x ∷ cond q (y ∷ r) r) (cond q (y ∷ r) r)
  swapped p q x y r h = grind (arith, true≢false)

  peeled : (p : Bool) (x : X) (r s : List X) → cond p (x ∷ r) r ≡ cond p (x ∷ s) s → r ≡ s
  peeled p x r s e = grind arith

module _ {X : Type 0} (lt : X → X → Bool) (o : IsStrictWeakOrder lt) where
  from-index : (x : X) (ys : List X) → ((k : ℕ) (d : X) → k < length ys → lt (slice_index_or ys k d) x ≡ false) → NoneBefore lt x ys
  from-index x [] h = tt
  from-index x (y ∷ ys) h = (h zero y (omega arith), from-index x ys (λ k d less. h (suc k) d (omega (arith, less))))

  rises : (xs : List X) → IsSortedBy lt xs → Rises lt xs
  rises [] s = tt
  rises (x ∷ xs) s = (
    from-index x xs (λ k d less. sorted_far lt o (x ∷ xs) s zero (suc k) d (omega arith) (omega (arith, less))),
    rises xs (λ k d low less. simp unary_clauses (simp unary_clauses at s (suc k) d (omega arith) (omega (arith, less)))),
  )

  -- ---- one by one

  never-both : (a x y : X) → lt y x ≡ true → ties lt a x ≡ true → ties lt a y ≡ false
  never-both a x y e tx = grind (arith, true≢false, both-not)

  put-ties : (a x : X) (ys : List X) → filter (ties lt a) (put lt x ys) ≡ filter (ties lt a) (x ∷ ys)
  put-ties a x [] = refl
  put-ties a x (y ∷ ys) = grind (arith, put-ties a x ys, filter, swapped, never-both)

  sorted-ties : (a : X) (xs : List X) → filter (ties lt a) (sorted_by lt xs) ≡ filter (ties lt a) xs
  sorted-ties a [] = refl
  sorted-ties a (x ∷ xs) = put-ties a x (sorted_by lt xs) ∙ ap (λ (r : List X). cond (ties lt a x) (x ∷ r) r) (sorted-ties a xs)

  -- ---- order and ties leave no choice

  not-before-itself : (x : X) → lt x x ≡ false
  not-before-itself x = grind arith

  own : (x : X) (xs : List X) → filter (ties lt x) (x ∷ xs) ≡ x ∷ filter (ties lt x) xs
  own x xs = grind (arith, filter, not-both, not-before-itself)

  head-of : (y z : X) (zs ws : List X) → NoneBefore lt z zs → filter (ties lt y) (z ∷ zs) ≡ y ∷ ws → lt y z ≡ false
  head-of y z zs ws h e = grind (arith, both-not, filter, all-filter)

  unique : (ys zs : List X) → Rises lt ys → Rises lt zs → ((x : X) → filter (ties lt x) ys ≡ filter (ties lt x) zs) → ys ≡ zs
  unique [] [] ry rz same = refl
  unique [] (z ∷ zs) ry rz same = absurd (omega (arith, ap length (same z ∙ own z zs)))
  unique (y ∷ ys) [] ry rz same = absurd (omega (arith, ap length (sym (same y) ∙ own y ys)))
  unique (y ∷ ys) (z ∷ zs) ry rz same =
      let yz : lt y z ≡ false = head-of y z zs (filter (ties lt y) ys) rz.0 (sym (same y) ∙ own y ys) in
      let zy : lt z y ≡ false = head-of z y ys (filter (ties lt z) zs) ry.0 (same z ∙ own z zs) in
      let heads : y ∷ filter (ties lt y) ys ≡ z ∷ filter (ties lt y) zs =
      sym (own y ys) ∙ same y ∙ ap (λ (b : Bool). cond b (z ∷ filter (ties lt y) zs) (filter (ties lt y) zs))
      (not-both (lt y z) (lt z y) yz zy) in
      let eq : y ≡ z = ap (first-or y) heads in
      let tails : ys ≡ zs = unique ys zs ry.1 rz.1 (λ x.
      peeled (ties lt x y) y (filter (ties lt x) ys) (filter (ties lt x) zs)
      (same x ∙ ap (λ (w : X). cond (ties lt x w) (w ∷ filter (ties lt x) zs) (filter (ties lt x) zs)) (sym eq))) in
      ap (λ (w : X). w ∷ ys) eq ∙ ap (λ (r : List X). z ∷ r) tails

pub sorted_from_sort : {X : Type 0} (lt : X → X → Bool) → IsStrictWeakOrder lt → (xs ys : List X) → IsSortedBy lt ys → IsStableBy lt xs ys
    → ys ≡ sorted_by lt xs
sorted_from_sort lt o xs ys sorted stable =
    unique lt o ys (sorted_by lt xs) (rises lt o ys sorted) (sorted-rises lt o xs) (λ x. stable x ∙ sym (sorted-ties lt o x xs))

-- ---- by what is in them

put-map : {X Y : Type 0} (f : X → Y) (lt : Y → Y → Bool) (x : X) (ys : List X)
    → map f (put (λ a b. lt (f a) (f b)) x ys) ≡ put lt (f x) (map f ys)
put-map f lt x [] = refl
put-map {X = X} {Y = Y} f lt x (y ∷ ys) = grind (arith, put-map f lt x ys, map)

pub sorted_map : {X Y : Type 0} (f : X → Y) (lt : Y → Y → Bool) (xs : List X)
    → map f (sorted_by (λ a b. lt (f a) (f b)) xs) ≡ sorted_by lt (map f xs)
sorted_map f lt [] = refl
sorted_map f lt (x ∷ xs) = put-map f lt x (sorted_by (λ a b. lt (f a) (f b)) xs) ∙ ap (put lt (f x)) (sorted_map f lt xs)
