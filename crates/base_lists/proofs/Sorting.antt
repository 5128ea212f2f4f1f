-- Lists that are put in order.
use Rattle.std.proofs.Common.{◌≡◌, Bool, true, false, ◌||◌, cond, List, [], ◌∷◌, refl, ap, ◌∙◌}
use Rattle.std.specs.{Cmp.IsStrictWeakOrder, List.AllByRecursion, List.list_any}
use Rattle.base_lists.specs.Sorting.{put, sorted_by}

module _ {X : Type 0} (before : X → X → Bool) where
  -- ---- what holds of each

  pub all-put : (P : X → Type 0) (x : X) (ys : List X) → P x → AllByRecursion P ys → AllByRecursion P (put before x ys)
  all-put P x [] here all = (here, tt)
  all-put P x (y ∷ ys) here all = by (before y x) (all-put P x ys here all.1)
    where
      by : (b : Bool) → AllByRecursion P (put before x ys) → AllByRecursion P (cond b (y ∷ put before x ys) (x ∷ y ∷ ys))
      by true rest = (all.0, rest)
      by false rest = (here, all)

  pub all-sorted : (P : X → Type 0) (xs : List X) → AllByRecursion P xs → AllByRecursion P (sorted_by before xs)
  all-sorted P [] all = tt
  all-sorted P (x ∷ xs) all = all-put P x (sorted_by before xs) all.0 (all-sorted P xs all.1)

  -- ---- the order is nothing to a test

  or-turned : (a b c : Bool) → (a || (b || c)) ≡ (b || (a || c))
  or-turned true true c = refl
  or-turned true false c = refl
  or-turned false true c = refl
  or-turned false false c = refl

  any-put : (p : X → Bool) (x : X) (ys : List X) → list_any p (put before x ys) ≡ (p x || list_any p ys)
  any-put p x [] = refl
  any-put p x (y ∷ ys) = by (before y x) (any-put p x ys)
    where
      by : (b : Bool) → list_any p (put before x ys) ≡ (p x || list_any p ys)
          → list_any p (cond b (y ∷ put before x ys) (x ∷ y ∷ ys)) ≡ (p x || (p y || list_any p ys))
      by true rest = ap (λ b. p y || b) rest ∙ or-turned (p y) (p x) (list_any p ys)
      by false rest = refl

  pub any-sorted : (p : X → Bool) (xs : List X) → list_any p (sorted_by before xs) ≡ list_any p xs
  any-sorted p [] = refl
  any-sorted p (x ∷ xs) = any-put p x (sorted_by before xs) ∙ ap (λ b. p x || b) (any-sorted p xs)

  -- ---- none comes before an earlier one

  -- none of some comes before this one
  abbrev pub NoneBefore : X → List X → Type 0
  NoneBefore x ys = AllByRecursion (λ y. before y x ≡ false) ys

  abbrev pub Rises : List X → Type 0
  Rises [] = Unit {0}
  Rises (x ∷ xs) = NoneBefore x xs × Rises xs

module _ {X : Type 0} (before : X → X → Bool) (o : IsStrictWeakOrder before) where
  pub none-lower : (x y : X) (ys : List X) → before y x ≡ false → NoneBefore before y ys → NoneBefore before x ys
  none-lower x y [] e none = tt
  none-lower x y (z ∷ zs) e none = (o.chain z y x none.0 e, none-lower x y zs e none.1)

  put-rises : (x : X) (ys : List X) → Rises before ys → Rises before (put before x ys)
  put-rises x [] rise = (tt, tt)
  put-rises x (y ∷ ys) rise = by (before y x) refl (put-rises x ys rise.1)
    where
      by : (b : Bool) → before y x ≡ b → Rises before (put before x ys) → Rises before (cond b (y ∷ put before x ys) (x ∷ y ∷ ys))
      by true e rest = (all-put before (λ z. before z y ≡ false) x ys (o.one_way y x e) rise.0, rest)
      by false e rest = ((e, none-lower x y ys e rise.0), rise)

  pub sorted-rises : (xs : List X) → Rises before (sorted_by before xs)
  sorted-rises [] = tt
  sorted-rises (x ∷ xs) = put-rises x (sorted_by before xs) (sorted-rises xs)
