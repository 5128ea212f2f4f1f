-- What is put in order and then filtered is what is filtered and then put in order.
use Rattle.cdi_seen.proofs.Common.{◌≡◌, Bool, true, false, cond, List, [], ◌∷◌, ◌++◌, filter, flat_map, refl, ap, ◌∙◌, IsStrictWeakOrder}
use Rattle.cdi_seen.proofs.Common.{sorted_by, arith}
use Rattle.base_lists.proofs.Sorting.{NoneBefore, Rises, none-lower, sorted-rises}
use Rattle.base_lists.specs.Sorting.{put}
use Rattle.cdi_seen.specs.Gives.{FilteredInOrder}

module _ {X : Type 0} (lt : X → X → Bool) (o : IsStrictWeakOrder lt) where
  -- one before which none comes is put first
  put-first : (x : X) (ys : List X) → NoneBefore lt x ys → put lt x ys ≡ x ∷ ys
  put-first x [] h = refl
  put-first x (y ∷ ys) h = ap (λ (b : Bool). cond b (y ∷ put lt x ys) (x ∷ y ∷ ys)) h.0

  none-filtered : (p : X → Bool) (x : X) (ys : List X) → NoneBefore lt x ys → NoneBefore lt x (filter p ys)
  none-filtered p x [] h = tt
  none-filtered p x (y ∷ ys) h = grind (arith, none-filtered p x ys h.1, h.1, h.0)

  -- one that fails the test
  put-out : (p : X → Bool) (x : X) (ys : List X) → p x ≡ false → filter p (put lt x ys) ≡ filter p ys
  put-out p x [] out = ap (λ (b : Bool). cond {A = List X} b (x ∷ []) []) out
  put-out p x (y ∷ ys) out = grind (arith, put-out p x ys out)

  -- one that passes it
  put-in : (p : X → Bool) (x : X) (ys : List X) → p x ≡ true → Rises lt ys → filter p (put lt x ys) ≡ put lt x (filter p ys)
  put-in p x [] passes r = ap (λ (b : Bool). cond {A = List X} b (x ∷ []) []) passes
  put-in p x (y ∷ ys) passes r = grind (arith, put-in p x ys passes r.1, r.1, r.0, put-first, none-filtered, none-lower)

  filter-sorted : (p : X → Bool) (xs : List X) → filter p (sorted_by lt xs) ≡ sorted_by lt (filter p xs)
  filter-sorted p [] = refl
  filter-sorted p (x ∷ xs) = grind (arith, filter-sorted p xs, put-in, sorted-rises, put-out)

pub filtered_in_order : {X : Type 0} → FilteredInOrder X
filtered_in_order lt o p xs = filter-sorted lt o p xs

-- what is made of a list part by part is made of what each gives
pub each_given : {A X E : Type 0} (h : List A → List X) → h [] ≡ [] → ((xs ys : List A) → h (xs ++ ys) ≡ h xs ++ h ys)
    → (g : E → List A) (es : List E) → h (flat_map g es) ≡ flat_map (λ e. h (g e)) es
each_given h none parts g [] = none
each_given h none parts g (e ∷ es) = parts (g e) (flat_map g es) ∙ ap (λ more. h (g e) ++ more) (each_given h none parts g es)
