-- Two lists, place by place; and what is found in lists.
use Rattle.cdi_staging.proofs.Common.{◌≡◌, ℕ, zero, suc, Bool, true, false, List, [], ◌∷◌, ◌++◌, map, Some, None, refl, sym, ap, subst, ◌∙◌}
use Rattle.cdi_staging.proofs.Common.{arith, flat_map, slice_get, false≢true, ◌+◌, cond, filter, inl, inr, find, position, position_from}
use Rattle.cdi_staging.proofs.Common.{option_or, position_from-zero, at-back, at-joined}
use Rattle.std.specs.List.{AllByRecursion}
use Rattle.base_lists.specs.Sorting.{sorted_by}
use Rattle.base_lists.proofs.{Each.all-at, Sorting.all-sorted}

-- at each place of two lists stand two that belong together
abbrev pub Beside : {X Y : Type 0} → (X → Y → Type 0) → List X → List Y → Type 0
Beside R [] [] = Unit {0}
Beside R [] (y ∷ ys) = ⊥
Beside R (x ∷ xs) [] = ⊥
Beside R (x ∷ xs) (y ∷ ys) = R x y × Beside R xs ys

beside-append : {X Y : Type 0} (R : X → Y → Type 0) (xs vs : List X) (ys ws : List Y) → Beside R xs ys → Beside R vs ws
    → Beside R (xs ++ vs) (ys ++ ws)
beside-append R [] vs [] ws first second = second
beside-append R [] vs (y ∷ ys) ws first second = absurd first
beside-append R (x ∷ xs) vs [] ws first second = absurd first
beside-append R (x ∷ xs) vs (y ∷ ys) ws first second = (first.0, beside-append R xs vs ys ws first.1 second)

pub beside-map : {P X Y : Type 0} (R : X → Y → Type 0) (f : P → X) (g : P → Y) (ps : List P)
    → ((j : ℕ) (p : P) → slice_get ps j ≡ Some p → R (f p) (g p)) → Beside R (map f ps) (map g ps)
beside-map R f g [] each = tt
beside-map R f g (p ∷ ps) each = (each zero p refl, beside-map R f g ps (λ j q e. each (suc j) q e))

pub beside-flat : {P X Y : Type 0} (R : X → Y → Type 0) (f : P → List X) (g : P → List Y) (ps : List P)
    → ((j : ℕ) (p : P) → slice_get ps j ≡ Some p → Beside R (f p) (g p)) → Beside R (flat_map f ps) (flat_map g ps)
beside-flat R f g [] each = tt
beside-flat R f g (p ∷ ps) each = beside-append R (f p) (flat_map f ps) (g p) (flat_map g ps) (each zero p refl)
    (beside-flat R f g ps (λ j q e. each (suc j) q e))

-- what stands at a place of the one belongs to what stands there in the other
pub record Second {X Y : Type 0} (R : X → Y → Type 0) (ys : List Y) (k : ℕ) (x : X) : Type 0 where
  pub value : Y
  pub there : slice_get ys k ≡ Some value
  pub fits : R x value

pub record First {X Y : Type 0} (R : X → Y → Type 0) (xs : List X) (k : ℕ) (y : Y) : Type 0 where
  pub value : X
  pub there : slice_get xs k ≡ Some value
  pub fits : R value y

pub second-at : {X Y : Type 0} (R : X → Y → Type 0) (xs : List X) (ys : List Y) (k : ℕ) (x : X) → Beside R xs ys
    → slice_get xs k ≡ Some x → Second R ys k x
second-at R [] ys k x both at = absurd (cc)
second-at R (v ∷ xs) [] k x both at = absurd both
second-at R (v ∷ xs) (y ∷ ys) zero x both at = grind (arith, both.0)
second-at R (v ∷ xs) (y ∷ ys) (suc k) x both at = grind (arith, second-at R xs ys k x both.1 at, both.1)

pub first-at : {X Y : Type 0} (R : X → Y → Type 0) (xs : List X) (ys : List Y) (k : ℕ) (y : Y) → Beside R xs ys
    → slice_get ys k ≡ Some y → First R xs k y
first-at R [] [] k y both at = absurd (cc)
first-at R [] (w ∷ ys) k y both at = absurd both
first-at R (x ∷ xs) [] k y both at = absurd both
first-at R (x ∷ xs) (w ∷ ys) zero y both at = grind (arith, both.0)
first-at R (x ∷ xs) (w ∷ ys) (suc k) y both at = grind (arith, first-at R xs ys k y both.1 at, both.1)

-- ---- what is found

-- an element of a filtered list
pub from-filter : {X : Type 0} (p : X → Bool) (xs : List X) (k : ℕ) (x : X) → slice_get (filter p xs) k ≡ Some x
    → (j : ℕ) × (slice_get xs j ≡ Some x) × (p x ≡ true)
from-filter p [] k x at = absurd (cc)
from-filter p (v ∷ xs) k x at = by (p v) refl (λ i. from-filter p xs i x) k at
  where
    by : (b : Bool) → p v ≡ b → ((i : ℕ) → slice_get (filter p xs) i ≡ Some x → (j : ℕ) × (slice_get xs j ≡ Some x) × (p x ≡ true))
        → (i : ℕ) → slice_get (cond b (v ∷ filter p xs) (filter p xs)) i ≡ Some x
        → (j : ℕ) × (slice_get (v ∷ xs) j ≡ Some x) × (p x ≡ true)
    by true e more zero here =
        let same : v ≡ x = cc in
        (zero, here, subst (λ w. p w ≡ true) same e)
    by true e more (suc i) here = let rest = more i here in (suc rest.0, rest.1, rest.2)
    by false e more i here = let rest = more i here in (suc rest.0, rest.1, rest.2)

-- the position of the first that passes, where one does
pub record FoundFrom {X : Type 0} (p : X → Bool) (n : ℕ) (xs : List X) : Type 0 where
  pub place : ℕ
  pub value : X
  pub position_is : position_from p n xs ≡ Some (n + place)
  pub find_is : find p xs ≡ Some value
  pub there : slice_get xs place ≡ Some value
  pub passes : p value ≡ true

found-from : {X : Type 0} (p : X → Bool) (n : ℕ) (xs : List X) (k : ℕ) (x : X) → slice_get xs k ≡ Some x → p x ≡ true → FoundFrom p n xs
found-from p n [] k x at passes = absurd (cc)
found-from p n (v ∷ xs) k x at passes = by (p v) refl (λ i here. found-from p (n + 1) xs i x here passes) k at
  where
    by : (b : Bool) → p v ≡ b → ((i : ℕ) → slice_get xs i ≡ Some x → FoundFrom p (n + 1) xs)
        → (i : ℕ) → slice_get (v ∷ xs) i ≡ Some x → FoundFrom p n (v ∷ xs)
    by true e more i here = record {
      place = zero;
      value = v;
      position_is = ap (λ b. cond b (Some n) (position_from p (n + 1) xs)) e ∙ ap Some (omega arith);
      find_is = ap (λ b. cond b (Some v) (find p xs)) e;
      there = refl;
      passes = e;
    }
    by false e more zero here =
        let same : v ≡ x = cc in
        absurd (false≢true (sym (subst (λ w. p w ≡ false) same e) ∙ passes))
    by false e more (suc i) here =
        let rest = more i here in
        record {
          place = suc rest.place;
          value = rest.value;
          position_is = ap (λ b. cond b (Some n) (position_from p (n + 1) xs)) e ∙ rest.position_is ∙ ap Some (omega arith);
          find_is = ap (λ b. cond b (Some v) (find p xs)) e ∙ rest.find_is;
          there = rest.there;
          passes = rest.passes;
        }

pub record Found {X : Type 0} (p : X → Bool) (xs : List X) : Type 0 where
  pub place : ℕ
  pub value : X
  pub position_is : position p xs ≡ Some place
  pub find_is : find p xs ≡ Some value
  pub there : slice_get xs place ≡ Some value
  pub passes : p value ≡ true

-- where one passes, the first that does is found
pub found : {X : Type 0} (p : X → Bool) (xs : List X) (k : ℕ) (x : X) → slice_get xs k ≡ Some x → p x ≡ true → Found p xs
found p xs k x at passes =
    let from = found-from p 0 xs k x at passes in
    record {
      place = from.place;
      value = from.value;
      position_is = position_from-zero p xs ∙ from.position_is ∙ ap Some (omega arith);
      find_is = from.find_is;
      there = from.there;
      passes = from.passes;
    }

finds : {X : Type 0} (p : X → Bool) (xs : List X) (x : X) → find p xs ≡ Some x → (k : ℕ) × (slice_get xs k ≡ Some x) × (p x ≡ true)
finds p [] x e = absurd (cc)
finds p (v ∷ xs) x e = by (p v) refl (finds p xs x) e
  where
    by : (b : Bool) → p v ≡ b → (find p xs ≡ Some x → (k : ℕ) × (slice_get xs k ≡ Some x) × (p x ≡ true))
        → cond b (Some v) (find p xs) ≡ Some x → (k : ℕ) × (slice_get (v ∷ xs) k ≡ Some x) × (p x ≡ true)
    by true passes more is =
        let same : v ≡ x = cc in
        (zero, is, subst (λ w. p w ≡ true) same passes)
    by false passes more is = let rest = more is in (suc rest.0, rest.1, rest.2)

-- what is found passes, and stands somewhere
pub of-find : {X : Type 0} (p : X → Bool) (xs : List X) (x : X) → find p xs ≡ Some x → Found p xs
of-find p xs x e = let at = finds p xs x e in found p xs at.0 x at.1 at.2

-- where none is found none has a position
none-from : {X : Type 0} (p : X → Bool) (n : ℕ) (xs : List X) → find p xs ≡ None → position_from p n xs ≡ None
none-from p n [] e = refl
none-from p n (v ∷ xs) e = grind (arith, none-from p (n + 1) xs)

pub no-position : {X : Type 0} (p : X → Bool) (xs : List X) → find p xs ≡ None → position p xs ≡ None
no-position p xs e = position_from-zero p xs ∙ none-from p 0 xs e

-- what is found in one list, or else in another, is found in both
pub find-append : {X : Type 0} (p : X → Bool) (xs ys : List X) → find p (xs ++ ys) ≡ option_or (find p xs) (find p ys)
find-append p [] ys = refl
find-append p (v ∷ xs) ys = grind (arith, find-append p xs ys)

pub in-append-left : {X : Type 0} (xs ys : List X) (k : ℕ) (x : X) → slice_get xs k ≡ Some x → (i : ℕ) × (slice_get (xs ++ ys) i ≡ Some x)
in-append-left [] ys k x e = absurd (cc)
in-append-left (v ∷ xs) ys zero x e = (zero, e)
in-append-left (v ∷ xs) ys (suc k) x e = let rest = in-append-left xs ys k x e in (suc rest.0, rest.1)

-- what one element gives is among what all give
pub in-flat : {P X : Type 0} (f : P → List X) (ps : List P) (k : ℕ) (p : P) (j : ℕ) (x : X) → slice_get ps k ≡ Some p
    → slice_get (f p) j ≡ Some x → (i : ℕ) × (slice_get (flat_map f ps) i ≡ Some x)
in-flat f [] k p j x at there = absurd (cc)
in-flat f (v ∷ ps) zero p j x at there =
    let same : v ≡ p = cc in
    in-append-left (f v) (flat_map f ps) j x (subst (λ w. slice_get (f w) j ≡ Some x) (sym same) there)
in-flat f (v ∷ ps) (suc k) p j x at there =
    let rest = in-flat f ps k p j x at there in
    at-back (f v) (flat_map f ps) rest.0 x rest.1

-- what is among what all give is among what one element gives
pub record FromFlat {P X : Type 0} (f : P → List X) (ps : List P) (x : X) : Type 0 where
  pub place : ℕ
  pub value : P
  pub there : slice_get ps place ≡ Some value
  pub at : ℕ
  pub gives : slice_get (f value) at ≡ Some x

pub from-flat : {P X : Type 0} (f : P → List X) (ps : List P) (k : ℕ) (x : X) → slice_get (flat_map f ps) k ≡ Some x → FromFlat f ps x
from-flat f [] k x e = absurd (cc)
from-flat f (p ∷ ps) k x e = elim (at-joined (f p) (flat_map f ps) k x e) [
  | inl here ↦ record { place = zero; value = p; there = refl; at = k; gives = here }
  | inr later ↦
      let rest = from-flat f ps later.0 x later.2 in
      record { place = suc rest.place; value = rest.value; there = rest.there; at = rest.at; gives = rest.gives }
]

all-of : {X : Type 0} (P : X → Type 0) (xs : List X) → ((k : ℕ) (x : X) → slice_get xs k ≡ Some x → P x) → AllByRecursion P xs
all-of P [] each = tt
all-of P (x ∷ xs) each = (each zero x refl, all-of P xs (λ k y e. each (suc k) y e))

-- what stands in a list that was put in order stood in the list
pub from-sorted : {X : Type 0} (before : X → X → Bool) (xs : List X) (k : ℕ) (x : X) → slice_get (sorted_by before xs) k ≡ Some x
    → (j : ℕ) × (slice_get xs j ≡ Some x)
from-sorted {X = X} before xs k x e =
    let stood : X → Type 0 = λ y. (j : ℕ) × (slice_get xs j ≡ Some y) in
    all-at stood (sorted_by before xs) k x (all-sorted before stood xs (all-of stood xs (λ j y at. (j, at)))) e
