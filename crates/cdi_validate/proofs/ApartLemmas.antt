-- Lists of which each is apart from the later ones.
use Rattle.cdi_validate.proofs.Common.{◌≡◌, List, ◌++◌, sym, ap, ◌∙◌, flat_map, ◌≢◌, ◌<◌, ℕ, zero, suc, Bool, true, false, cond, [], ◌∷◌}
use Rattle.cdi_validate.proofs.Common.{length, map, filter, Ordering, refl, arith, AllByRecursion, AllPairs, IsStrictlySortedBy}
use Rattle.cdi_validate.proofs.Common.{tied_itself, all-weaker, all-append, all-back}
use Rattle.std.specs.{List.slice_index_or, Cmp.IsTotalOrder}
use Rattle.base_lists.proofs.Each.{all-front, all-filter}

-- ---- each apart from the later ones

abbrev pub Apart : {X : Type 0} → (X → X → Type 0) → List X → Type 0
Apart R [] = Unit {0}
Apart R (x ∷ xs) = AllByRecursion (R x) xs × Apart R xs

all-at : {X : Type 0} (P : X → Type 0) (xs : List X) → AllByRecursion P xs → (j : ℕ) (d : X) → j < length xs → P (slice_index_or xs j d)
all-at P [] all j d lt = absurd (omega (arith, lt))
all-at P (x ∷ xs) all zero d lt = all.0
all-at P (x ∷ xs) all (suc j) d lt = all-at P xs all.1 j d (omega (arith, lt))

all-from : {X : Type 0} (P : X → Type 0) (xs : List X) → ((j : ℕ) (d : X) → j < length xs → P (slice_index_or xs j d)) → AllByRecursion P xs
all-from P [] each = tt
all-from P (x ∷ xs) each = (each zero x (omega arith), all-from P xs (λ j d lt. each (suc j) d (omega (arith, lt))))

pub apart-pairs : {X : Type 0} (R : X → X → Type 0) (xs : List X) → Apart R xs → AllPairs R xs
apart-pairs R [] apart i j d lt within = absurd (omega (arith, within))
apart-pairs R (x ∷ xs) apart i zero d lt within = absurd (omega (arith, lt))
apart-pairs R (x ∷ xs) apart zero (suc j) d lt within = all-at (R x) xs apart.0 j d (omega (arith, within))
apart-pairs R (x ∷ xs) apart (suc i) (suc j) d lt within = apart-pairs R xs apart.1 i j d (omega (arith, lt)) (omega (arith, within))

pub pairs-apart : {X : Type 0} (R : X → X → Type 0) (xs : List X) → AllPairs R xs → Apart R xs
pairs-apart R [] all = tt
pairs-apart R (x ∷ xs) all = (
  all-from (R x) xs (λ j d lt. all zero (suc j) d (omega arith) (omega (arith, lt))),
  pairs-apart R xs (λ i j d lt within. all (suc i) (suc j) d (omega (arith, lt)) (omega (arith, within))),
)

-- ---- lists put together

pub apart-more : {X : Type 0} (R S : X → X → Type 0) → ((x y : X) → R x y → S x y) → (xs : List X) → Apart R xs → Apart S xs
apart-more R S more [] apart = tt
apart-more R S more (x ∷ xs) apart = (all-weaker (R x) (S x) xs (more x) apart.0, apart-more R S more xs apart.1)

pub apart-filter : {X : Type 0} (R : X → X → Type 0) (test : X → Bool) (xs : List X) → Apart R xs → Apart R (filter test xs)
apart-filter R test [] apart = tt
apart-filter R test (x ∷ xs) apart = grind (arith, apart-filter R test xs apart.1, apart.1, apart.0, all-filter)

pub all-map : {X Y : Type 0} (P : Y → Type 0) (f : X → Y) (xs : List X) → AllByRecursion (λ x. P (f x)) xs → AllByRecursion P (map f xs)
all-map P f [] all = tt
all-map P f (x ∷ xs) all = (all.0, all-map P f xs all.1)

pub apart-back : {X : Type 0} (R : X → X → Type 0) (xs ys : List X) → Apart R (xs ++ ys) → Apart R ys
apart-back R [] ys apart = apart
apart-back R (x ∷ xs) ys apart = apart-back R xs ys apart.1

-- what holds of two by what holds of each and of both
pub apart-by : {X : Type 0} (R S : X → X → Type 0) (P : X → Type 0) → ((x y : X) → P x → P y → R x y → S x y) → (xs : List X)
    → AllByRecursion P xs → Apart R xs → Apart S xs
apart-by R S P both [] all apart = tt
apart-by R S P both (x ∷ xs) all apart = (behind xs all.1 apart.0, apart-by R S P both xs all.1 apart.1)
  where
    behind : (ys : List _) → AllByRecursion P ys → AllByRecursion (R x) ys → AllByRecursion (S x) ys
    behind [] each to = tt
    behind (y ∷ ys) each to = (both x y all.0 each.0 to.0, behind ys each.1 to.1)

-- ---- what each of some gives

pub flat-same : {X Y : Type 0} (f g : X → List Y) (xs : List X) → AllByRecursion (λ x. f x ≡ g x) xs → flat_map f xs ≡ flat_map g xs
flat-same f g [] same = refl
flat-same f g (x ∷ xs) same = ap (λ ys. ys ++ flat_map f xs) same.0 ∙ ap (λ ys. g x ++ ys) (flat-same f g xs same.1)

pub flat-all : {X Y : Type 0} (P : Y → Type 0) (f : X → List Y) (xs : List X) → AllByRecursion (λ x. AllByRecursion P (f x)) xs
    → AllByRecursion P (flat_map f xs)
flat-all P f [] all = tt
flat-all P f (x ∷ xs) all = all-append P (f x) (flat_map f xs) all.0 (flat-all P f xs all.1)

-- what is apart stays so where some are left out
module _ {X Y : Type 0} (f : X → List Y) (p : X → Bool) where
  all-left : (P : Y → Type 0) (xs : List X) → AllByRecursion P (flat_map f xs) → AllByRecursion P (flat_map f (filter p xs))
  all-left P [] all = tt
  all-left P (x ∷ xs) all = by (p x) (all-left P xs (all-back P (f x) (flat_map f xs) all))
    where
      by : (b : Bool) → AllByRecursion P (flat_map f (filter p xs)) → AllByRecursion P (flat_map f (cond b (x ∷ filter p xs) (filter p xs)))
      by true rest = all-append P (f x) (flat_map f (filter p xs)) (all-front P (f x) (flat_map f xs) all) rest
      by false rest = rest

  front-left : (R : Y → Y → Type 0) (xs : List X) (ys : List Y) → Apart R (ys ++ flat_map f xs) → Apart R (flat_map f (filter p xs))
      → Apart R (ys ++ flat_map f (filter p xs))
  front-left R xs [] apart rest = rest
  front-left R xs (y ∷ ys) apart rest = (
    all-append (R y) ys (flat_map f (filter p xs)) (all-front (R y) ys (flat_map f xs) apart.0)
        (all-left (R y) xs (all-back (R y) ys (flat_map f xs) apart.0)),
    front-left R xs ys apart.1 rest,
  )

  pub apart-left : (R : Y → Y → Type 0) (xs : List X) → Apart R (flat_map f xs) → Apart R (flat_map f (filter p xs))
  apart-left R [] apart = tt
  apart-left R (x ∷ xs) apart = by (p x) (apart-left R xs (apart-back R (f x) (flat_map f xs) apart))
    where
      by : (b : Bool) → Apart R (flat_map f (filter p xs)) → Apart R (flat_map f (cond b (x ∷ filter p xs) (filter p xs)))
      by true rest = front-left R xs (f x) apart rest
      by false rest = rest

  pub pairs-left : (R : Y → Y → Type 0) (xs : List X) → AllPairs R (flat_map f xs) → AllPairs R (flat_map f (filter p xs))
  pairs-left R xs all = apart-pairs R (flat_map f (filter p xs)) (apart-left R xs (pairs-apart R (flat_map f xs) all))

-- ---- what differs

abbrev pub Differ : {X : Type 0} → List X → Type 0
Differ xs = Apart (λ x y. x ≢ y) xs

pub differ-map : {X Y : Type 0} (f : X → Y) → ((x y : X) → f x ≡ f y → x ≡ y) → (xs : List X) → Differ xs → Differ (map f xs)
differ-map f one [] differ = tt
differ-map f one (x ∷ xs) differ = grind (arith, differ-map f one xs differ.1, differ.0, differ.1, all-map, all-weaker)

-- what has one tag differs from what has another
module _ {X T : Type 0} (tag : X → T) where
  abbrev pub Tagged : T → List X → Type 0
  Tagged t xs = AllByRecursion (λ x. tag x ≡ t) xs

  pub differ-append : (t : T) (xs ys : List X) → Tagged t xs → AllByRecursion (λ y. tag y ≢ t) ys → Differ xs → Differ ys
      → Differ (xs ++ ys)
  differ-append t [] ys tagged others apart rest = rest
  differ-append t (x ∷ xs) ys tagged others apart rest =
      grind (arith, differ-append t xs ys tagged.1 others apart.1 rest, apart.0, tagged.0, tagged.1, apart.1, all-append, all-weaker)

  module _ {D : Type 0} (f : D → List X) (key : D → T) (tagged : (d : D) → Tagged (key d) (f d)) where
    -- none of these has the tag
    none-tagged : (t : T) (ds : List D) → AllByRecursion (λ d. t ≢ key d) ds → AllByRecursion (λ y. tag y ≢ t) (flat_map f ds)
    none-tagged t [] others = tt
    none-tagged t (d ∷ ds) others =
        all-append (λ y. tag y ≢ t) (f d) (flat_map f ds)
        (all-weaker (λ y. tag y ≡ key d) (λ y. tag y ≢ t) (f d) (λ y of_y e. others.0 (sym e ∙ of_y)) (tagged d))
        (none-tagged t ds others.1)

    pub differ-flat_map : ((d : D) → Differ (f d)) → (ds : List D) → Apart (λ d e. key d ≢ key e) ds → Differ (flat_map f ds)
    differ-flat_map each [] apart = tt
    differ-flat_map each (d ∷ ds) apart =
        differ-append (key d) (f d) (flat_map f ds) (tagged d) (none-tagged (key d) ds apart.0) (each d) (differ-flat_map each ds apart.1)

-- ---- what rises

-- what rises in an order has nothing twice
pub rising-differ : {X : Type 0} {order : X → X → Ordering} → IsTotalOrder order → (xs : List X) → IsStrictlySortedBy order xs → Differ xs
unfolding IsStrictlySortedBy
rising-differ total [] rise = tt
rising-differ {order = order} total (x ∷ xs) rise = grind (arith, rising-differ total xs rise.1, rise.0, rise.1, all-weaker, tied_itself)

-- what differs by its texts differs
pub differ-by : {X Y : Type 0} (f : X → Y) (xs : List X) → Differ (map f xs) → Differ xs
differ-by f [] differ = tt
differ-by f (x ∷ xs) differ = (from_map xs differ.0, differ-by f xs differ.1)
  where
    from_map : (ys : List _) → AllByRecursion (λ y. f x ≢ y) (map f ys) → AllByRecursion (λ y. x ≢ y) ys
    from_map [] all = tt
    from_map (y ∷ ys) all = ((λ e. all.0 (ap f e)), from_map ys all.1)
