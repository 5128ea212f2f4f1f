-- What was made for an instance is younger than it.
use Rattle.std.proofs.Common.{◌≡◌, ℕ, zero, suc, ◌<◌, ◌≤◌, Bool, true, false, cond, nat_lt, leb, List, [], ◌∷◌, take, drop, length, reverse}
use Rattle.std.proofs.Common.{◌-◌, Option, Some, None, refl, arith, ap, sym, subst, ◌∙◌}
use Rattle.std.specs.List.{find, AllByRecursion, Sorted.IsPartitionPoint, Sorted.IsPartitionedBy}
use Rattle.std.specs.Option.{option_or, option_map}
use Rattle.std.proofs.lemmas.{Bool.Decides.nat_tests, List.reverse-append, List.take_rest, List.Folds.find-append}
use Rattle.std.proofs.lemmas.{List.Sorted.IsPartitionedBy-leb, Bool.leb-true, Bool.leb-false}
use Rattle.cdi_contexts.proofs.Last.{part_above}
use Rattle.cdi_contexts.proofs.Places.{number_at, along}
use Rattle.cdi_contexts.specs.{Owned.is_part_of, Places.younger_than, Rising.IsRising, Rising.RisesFrom, Standing.last_of}
use Rattle.cdi_contexts.specs.declared.instance.Instance.{Instance}

-- ---- the younger ones are the back of the list

leaves : (b : Bool) (i : Instance) (is : List Instance) → b ≡ false → cond b (i ∷ is) is ≡ is
leaves b i is h = grind arith

takes : (b : Bool) (i : Instance) (is : List Instance) → b ≡ true → cond b (i ∷ is) is ≡ i ∷ is
takes b i is h = grind arith

all_young : (n : ℕ) (live : List Instance) → ((k : ℕ) (d : Instance) → k < length live → n < number_at live k d)
    → younger_than n live ≡ live
all_young n [] young = refl
all_young n (i ∷ is) young =
    let first = young 0 i (omega arith) in
    let rest = all_young n is (λ k d h. young (suc k) d (omega (arith, h))) in
    takes (nat_lt n i.id.number) i (younger_than n is) (grind (arith, nat_tests, first)) ∙ ap (λ is. i ∷ is) rest

back : (n : ℕ) (live : List Instance) (m : ℕ) → ((k : ℕ) (d : Instance) → k < m → number_at live k d ≤ n)
    → ((k : ℕ) (d : Instance) → m ≤ k → k < length live → n < number_at live k d) → drop m live ≡ younger_than n live
back n [] zero old young = refl
back n [] (suc m) old young = refl
back n (i ∷ is) zero old young = sym (all_young n (i ∷ is) (λ k d h. young k d (omega arith) h))
back n (i ∷ is) (suc m) old young =
    let first = old 0 i (omega arith) in
    let rest = back n is m (λ k d h. old (suc k) d (omega (arith, h)))
    (λ k d h b. young (suc k) d (omega (arith, h)) (omega (arith, b))) in
    rest ∙ sym (leaves (nat_lt n i.id.number) i (younger_than n is) (grind (arith, nat_tests, first)))

parted : (given n : ℕ) (live : List Instance) → IsRising given live → IsPartitionedBy (λ i. leb i.id.number n) live
parted given n live r = IsPartitionedBy-leb (λ (i : Instance). i.id.number) live n (λ i j d h b. along 0 given live i j d r h b)

younger_back : (n : ℕ) (live : List Instance) (m : ℕ) → m ≤ length live
    → IsPartitionPoint (λ (i : Instance). leb i.id.number n ≡ true) (λ i. leb i.id.number n ≡ false) live m
    → drop m live ≡ younger_than n live
younger_back n live m bound point =
    back n live m (λ k d h. leb-true _ n (point.0 k d (omega arith) h)) (λ k d h b. leb-false _ n (point.1 k d h b))

-- along what the code reads
pub parted_along : (given n : ℕ) (live xs : List Instance) → xs ≡ live → IsRising given live
    → IsPartitionedBy (λ (i : Instance). leb i.id.number n) xs
parted_along given n live xs e r = subst (IsPartitionedBy (λ (i : Instance). leb i.id.number n)) (sym e) (parted given n live r)

pub younger_along : (n : ℕ) (live xs ys : List Instance) (m : ℕ) → xs ≡ live → ys ≡ live → m ≤ length xs
    → IsPartitionPoint (λ (i : Instance). leb i.id.number n ≡ true) (λ i. leb i.id.number n ≡ false) xs m
    → take (length ys - m) (drop m ys) ≡ younger_than n live
younger_along n live xs ys m e f bound point = grind (arith, leb, take_rest, drop, younger_back, length)

-- ---- dependents are among the younger ones

-- one of which p is true is younger
abbrev IsYoung : ℕ → (Instance → Bool) → Instance → Type 0
IsYoung n p i = p i ≡ true → nat_lt n i.id.number ≡ true

is_above : (n x : ℕ) → n < x → nat_lt n x ≡ true
is_above n x h = grind (arith, nat_tests)

all_part_young : (low given n : ℕ) (live : List Instance) → RisesFrom low given live
    → AllByRecursion (IsYoung n (λ i. is_part_of n i.owner)) live
all_part_young low given n [] r = tt
all_part_young low given n (i ∷ is) r =
    let young = λ (e : is_part_of n i.owner ≡ true). is_above n i.id.number (part_above i.id.number n i.owner r.1 e) in
    (young, all_part_young i.id.number given n is r.2)

or_none : (o : Option Instance) → option_or o None ≡ o
or_none (Some i) = refl
or_none None = refl

find_end : (p : Instance → Bool) (i : Instance) (is : List Instance)
    → find p (reverse (i ∷ is)) ≡ option_or (find p (reverse is)) (cond (p i) (Some i) None)
find_end p i is = ap (find p) (reverse-append (i ∷ []) is) ∙ find-append p (reverse is) (i ∷ [])

skips_back : (b c : Bool) (p : Instance → Bool) (i : Instance) (is js : List Instance) → p i ≡ c → (c ≡ true → b ≡ true)
    → find p (reverse is) ≡ find p (reverse js) → find p (reverse (cond b (i ∷ is) is)) ≡ find p (reverse (i ∷ js))
skips_back b c p i is js pc young e = grind (arith, find_end, reverse, or_none)

find_young_back : (n : ℕ) (p : Instance → Bool) (live : List Instance) → AllByRecursion (IsYoung n p) live
    → find p (reverse (younger_than n live)) ≡ find p (reverse live)
find_young_back n p [] a = refl
find_young_back n p (i ∷ is) a =
    skips_back (nat_lt n i.id.number) (p i) p i (younger_than n is) is refl a.0 (find_young_back n p is a.1)

pub last_young : (given n : ℕ) (live : List Instance) → IsRising given live → last_of (younger_than n live) n ≡ last_of live n
last_young given n live r =
    ap (option_map (λ i. i.id)) (find_young_back n (λ i. is_part_of n i.owner) live (all_part_young 0 given n live r))
