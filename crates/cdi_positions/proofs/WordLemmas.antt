-- The marks of a word by its bits.
use Rattle.cdi_positions.proofs.Common.{◌≡◌, ◌≢◌, ℕ, zero, suc, ◌+◌, ◌-◌, ◌*◌, ◌/◌, ◌%◌, ◌^◌, ◌<◌, ◌≤◌, Bool, true, false, not, eqb, List}
use Rattle.cdi_positions.proofs.Common.{◌∷◌, ◌++◌, length, take, set, refl, sym, ap, ap₂, ◌∙◌, arith, length-set, get_or-set_other}
use Rattle.cdi_positions.proofs.Common.{count_ones, bit_and, bit_or, ones-le, count_trailing_zeros, false≢true, count_below, is_marked}
use Rattle.cdi_positions.proofs.Common.{marked_count, marked_from, marks_in}
use borrow.Author.Tests.{eqb-true, eq-eqb}
use Rattle.std.proofs.Common.{min, ◌⊎◌, inl, inr, get_or-set_same}
use Rattle.std.proofs.lemmas.Nat.Bits.{bit_at_lowest, bit_at-suc, bit_at-lt, bit_at_and, bit_at_ones, bit_at_set_same, bit_at_set_other}
use Rattle.std.proofs.lemmas.Nat.Bits.{bit_at-trailing_zeros, shr_and_one, and_pow}
use Rattle.std.specs.Int.{bit_at, w64, Count.ones_step, Count.under, Bits.and_step, Bits.and_self, Bits.mask_lt}
use Rattle.std.proofs.{lemmas.Nat.one_shl, lemmas.List.ext_get_or, lemmas.Bool.Decides.nat_tests, Math.Pow.ones_lt}
use Rattle.cdi_positions.specs.Words.{low_marks}

length-low : (k n : ℕ) → length (low_marks k n) ≡ k
unfolding low_marks
length-low zero n = refl
length-low (suc k) n = ap suc (length-low k (n / 2))

at-low : (k n i : ℕ) → i < k → is_marked (low_marks k n) i ≡ eqb (bit_at n i) 1
unfolding low_marks
at-low zero n i p = absurd (omega arith)
at-low (suc k) n zero p = ap (λ d. eqb d 1) (sym (bit_at_lowest n))
at-low (suc k) n (suc i) p = at-low k (n / 2) i (omega arith) ∙ ap (λ d. eqb d 1) (sym (bit_at-suc n i))

same_low : (k m n : ℕ) → ((i : ℕ) → i < k → bit_at m i ≡ bit_at n i) → low_marks k m ≡ low_marks k n
same_low k m n same =
    ext_get_or false (low_marks k m) (low_marks k n) (length-low k m ∙ sym (length-low k n))
    (λ i p. let within : i < k = omega (arith, p, length-low k m) in
    at-low k m i within ∙ ap (λ d. eqb d 1) (same i within) ∙ sym (at-low k n i within))

take-low : (j k n : ℕ) → j ≤ k → take j (low_marks k n) ≡ low_marks j n
unfolding low_marks
take-low zero k n p = refl
take-low (suc j) zero n p = absurd (omega arith)
take-low (suc j) (suc k) n p = ap (λ ms. eqb (n % 2) 1 ∷ ms) (take-low j k (n / 2) (omega arith))

count-step : (d : ℕ) (ms : List Bool) → d < 2 → marked_count (eqb d 1 ∷ ms) ≡ d + marked_count ms
count-step zero ms p = omega arith
count-step (suc zero) ms p = omega arith
count-step (suc (suc d)) ms p = absurd (omega arith)

count-low : (k n : ℕ) → n < 2 ^ k → count_ones n ≡ marked_count (low_marks k n)
unfolding low_marks
count-low zero n p = omega (arith, ones-le zero n p)
count-low (suc k) n p =
    ones_step n ∙ ap (λ c. n % 2 + c) (count-low k (n / 2) (omega arith)) ∙ sym (count-step (n % 2) (low_marks k (n / 2)) (omega arith))

low_and_mask : (j n : ℕ) → low_marks j (bit_and n (2 ^ j - 1)) ≡ low_marks j n
low_and_mask j n =
    same_low j (bit_and n (2 ^ j - 1)) n
    (λ i p. bit_at_and n (2 ^ j - 1) i ∙ ap (min (bit_at n i)) (bit_at_ones j i p) ∙ omega (arith, bit_at-lt n i))

-- ---- a word of 64 bits

pub length-marks_in : (n : ℕ) → length (marks_in n) ≡ 64
unfolding marks_in
length-marks_in n = length-low 64 n

pub at-marks_in : (n i : ℕ) → i < 64 → is_marked (marks_in n) i ≡ eqb (bit_at n i) 1
unfolding marks_in
at-marks_in n i p = at-low 64 n i p

pub count-marks_in : (n : ℕ) → n < 2 ^ 64 → count_ones n ≡ marked_count (marks_in n)
unfolding marks_in
count-marks_in n p = count-low 64 n p

-- the bits below one
pub count_below-marks_in : (n j : ℕ) → j < 64 → count_ones (bit_and n (1 * 2 ^ j % 2 ^ 64 - 1)) ≡ count_below j (marks_in n)
unfolding marks_in
count_below-marks_in n j p =
    ap (λ b. count_ones (bit_and n (b - 1))) (one_shl j 64 p) ∙ count-low j (bit_and n (2 ^ j - 1)) (mask_lt n j)
    ∙ ap marked_count (low_and_mask j n ∙ sym (take-low j 64 n (omega arith)))

pub set-marks_in : (n j : ℕ) → j < 64 → marks_in (bit_or n (1 * 2 ^ j % 2 ^ 64)) ≡ set (marks_in n) j true
set-marks_in n j p =
    let m = bit_or n (1 * 2 ^ j % 2 ^ 64) in
    ext_get_or false (marks_in m) (set (marks_in n) j true) (length-marks_in m ∙ sym (length-set (marks_in n) j true ∙ length-marks_in n))
    (λ i q. at i (omega (arith, q, length-marks_in m)) (eqb i j) refl)
  where
    at : (i : ℕ) → i < 64 → (same : Bool) → eqb i j ≡ same
        → is_marked (marks_in (bit_or n (1 * 2 ^ j % 2 ^ 64))) i ≡ is_marked (set (marks_in n) j true) i
    at i q true h =
        let m = bit_or n (1 * 2 ^ j % 2 ^ 64) in
        let e = eqb-true i j h in
        ap (is_marked (marks_in m)) e ∙ at-marks_in m j p ∙ ap (λ d. eqb d 1) (bit_at_set_same w64 n j p)
        ∙ sym (ap (is_marked (set (marks_in n) j true)) e ∙ get_or-set_same (marks_in n) j true false (omega (arith, p, length-marks_in n)))
    at i q false h =
        let m = bit_or n (1 * 2 ^ j % 2 ^ 64) in
        let e : i ≢ j = λ same. false≢true (sym h ∙ eq-eqb i j same) in
        at-marks_in m i q ∙ ap (λ d. eqb d 1) (bit_at_set_other w64 n j p i e) ∙ sym (at-marks_in n i q)
        ∙ sym (get_or-set_other (marks_in n) j i true false e)

-- the test of a bit
pub test-bit : (n j : ℕ) → j < 64 → eqb (bit_and (n / 2 ^ j) 1) 1 ≡ is_marked (marks_in n) j
test-bit n j p = ap (λ d. eqb d 1) (shr_and_one n j) ∙ sym (at-marks_in n j p)

pub unset-bit : (n j : ℕ) → j < 64 → bit_and (n / 2 ^ j) 1 ≡ 0 → is_marked (marks_in n) j ≡ false
unset-bit n j p h = sym (test-bit n j p) ∙ ap (λ d. eqb d 1) h

pub set-bit : (n j : ℕ) → j < 64 → bit_and (n / 2 ^ j) 1 ≢ 0 → is_marked (marks_in n) j ≡ true
set-bit n j p h =
    let one : bit_and (n / 2 ^ j) 1 ≡ 1 = omega (arith, h, shr_and_one n j, bit_at-lt n j) in
    sym (test-bit n j p) ∙ ap (λ d. eqb d 1) one

suc_is_some : (m : ℕ) → eqb (suc m) 0 ≡ false
suc_is_some m = grind (arith, nat_tests)

-- the bit was not set
pub test-fresh : (n j : ℕ) → j < 64 → eqb (bit_and n (1 * 2 ^ j % 2 ^ 64)) 0 ≡ not (is_marked (marks_in n) j)
test-fresh n j p =
    ap (λ b. eqb (bit_and n b) 0) (one_shl j 64 p) ∙ ap (λ b. eqb b 0) (and_pow n j)
    ∙ fresh (bit_at n j) (2 ^ j) (bit_at-lt n j) (pow_pos j) ∙ ap not (sym (at-marks_in n j p))
  where
    fresh : (d m : ℕ) → d < 2 → 0 < m → eqb (d * m) 0 ≡ not (eqb d 1)
    fresh zero m p q = ap (λ x. eqb x 0) (let z : zero * m ≡ 0 = omega arith in z)
    fresh (suc zero) zero p q = absurd (omega arith)
    fresh (suc zero) (suc m) p q = ap (λ x. eqb x 0) (let z : suc zero * suc m ≡ suc m = omega arith in z) ∙ suc_is_some m
    fresh (suc (suc d)) m p q = absurd (omega arith)

    pow_pos : (k : ℕ) → 0 < 2 ^ k
    pow_pos k = omega (arith, ones_lt k)

-- ---- the positions of a word, one after another

none-low : (k at : ℕ) (rest : List Bool) → marked_from at (low_marks k 0 ++ rest) ≡ marked_from (at + k) rest
unfolding low_marks
none-low zero at rest = ap (λ n. marked_from n rest) (let e : at ≡ at + 0 = omega arith in e)
none-low (suc k) at rest = none-low k (at + 1) rest ∙ ap (λ n. marked_from n rest) (let e : at + 1 + k ≡ at + suc k = omega arith in e)

parity : (n : ℕ) → (n % 2 ≡ 0) ⊎ (n % 2 ≡ 1)
parity n = by (n % 2) (omega arith)
  where
    by : (d : ℕ) → d < 2 → (d ≡ 0) ⊎ (d ≡ 1)
    by zero p = inl refl
    by (suc zero) p = inr refl
    by (suc (suc d)) p = absurd (omega arith)

odd-and : (n : ℕ) → n % 2 ≡ 1 → (bit_and n (n - 1) % 2 ≡ 0) × (bit_and n (n - 1) / 2 ≡ n / 2)
odd-and n h =
    let half : (n - 1) / 2 ≡ n / 2 = omega arith in
    let high = ap (bit_and (n / 2)) half ∙ and_self (n / 2) in
    (omega (arith, and_step n (n - 1)), omega (arith, and_step n (n - 1), high))

even-and : (n : ℕ) → 0 < n → n % 2 ≡ 0 → (bit_and n (n - 1) % 2 ≡ 0) × (bit_and n (n - 1) / 2 ≡ bit_and (n / 2) (n / 2 - 1))
even-and n p h =
    let half : (n - 1) / 2 ≡ n / 2 - 1 = omega arith in
    let high = ap (bit_and (n / 2)) half in
    (omega (arith, and_step n (n - 1)), omega (arith, and_step n (n - 1), high))

module _ (rest : List Bool) where
  odd-step : (a d t e : ℕ) (xs ys : List Bool) → d ≡ 1 → e ≡ 0 → ys ≡ xs
      → marked_from a (eqb d 1 ∷ xs) ≡ (a + under d t) ∷ marked_from a (eqb e 1 ∷ ys)
  odd-step a d t e xs ys p q r =
      ap (λ d. marked_from a (eqb d 1 ∷ xs)) p ∙ ap (λ x. x ∷ marked_from (a + 1) xs) (let z : a ≡ a + 0 = omega arith in z)
      ∙ ap (λ zs. (a + 0) ∷ marked_from (a + 1) zs) (sym r)
      ∙ sym (ap₂ (λ d e. (a + under d t) ∷ marked_from a (eqb e 1 ∷ ys)) p q)

  even-step : (a d t e : ℕ) (xs ys : List Bool) → d ≡ 0 → e ≡ 0 → marked_from (a + 1) xs ≡ (a + 1 + t) ∷ marked_from (a + 1) ys
      → marked_from a (eqb d 1 ∷ xs) ≡ (a + under d t) ∷ marked_from a (eqb e 1 ∷ ys)
  even-step a d t e xs ys p q r =
      ap (λ d. marked_from a (eqb d 1 ∷ xs)) p ∙ r ∙ ap (λ x. x ∷ marked_from (a + 1) ys) (let z : a + 1 + t ≡ a + suc t = omega arith in z)
      ∙ sym (ap₂ (λ d e. (a + under d t) ∷ marked_from a (eqb e 1 ∷ ys)) p q)

  -- the lowest bit, and the others
  first-low : (k n a : ℕ) → 0 < n → n < 2 ^ k
      → marked_from a (low_marks k n ++ rest) ≡ (a + count_trailing_zeros k n) ∷ marked_from a (low_marks k (bit_and n (n - 1)) ++ rest)
  unfolding low_marks count_trailing_zeros
  first-low zero n a p q = absurd (omega arith)
  first-low (suc k) n a p q = elim (parity n) [
    | inr odd ↦
        let is = odd-and n odd in
        odd-step a (n % 2) (count_trailing_zeros k (n / 2)) (bit_and n (n - 1) % 2) (low_marks k (n / 2) ++ rest)
        (low_marks k (bit_and n (n - 1) / 2) ++ rest) odd is.0 (ap (λ h. low_marks k h ++ rest) is.1)
    | inl even ↦
        let is = even-and n p even in
        even-step a (n % 2) (count_trailing_zeros k (n / 2)) (bit_and n (n - 1) % 2) (low_marks k (n / 2) ++ rest)
        (low_marks k (bit_and n (n - 1) / 2) ++ rest) even is.0
        (first-low k (n / 2) (a + 1) (omega arith) (omega arith)
        ∙ ap (λ h. (a + 1 + count_trailing_zeros k (n / 2)) ∷ marked_from (a + 1) (low_marks k h ++ rest)) (sym is.1))
  ]

  pub first-marks_in : (n a : ℕ) → 0 < n → n < 2 ^ 64
      → marked_from a (marks_in n ++ rest) ≡ (a + count_trailing_zeros 64 n) ∷ marked_from a (marks_in (bit_and n (n - 1)) ++ rest)
  unfolding marks_in
  first-marks_in n a p q = first-low 64 n a p q

-- the lowest bit is set
pub lowest-bit : (n : ℕ) → 0 < n → n < 2 ^ 64
    → (count_trailing_zeros 64 n < 64) × (is_marked (marks_in n) (count_trailing_zeros 64 n) ≡ true)
lowest-bit n p q =
    let is = bit_at-trailing_zeros w64 n p q in
    (is.0, at-marks_in n (count_trailing_zeros 64 n) is.0 ∙ ap (λ d. eqb d 1) is.1)

odd-clear : (d t e : ℕ) (xs ys : List Bool) → d ≡ 1 → e ≡ 0 → ys ≡ xs → eqb e 1 ∷ ys ≡ set (eqb d 1 ∷ xs) (under d t) false
odd-clear d t e xs ys p q r =
    ap₂ (λ e ys. eqb e 1 ∷ ys) q r ∙ sym (ap (λ d. set (eqb d 1 ∷ xs) (under d t) false) p)

even-clear : (d t e : ℕ) (xs ys : List Bool) → d ≡ 0 → e ≡ 0 → ys ≡ set xs t false
    → eqb e 1 ∷ ys ≡ set (eqb d 1 ∷ xs) (under d t) false
even-clear d t e xs ys p q r =
    ap₂ (λ e ys. eqb e 1 ∷ ys) q r ∙ sym (ap (λ d. set (eqb d 1 ∷ xs) (under d t) false) p)

-- the others are left of them
clear-low : (k n : ℕ) → 0 < n → n < 2 ^ k → low_marks k (bit_and n (n - 1)) ≡ set (low_marks k n) (count_trailing_zeros k n) false
unfolding low_marks count_trailing_zeros
clear-low zero n p q = absurd (omega arith)
clear-low (suc k) n p q = elim (parity n) [
  | inr odd ↦
      let is = odd-and n odd in
      odd-clear (n % 2) (count_trailing_zeros k (n / 2)) (bit_and n (n - 1) % 2) (low_marks k (n / 2)) (low_marks k (bit_and n (n - 1) / 2))
      odd is.0 (ap (low_marks k) is.1)
  | inl even ↦
      let is = even-and n p even in
      even-clear (n % 2) (count_trailing_zeros k (n / 2)) (bit_and n (n - 1) % 2) (low_marks k (n / 2))
      (low_marks k (bit_and n (n - 1) / 2))
      even is.0 (ap (low_marks k) is.1 ∙ clear-low k (n / 2) (omega arith) (omega arith))
]

pub clear-marks_in : (n : ℕ) → 0 < n → n < 2 ^ 64 → marks_in (bit_and n (n - 1)) ≡ set (marks_in n) (count_trailing_zeros 64 n) false
unfolding marks_in
clear-marks_in n p q = clear-low 64 n p q

pub none-marks_in : (at : ℕ) (rest : List Bool) → marked_from at (marks_in 0 ++ rest) ≡ marked_from (at + 64) rest
unfolding marks_in
none-marks_in at rest = none-low 64 at rest
