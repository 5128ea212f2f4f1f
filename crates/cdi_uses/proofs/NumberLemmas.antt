-- The text of a number is read back as it.
use Rattle.cdi_uses.proofs.Common.{◌≡◌, ℕ, ℤ, pos, suc, ◌+◌, ◌-◌, ◌*◌, ◌<◌, ◌≤◌, Bool, true, false, List, [], ◌∷◌, ◌++◌, length, Some, refl}
use Rattle.cdi_uses.proofs.Common.{ap, ◌∙◌, inl, inr, arith, ◌==◌, nat_le, option_map, AllByRecursion, neg_ℤ, cases_Bool, and_parts}
use Rattle.cdi_uses.proofs.Common.{leb-true, ne_eqb, eqb-true, none-some, same_Some, digit_zero, minus, is_digit, value_after, magnitude}
use Rattle.cdi_uses.proofs.Common.{within, number_of}
use Rattle.std.proofs.Common.{negsuc, ◌/◌, ◌%◌, ◌^◌, decimal}
use Rattle.std.proofs.lemmas.{Bool.le-leb, Fmt.decimal_by_steps, Fmt.decimal_nonempty}
use Rattle.cdi_model.specs.Bytes.{digit_nine}
use Rattle.cdi_uses.specs.Meaning.{NumbersReadBack}

digit : (d : ℕ) → d < 10 → is_digit (digit_zero + d) ≡ true
digit d h = grind (arith, le-leb)

-- one more digit
pushed : (n : ℕ) (ds : List ℕ) (v c : ℕ) → value_after n ds ≡ Some v → is_digit c ≡ true
    → value_after n (ds ++ c ∷ []) ≡ Some (10 * v + (c - digit_zero))
pushed n [] v c e d = rw d (ap (λ m. Some (10 * m + (c - digit_zero))) (same_Some n v e))
pushed n (x ∷ xs) v c e d = by (is_digit x) refl (pushed (10 * n + (x - digit_zero)) xs v c)
  where
    by : (b : Bool) → is_digit x ≡ b → (value_after (10 * n + (x - digit_zero)) xs ≡ Some v → is_digit c ≡ true
        → value_after (10 * n + (x - digit_zero)) (xs ++ c ∷ []) ≡ Some (10 * v + (c - digit_zero)))
        → value_after n ((x ∷ xs) ++ c ∷ []) ≡ Some (10 * v + (c - digit_zero))
    by true is rest = rw is (rest (rw is at e) d)
    by false is rest = absurd (none-some v (rw is at e))

value-decimal : (n : ℕ) → n < 2 ^ 64 → value_after 0 (decimal n) ≡ Some n
value-decimal n h = decimal_by_steps (λ m ds. value_after 0 ds ≡ Some m) one more n h
  where
    one : (m : ℕ) → m < 10 → value_after 0 ((digit_zero + m) ∷ []) ≡ Some m
    one m small = rw (digit m small) (ap Some (omega arith))

    more : (m : ℕ) (ds : List ℕ) → 10 ≤ m → value_after 0 ds ≡ Some (m / 10) → value_after 0 (ds ++ ((digit_zero + m % 10) ∷ [])) ≡ Some m
    more m ds large e = pushed 0 ds (m / 10) (digit_zero + m % 10) e (digit (m % 10) (omega arith)) ∙ ap Some (omega arith)

-- digits alone are a number, if it is small enough
of_digits : (ds : List ℕ) (n : ℕ) → 0 < length ds → value_after 0 ds ≡ Some n → n ≤ 9223372036854775807 → number_of ds ≡ Some (pos n)
of_digits [] n some e small = absurd (omega arith)
of_digits (c ∷ cs) n some e small = grind (arith, leb-true, ne_eqb, le-leb, none-some)

pub numbers_read_back : NumbersReadBack
numbers_read_back (pos n) fits = grind (arith, fits.sfits, of_digits, decimal_nonempty, value-decimal)
numbers_read_back (negsuc n) fits =
    let small : n < 9223372036854775808 = fits.sfits in
    negative (decimal (suc n)) (decimal_nonempty (suc n) (omega arith)) (value-decimal (suc n) (omega arith))
  where
    negative : (ds : List ℕ) → 0 < length ds → value_after 0 ds ≡ Some (suc n) → number_of (minus ∷ ds) ≡ Some (negsuc n)
    negative [] some e = absurd (omega arith)
    negative (c ∷ cs) some e =
        ap (λ o. option_map (λ m. neg_ℤ (pos m)) (within 9223372036854775808 o)) e
        ∙ (let most : suc n ≤ 9223372036854775808 = omega (arith, fits.sfits) in rw (le-leb (suc n) 9223372036854775808 most) refl)

-- ---- what stands in a number

digits_plain : (byte : ℕ) → byte < minus → (n : ℕ) (ds : List ℕ) (v : ℕ) → value_after n ds ≡ Some v
    → AllByRecursion (λ c. (c == byte) ≡ false) ds
digits_plain byte low n [] v e = tt
digits_plain byte low n (c ∷ cs) v e = by (is_digit c) refl (digits_plain byte low (10 * n + (c - digit_zero)) cs v)
  where
    by : (b : Bool) → is_digit c ≡ b → (value_after (10 * n + (c - digit_zero)) cs ≡ Some v → AllByRecursion (λ x. (x == byte) ≡ false) cs)
        → AllByRecursion (λ x. (x == byte) ≡ false) (c ∷ cs)
    by true is rest =
        let least : digit_zero ≤ c = leb-true digit_zero c (and_parts (nat_le digit_zero c) (nat_le c digit_nine) is).0 in
        (ne_eqb c byte (λ same. omega arith), rest (rw is at e))
    by false is rest = absurd (none-some v (rw is at e))

magnitude_plain : (byte : ℕ) → byte < minus → (ds : List ℕ) (most : ℕ) (f : ℕ → ℤ) (z : ℤ)
    → option_map f (within most (magnitude ds)) ≡ Some z → AllByRecursion (λ c. (c == byte) ≡ false) ds
magnitude_plain byte low [] most f z e = tt
magnitude_plain byte low (c ∷ cs) most f z e = grind (arith, digits_plain, none-some)

-- no byte below `-` stands in a number
pub number_plain : (byte : ℕ) → byte < minus → (text : List ℕ) (z : ℤ) → number_of text ≡ Some z
    → AllByRecursion (λ c. (c == byte) ≡ false) text
number_plain byte low [] z e = tt
number_plain byte low (c ∷ cs) z e = elim (cases_Bool (c == minus)) [
  | inl negative ↦ (
    ne_eqb c byte (λ same. let is : c ≡ minus = eqb-true c minus negative in omega arith),
    magnitude_plain byte low cs 9223372036854775808
        (λ n. neg_ℤ (pos n)) z (rw negative at e),
  )
  | inr other ↦ magnitude_plain byte low (c ∷ cs) 9223372036854775807 pos z (rw other at e)
]
