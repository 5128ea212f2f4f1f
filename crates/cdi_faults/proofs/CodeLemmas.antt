-- All codes, in their order.
use denote.Enum.Bare.{same_true}
use Rattle.std.proofs.Common.{◌≡◌, Bool, true, ◌&&◌, List, [], ◌∷◌, Ordering, Less, Contains, refl, ⊎_elim, arith, rules}
use Rattle.std.specs.{Cmp.IsTotalOrder, List.AllByRecursion, List.list_any, List.Sorted.IsStrictlySortedBy, Ordering.is_lt}
use Rattle.std.proofs.lemmas.{Bool.false≢true, Bool.and_parts, Bool.or_cases, List.Elements.Contains-append_right}
use Rattle.base_options.proofs.Booleans.{Less-from_is_lt}
use Rattle.cdi_faults.specs.{contracts.fault.Code.the_type, contracts.fault.CodeOrd.TheImpl.Laws.total-law, declared.fault.Code.Code}
use Rattle.cdi_faults.specs.Codes.{all_codes, code_order}
use Rattle.cdi_faults.specs.contracts.fault.CodePartialEq.TheImpl as sameness

-- the list rises, as a test that computes
abbrev is_before : {X : Type 0} → (X → X → Ordering) → X → List X → Bool
is_before order x [] = true
is_before order x (y ∷ ys) = is_lt (order x y) && is_before order x ys

abbrev does_rise : {X : Type 0} → (X → X → Ordering) → List X → Bool
does_rise order [] = true
does_rise order (x ∷ xs) = is_before order x xs && does_rise order xs

before : {X : Type 0} (order : X → X → Ordering) (x : X) (ys : List X) → is_before order x ys ≡ true
    → AllByRecursion (λ y. order x y ≡ Less) ys
before order x [] is = tt
before order x (y ∷ ys) is =
    let both = and_parts (is_lt (order x y)) (is_before order x ys) is in (Less-from_is_lt (order x y) both.0, before order x ys both.1)

rises : {X : Type 0} (order : X → X → Ordering) (xs : List X) → does_rise order xs ≡ true → IsStrictlySortedBy order xs
unfolding IsStrictlySortedBy
rises order [] is = tt
rises order (x ∷ xs) is =
    let both = and_parts (is_before order x xs) (does_rise order xs) is in (before order x xs both.0, rises order xs both.1)

pub codes_rise : IsStrictlySortedBy code_order all_codes
codes_rise = rises code_order all_codes refl

pub code_order-total : IsTotalOrder code_order
code_order-total = total-law

-- what the derived `==` does not tell apart is one
abbrev is_same : Code → Code → Bool
is_same = (sameness.ghosts).eq

same : (c d : Code) → is_same c d ≡ true → c ≡ d
same c d is = same_true the_type (search rules) _ _ is

among : (codes : List Code) (code : Code) → list_any (λ c. is_same c code) codes ≡ true → Contains codes code
among [] code is = absurd (false≢true is)
among (c ∷ codes) code is = ⊎_elim
    (λ here. (0, omega arith, same c code here))
    (λ later. Contains-append_right (c ∷ []) codes code (among codes code later))
    (or_cases (is_same c code) (list_any (λ d. is_same d code) codes) is)

-- each code is among them
pub has_code : (code : Code) → Contains all_codes code
has_code code = among all_codes code (each code)
  where
    each : (code : Code) → list_any (λ c. is_same c code) all_codes ≡ true
    each code = grind arith
