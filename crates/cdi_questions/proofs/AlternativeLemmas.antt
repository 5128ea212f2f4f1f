-- Where an alternative is eligible, the choice is among the alternatives.
use Rattle.std.proofs.Common.{◌≡◌, ℕ, ℤ, Bool, true, false, ◌&&◌, ◌||◌, List, [], ◌∷◌, map, filter, Option, Some, None, refl, sym, ap, ◌∙◌}
use Rattle.std.proofs.Common.{cond, arith}
use Rattle.std.proofs.lemmas.Bool.{false≢true}
use Rattle.cdi_model.specs.declared.decl.Decl.{Decl}
use Rattle.cdi_model.specs.declared.quals.Qual.{Qual}
use Rattle.cdi_match.specs.Chain.{has}
use Rattle.cdi_effective.specs.Qualifiers.{required, cover_all}
use Rattle.cdi_effective.specs.declared.records.Effective.{Effective}
use Rattle.cdi_index.specs.Made.{serves_as_alternative}
use Rattle.cdi_resolve.specs.Choices.{Candidate, alternatives, among, candidate, choice_of, chosen, eligible, greatest, is_eligible, only}
use Rattle.cdi_resolve.specs.declared.choice.Choice.TheVariants.{One}
use Rattle.cdi_questions.specs.Found.{is_found}

-- ---- the choice among the alternatives of some candidates

only-one : (c : Candidate) → only (greatest (c ∷ [])) ≡ One c.id
only-one c = by c.priority refl
  where
    by : (p : Option ℤ) → c.priority ≡ p → only (greatest (c ∷ [])) ≡ One c.id
    by None e = rw e refl
    by (Some p) e = rw e grind (arith)

alternatives-again : (cs : List Candidate) → alternatives (alternatives cs) ≡ alternatives cs
alternatives-again [] = refl
alternatives-again (c ∷ cs) = grind (arith, alternatives-again cs)

alternatives-choose : (cs : List Candidate) → is_found (choice_of (alternatives cs)) ≡ true → choice_of (alternatives cs) ≡ choice_of cs
unfolding choice_of
alternatives-choose [] found = refl
alternatives-choose (c ∷ []) found = by c.is_alternative found
  where
    by : (b : Bool) → is_found (choice_of (cond b (c ∷ []) [])) ≡ true → choice_of (cond b (c ∷ []) []) ≡ One c.id
    by true found = refl
    by false found = absurd (false≢true found)
alternatives-choose (c ∷ d ∷ cs) found = by (alternatives (c ∷ d ∷ cs)) (alternatives-again (c ∷ d ∷ cs)) found
  where
    by : (left : List Candidate) → alternatives left ≡ left → is_found (choice_of left) ≡ true → choice_of left ≡ among (c ∷ d ∷ cs) left
    by [] same found = absurd (false≢true found)
    by (a ∷ []) same found = sym (only-one a)
    by (a ∷ b ∷ more) same found = ap (among (a ∷ b ∷ more)) same

-- ---- of the eligible beans

module _ (ds : List Decl) (t : List ℕ) (quals : List Qual) where
  abbrev is_sought : Effective → Bool
  is_sought b = serves_as_alternative b && has b.types t

  candidates-served : (bs : List Effective)
      → map candidate (filter (is_eligible ds t quals) (filter is_sought bs))
      ≡ alternatives (map candidate (filter (is_eligible ds t quals) bs))
  candidates-served [] = refl
  candidates-served (b ∷ bs) =
      by b.is_enabled (has b.types t) (b.is_alternative || b.is_of_alternative) (cover_all ds b.qualifiers (required quals))
      refl refl refl refl (candidates-served bs)
    where
      by : (enabled typed alternative covered : Bool) → b.is_enabled ≡ enabled → has b.types t ≡ typed
          → (b.is_alternative || b.is_of_alternative) ≡ alternative → cover_all ds b.qualifiers (required quals) ≡ covered
          → map candidate (filter (is_eligible ds t quals) (filter is_sought bs))
          ≡ alternatives (map candidate (filter (is_eligible ds t quals) bs))
          → map candidate (filter (is_eligible ds t quals) (filter is_sought (b ∷ bs)))
          ≡ alternatives (map candidate (filter (is_eligible ds t quals) (b ∷ bs)))
      by true true true true e f g h rest = grind (arith)
      by true true true false e f g h rest = grind (arith)
      by true true false covered e f g h rest = grind (arith)
      by true false alternative covered e f g h rest = grind (arith)
      by false typed alternative covered e f g h rest = grind (arith)

  pub choose_alternatives : (bs : List Effective) → is_found (chosen ds (filter is_sought bs) t quals) ≡ true
      → chosen ds (filter is_sought bs) t quals ≡ chosen ds bs t quals
  unfolding chosen eligible
  choose_alternatives bs found =
      ap choice_of (candidates-served bs)
      ∙ alternatives-choose (map candidate (filter (is_eligible ds t quals) bs))
      (ap (λ cs. is_found (choice_of cs)) (sym (candidates-served bs)) ∙ found)
