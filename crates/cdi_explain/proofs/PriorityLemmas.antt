-- The greatest priority of some candidates tells which of them are kept.
use Rattle.std.proofs.Common.{arith, ◌≡◌, ℤ, Bool, true, false, not, ◌&&◌, ◌||◌, List, [], ◌∷◌, fold, Option, Some, None, Ordering, Less}
use Rattle.std.proofs.Common.{refl, sym, ap, ◌∙◌}
use Rattle.std.specs.{Cmp.IsTotalOrder, Cmp.Lexicographic.options_total, List.list_all, Option.option_cmp, Ordering.int_cmp, Ordering.is_lt}
use Rattle.std.proofs.lemmas.{Bool.false≢true, Cmp.int_cmp_total, Cmp.tied_itself}
use Rattle.base_options.proofs.Booleans.{Less-from_is_lt}
use Rattle.cdi_resolve.specs.Choices.{is_less, Candidate}
use Rattle.cdi_explain.specs.Verdicts.{greater, is_kept_among, is_kept_by, raise, top}

-- ---- the order of priorities

abbrev compare : Option ℤ → Option ℤ → Ordering
compare p q = option_cmp int_cmp p q

total : IsTotalOrder compare
total = options_total int_cmp_total

less : (p q : Option ℤ) → is_lt (compare p q) ≡ is_less p q
less None None = refl
less None (Some q) = refl
less (Some p) None = refl
less (Some p) (Some q) = grind arith

below : (p q : Option ℤ) → is_less p q ≡ true → compare p q ≡ Less
below p q h = Less-from_is_lt (compare p q) (less p q ∙ h)

-- none is below itself
pub not_itself : (p : Option ℤ) → is_less p p ≡ false
not_itself p = sym (less p p) ∙ ap is_lt (tied_itself total p)

through : (r q p : Option ℤ) → is_less r q ≡ true → is_less q p ≡ true → is_less r p ≡ true
through r q p first second = sym (less r p) ∙ ap is_lt (total.trans r q p (below r q first) (below q p second))

-- what is below one is below another that is not below that one
back : (r q p : Option ℤ) → is_less r p ≡ true → is_less q p ≡ false → is_less r q ≡ true
back r q p under not_under = grind (arith, less, total.antisymm, false≢true, total.congr, below, total.trans)

-- what is below the greater of two is below one of them
raised : (r q p : Option ℤ) → is_less r (greater q p) ≡ (is_less r q || is_less r p)
raised r q p = grind (arith, through, false≢true, back)

-- ---- the greatest of several

neither : (a b c d : Bool) → (a && (not (b || c) && d)) ≡ (a && (not b && (not c && d)))
neither a b c d = grind arith

highest : (q : Option ℤ) (more : List Candidate) (c : Candidate)
    → is_kept_by (fold (λ p o. raise p o.priority) (Some q) more) c
    ≡ (c.is_alternative && (not (is_less c.priority q) && list_all (λ o. not (is_less c.priority o.priority)) more))
highest q [] c = grind (arith, c.priority, c.is_alternative)
highest q (x ∷ xs) c = grind (arith, highest (greater q x.priority) xs c, x.priority, c.is_alternative, c.priority, raised, neither)

pub kept_by_top : (cs : List Candidate) (c : Candidate) → is_kept_by (top cs) c ≡ is_kept_among cs c
kept_by_top [] c = refl
kept_by_top (a ∷ more) c = highest a.priority more c
