-- What is left of what is kept.
use Rattle.cdi_model.proofs.Common.{◌≡◌, ◌+◌, ◌-◌, ◌<◌, ◌≤◌, ℕ, zero, suc, Bool, true, false, List, [], ◌∷◌, length, drop, Option, Some}
use Rattle.cdi_model.proofs.Common.{None, MatchOption, Global, refl, sym, ap, ◌∙◌, slice_get, arith, option_map, inl, inr, Rc, is_marked}
use Rattle.cdi_model.proofs.Common.{kept, Decl}
use Rattle.std.proofs.{Common.Bor, Common.add-one, lemmas.Bool.cases_lt}

-- from a place on
abbrev pub kept_from : ℕ → List Bool → List Decl → List Decl
kept_from n marks ds = kept (drop n marks) (drop n ds)

pub none-left : (n : ℕ) (marks : List Bool) (ds : List Decl) → length ds ≤ n → kept_from n marks ds ≡ []
none-left zero [] [] past = refl
none-left zero (m ∷ ms) [] past = refl
none-left zero marks (d ∷ ds) past = absurd (omega arith)
none-left (suc n) [] [] past = refl
none-left (suc n) (m ∷ ms) [] past = none (drop n ms)
  where
    none : (marks : List Bool) → kept marks [] ≡ []
    none [] = refl
    none (m ∷ ms) = refl
none-left (suc n) [] (d ∷ ds) past = past-end n ds (omega arith)
  where
    past-end : (n : ℕ) (ds : List Decl) → length ds ≤ n → drop n ds ≡ []
    past-end zero [] h = refl
    past-end zero (d ∷ ds) h = absurd (omega arith)
    past-end (suc n) [] h = refl
    past-end (suc n) (d ∷ ds) h = past-end n ds (omega arith)
none-left (suc n) (m ∷ ms) (d ∷ ds) past = none-left n ms ds (omega arith)

-- the one at a place that is not marked, and then those after it
pub kept-step : (n : ℕ) (marks : List Bool) (ds : List Decl) (d : Decl) → slice_get ds n ≡ Some d → is_marked marks n ≡ false
    → kept_from n marks ds ≡ d ∷ kept_from (suc n) marks ds
kept-step n marks [] d at m = absurd (cc)
kept-step zero [] (e ∷ es) d at m = ap (λ f. f ∷ es) (let one : e ≡ d = cc in one)
kept-step zero (true ∷ ms) (e ∷ es) d at m = absurd (cc)
kept-step zero (false ∷ ms) (e ∷ es) d at m = ap (λ f. f ∷ kept ms es) (let one : e ≡ d = cc in one)
kept-step (suc n) [] (e ∷ es) d at m = unmarked-step n es at
  where
    unmarked-step : (n : ℕ) (es : List Decl) → slice_get es n ≡ Some d → drop n es ≡ d ∷ drop (suc n) es
    unmarked-step n [] at = absurd (cc)
    unmarked-step zero (f ∷ fs) at = ap (λ g. g ∷ fs) (let one : f ≡ d = cc in one)
    unmarked-step (suc n) (f ∷ fs) at = unmarked-step n fs at
kept-step (suc n) (m ∷ ms) (e ∷ es) d at mark = kept-step n ms es d at mark

-- a marked place is skipped
pub kept-skip : (n : ℕ) (marks : List Bool) (ds : List Decl) → is_marked marks n ≡ true → kept_from n marks ds ≡ kept_from (suc n) marks ds
kept-skip n [] ds m = absurd (cc)
kept-skip zero (true ∷ ms) [] m = none ms
  where
    none : (marks : List Bool) → [] ≡ kept marks []
    none [] = refl
    none (m ∷ ms) = refl
kept-skip zero (false ∷ ms) ds m = absurd (cc)
kept-skip zero (true ∷ ms) (d ∷ ds) m = refl
kept-skip (suc n) (m ∷ ms) [] mark = both (drop n ms) (drop (suc n) ms)
  where
    both : (xs ys : List Bool) → kept xs [] ≡ kept ys []
    both [] [] = refl
    both [] (y ∷ ys) = refl
    both (x ∷ xs) [] = refl
    both (x ∷ xs) (y ∷ ys) = refl
kept-skip (suc n) (m ∷ ms) (d ∷ ds) mark = kept-skip n ms ds mark

-- so many marked places are skipped
pub kept-skipped : (more n : ℕ) (marks : List Bool) (ds : List Decl) → ((k : ℕ) → n ≤ k → k < n + more → is_marked marks k ≡ true)
    → kept_from n marks ds ≡ kept_from (n + more) marks ds
kept-skipped zero n marks ds all = ap (λ k. kept_from k marks ds) (omega arith)
kept-skipped (suc more) n marks ds all =
    kept-skip n marks ds (all n (omega arith) (omega arith))
    ∙ kept-skipped more (suc n) marks ds (λ k low high. all k (omega arith) (omega arith))
    ∙ ap (λ k. kept_from k marks ds) (omega arith)

pub kept-up_to : (n m : ℕ) (marks : List Bool) (ds : List Decl) → n ≤ m → ((k : ℕ) → n ≤ k → k < m → is_marked marks k ≡ true)
    → kept_from n marks ds ≡ kept_from m marks ds
kept-up_to n m marks ds low all =
    let same : n + (m - n) ≡ m = omega arith in
    kept-skipped (m - n) n marks ds (λ k from below. all k from (omega arith)) ∙ ap (λ k. kept_from k marks ds) same

-- where all that follow are marked, none is left
pub none-after : (n m : ℕ) (marks : List Bool) (ds : List Decl) → length ds ≤ m → ((k : ℕ) → n ≤ k → k < m → is_marked marks k ≡ true)
    → kept_from n marks ds ≡ []
none-after n m marks ds past all = elim (cases_lt n m) [
  | inl low ↦ kept-up_to n m marks ds (omega arith) all ∙ none-left m marks ds past
  | inr high ↦ none-left n marks ds (omega arith)
]

-- the next is what stands at the first place that is not marked
pub next-kept : (r : Option (Bor (Rc Decl Global))) (n m : ℕ) (marks : List Bool) (ds : List Decl)
    → option_map (λ d. d.now.value) r ≡ slice_get ds m → m < length ds → n ≤ m
    → ((k : ℕ) → n ≤ k → k < m → is_marked marks k ≡ true) → is_marked marks m ≡ false
    → MatchOption r ((kept_from n marks ds ≡ []) × (kept_from (m + 1) marks ds ≡ []))
    (λ d. kept_from n marks ds ≡ d.now.value ∷ kept_from (m + 1) marks ds)
next-kept None n m marks ds at within low all outside = absurd (some ds m (sym at) within)
  where
    some : (ds : List Decl) (m : ℕ) → slice_get ds m ≡ None → m < length ds → ⊥
    some [] m h within = omega arith
    some (d ∷ ds) zero h within = cc
    some (d ∷ ds) (suc m) h within = some ds m h (omega arith)
next-kept (Some d) n m marks ds at within low all outside =
    kept-up_to n m marks ds low all ∙ kept-step m marks ds d.now.value (sym at) outside
    ∙ ap (λ k. d.now.value ∷ kept_from k marks ds) (sym (add-one m))
