-- Declarations whose enabled beans have names that are apart.
use Rattle.cdi_validate.proofs.Common.{all-weaker, all-each, all-back, flat-empty, flat-filter, ◌≡◌, List, ◌++◌, sym, ap, ◌∙◌, flat_map}
use Rattle.cdi_validate.proofs.Common.{Decl, beans, name_clashes, name_prefixes, ℕ, Bool, true, false, cond, [], ◌∷◌, map, filter, refl}
use Rattle.cdi_validate.proofs.Common.{AllByRecursion, AllPairs, eqb-true, false≢true, enabled_names, subst, bytes_eq, nil_from_length, has}
use Rattle.cdi_validate.proofs.Common.{IsAlike, ◌⊎◌, inl, same_text, inr, or_cases, Effective, list_any-append, choice_of, chosen_by_name}
use Rattle.cdi_validate.proofs.Common.{one_text, is_ambiguous, enabled_name, in_order-has, is_nameless, names_by, AreNamesApart}
use Rattle.cdi_validate.proofs.Common.{HaveNoClash, or_parts, arith, named, goes_on}
use Rattle.cdi_faults.specs.declared.fault.Fault.TheVariants as faults_are
use Rattle.cdi_validate.proofs.ApartLemmas.{Apart, apart-back, apart-more, flat-same, pairs-apart, pairs-left}
use Rattle.cdi_validate.proofs.{ClashLemmas.is_its_name, NameLemmas.goes_on-itself}
use Rattle.cdi_validate.proofs.CountLemmas.{all-has, has-all, names-all, Differ, NoneGoesOn}

-- ---- the names of some declarations

names-alike : (ds es own : List Decl) → AllByRecursion (IsAlike ds es) own → flat_map (names_by ds) own ≡ flat_map (names_by es) own
names-alike ds es own alike = flat-same (names_by ds) (names_by es) own
    (all-weaker (IsAlike ds es) (λ d. names_by ds d ≡ names_by es d) own (λ d of_d. ap (flat_map enabled_name) (sym of_d.records)) alike)

-- names that are apart stay so where the declarations are alike
pub clash_stays : (ds es own : List Decl) → AllByRecursion (IsAlike ds es) own → HaveNoClash ds own → HaveNoClash es own
clash_stays ds es own alike apart = subst (AllPairs AreNamesApart) (names-alike ds es own alike) apart

-- and where some are left out
pub clash_filtered : (ds own : List Decl) (p : Decl → Bool) → HaveNoClash ds own → HaveNoClash ds (filter p own)
clash_filtered ds own p apart = pairs-left (names_by ds) p AreNamesApart own apart

-- they are apart with those that are left out, where these have no names
pub clash_whole : (ds own : List Decl) (p : Decl → Bool) → AllByRecursion (λ d. p d ≡ false → is_nameless ds d ≡ true) own
    → HaveNoClash ds (filter p own) → HaveNoClash ds own
clash_whole ds own p nameless apart = grind (arith, all-weaker, nil_from_length, eqb-true, flat-filter)

-- ---- what gives nothing

none-passes : (p : List ℕ → Bool) (names : List (List ℕ)) → AllByRecursion (λ n. p n ≡ false) names → filter p names ≡ []
none-passes p [] none = refl
none-passes p (n ∷ ns) none = rw none.0 (none-passes p ns none.1)

-- ---- names that differ

none-has : (n : List ℕ) (names : List (List ℕ)) → AllByRecursion (Differ n) names → has names n ≡ false
none-has n names others = grind (arith, false≢true, all-has, same_text)

-- a name that is among the first is not among those behind them
not-behind : (xs ys : List (List ℕ)) (n : List ℕ) → Apart Differ (xs ++ ys) → has xs n ≡ true → has ys n ≡ false
not-behind [] ys n apart among = absurd (false≢true among)
not-behind (x ∷ xs) ys n apart among = elim (or_cases (bytes_eq x n) (has xs n) among) [
  | inl here ↦ none-has n ys (subst (λ m. AllByRecursion (Differ m) ys) (one_text x n here) (all-back (Differ x) xs ys apart.0))
  | inr later ↦ not-behind xs ys n apart.1 later
]

-- ---- no name is that of two beans

none-named : (bs : List Effective) (n : List ℕ) → has (flat_map enabled_name bs) n ≡ false → named bs n ≡ []
unfolding named
none-named [] n none = refl
none-named (b ∷ bs) n none =
    let (here, rest) = or_parts (has (enabled_name b) n) (has (flat_map enabled_name bs) n)
    (sym (list_any-append (λ m. bytes_eq m n) (enabled_name b) (flat_map enabled_name bs)) ∙ none) in
    ap (λ t. cond t (b ∷ named bs n) (named bs n)) (is_its_name b n ∙ here) ∙ none-named bs n rest

one-named : (bs : List Effective) (n : List ℕ) → Apart Differ (flat_map enabled_name bs) → is_ambiguous (chosen_by_name bs n) ≡ false
unfolding named chosen_by_name choice_of
one-named [] n apart = refl
one-named (b ∷ bs) n apart =
    grind (
      arith,
      one-named bs n (apart-back Differ (enabled_name b) (flat_map enabled_name bs) apart),
      apart-back,
      is_its_name,
      none-named,
      not-behind,
    )

no-clashes : (bs : List Effective) → Apart Differ (flat_map enabled_name bs) → name_clashes bs ≡ []
no-clashes bs apart = ap (map faults_are.NameClash) (none-passes (λ n. is_ambiguous (chosen_by_name bs n)) (enabled_names bs)
    (all-each (λ n. is_ambiguous (chosen_by_name bs n) ≡ false) (λ n. one-named bs n apart) (enabled_names bs)))

-- ---- no name continues another

none-goes_on : (names : List (List ℕ)) → Apart AreNamesApart names → NoneGoesOn names
none-goes_on [] apart x y first second = absurd (false≢true first)
none-goes_on (n ∷ ns) apart x y first second =
    by (or_cases (bytes_eq n x) (has ns x) first) (or_cases (bytes_eq n y) (has ns y) second) (none-goes_on ns apart.1 x y)
  where
    by : (bytes_eq n x ≡ true) ⊎ (has ns x ≡ true) → (bytes_eq n y ≡ true) ⊎ (has ns y ≡ true)
        → (has ns x ≡ true → has ns y ≡ true → goes_on x y ≡ false) → goes_on x y ≡ false
    by (inl is_x) (inl is_y) rest =
        ap (λ z. goes_on z y) (sym (one_text n x is_x)) ∙ ap (goes_on n) (sym (one_text n y is_y)) ∙ goes_on-itself n
    by (inl is_x) (inr later) rest =
        let two : AreNamesApart n y = all-has (AreNamesApart n) ns y apart.0 later in
        ap (λ z. goes_on z y) (sym (one_text n x is_x)) ∙ two.onward
    by (inr later) (inl is_y) rest =
        let two : AreNamesApart n x = all-has (AreNamesApart n) ns x apart.0 later in
        ap (goes_on x) (sym (one_text n y is_y)) ∙ two.back
    by (inr x_later) (inr y_later) rest = rest x_later y_later

no-prefixes : (bs : List Effective) → NoneGoesOn (flat_map enabled_name bs) → name_prefixes bs ≡ []
no-prefixes bs none = grind (arith, none-passes, has-all, in_order-has, flat-empty)

-- so names that are apart have no faults
pub no_name_faults : (ds : List Decl) → HaveNoClash ds ds → (name_clashes (beans ds) ≡ []) × (name_prefixes (beans ds) ≡ [])
no_name_faults ds all =
    let names = flat_map enabled_name (beans ds) in
    let apart : Apart AreNamesApart names =
    pairs-apart AreNamesApart names (subst (AllPairs AreNamesApart) (sym (names-all ds)) all) in (
      no-clashes (beans ds) (apart-more AreNamesApart Differ (λ x y two. two.differ) names apart),
      no-prefixes (beans ds) (none-goes_on names apart),
    )
