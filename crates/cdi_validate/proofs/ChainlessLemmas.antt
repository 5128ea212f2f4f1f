-- Declarations of which no two enabled beans specialize one.
use Rattle.cdi_validate.proofs.Common.{all-weaker, flat-filter, ◌≡◌, List, ◌++◌, sym, ap, ◌∙◌, append_assoc, flat_map, Decl}
use Rattle.cdi_validate.proofs.Common.{specialized_twice, ℕ, Bool, true, false, cond, [], ◌∷◌, map, filter, refl, AllByRecursion, AllPairs}
use Rattle.cdi_validate.proofs.Common.{eqb-true, false≢true, Fault, not, ◌&&◌, subst, find, option_to_list, bytes_eq, or_left}
use Rattle.cdi_validate.proofs.Common.{nil_from_length, filter-append, AreDistinct, BeanDecl, has, chain, class_names, text_of_fault}
use Rattle.cdi_validate.proofs.Common.{IsAlike, same_text, specializing, specializing_by, is_chainless, enabled_bean, enabled_beans}
use Rattle.cdi_validate.proofs.Common.{faults_of_pairs, faults_of_two, in_line_order, of_pairs, twice, arith}
use Rattle.cdi_model.specs.declared.decl.Decl.TheVariants as decls
use Rattle.cdi_validate.proofs.ApartLemmas.{Apart, apart-by, apart-filter, apart-more, apart-pairs, flat-all, flat-same, pairs-apart}
use Rattle.cdi_validate.proofs.{ApartLemmas.pairs-left, FoundLemmas.bean-records, LinkLemmas.filtered, LinkLemmas.specializing-own}
use Rattle.cdi_validate.proofs.TwiceLemmas.{behind_two, both-apart, lines_of, lines-told, pairs-behind, two-of-enabled}
use Rattle.cdi_validate.specs.Together.{HaveNoneTwice}

-- they have no fault together
abbrev AreFaultless : List Decl → BeanDecl → BeanDecl → Type 0
AreFaultless ds a b = faults_of_two ds a b ≡ []

-- ---- declarations that are alike

specializing-alike : (ds es : List Decl) (d : Decl) → IsAlike ds es d → specializing_by ds d ≡ specializing_by es d
specializing-alike ds es (decls.Bean b) alike = grind (arith, b.name, alike.before, alike.records, alike.after, b.specializes, bean-records)
specializing-alike ds es other alike = refl

-- the bean has the same chain
abbrev HasSameChain : List Decl → List Decl → BeanDecl → Type 0
HasSameChain ds es b = chain es b ≡ chain ds b

same-chains : (ds es : List Decl) (d : Decl) → IsAlike ds es d → AllByRecursion (HasSameChain ds es) (specializing_by ds d)
same-chains ds es (decls.Bean b) alike = grind (arith, b.specializes, b.name, alike.chains)
same-chains ds es other alike = tt

-- the fault of two beans with these chains
abbrev two_by : BeanDecl → BeanDecl → List BeanDecl → List BeanDecl → List Fault
two_by a b of_a of_b = cond (not (has (class_names of_b) a.name) && not (has (class_names of_a) b.name))
    (map (twice a.name b.name) (option_to_list (find (has (class_names of_b)) (class_names of_a)))) []

two-alike : (ds es : List Decl) (a b : BeanDecl) → HasSameChain ds es a → HasSameChain ds es b → AreFaultless ds a b → AreFaultless es a b
two-alike ds es a b of_a of_b none =
    ap (λ of. two_by a b of (chain es b)) of_a ∙ ap (λ of. two_by a b (chain ds a) of) of_b ∙ none

-- beans that have no fault together have none where the declarations are alike
pub twice_stays : (ds es own : List Decl) → AllByRecursion (IsAlike ds es) own → HaveNoneTwice ds own → HaveNoneTwice es own
twice_stays ds es own alike none =
    let bs = flat_map (specializing_by ds) own in
    let chains : AllByRecursion (HasSameChain ds es) bs = flat-all (HasSameChain ds es) (specializing_by ds) own
    (all-weaker (IsAlike ds es) (λ d. AllByRecursion (HasSameChain ds es) (specializing_by ds d)) own (same-chains ds es) alike) in
    let same : bs ≡ flat_map (specializing_by es) own = flat-same (specializing_by ds) (specializing_by es) own
    (all-weaker (IsAlike ds es) (λ d. specializing_by ds d ≡ specializing_by es d) own (specializing-alike ds es) alike) in
    subst (AllPairs (AreFaultless es)) same (apart-pairs (AreFaultless es) bs
    (apart-by (AreFaultless ds) (AreFaultless es) (HasSameChain ds es) (two-alike ds es) bs chains (pairs-apart (AreFaultless ds) bs none)))

-- and where some are left out
pub twice_filtered : (ds own : List Decl) (p : Decl → Bool) → HaveNoneTwice ds own → HaveNoneTwice ds (filter p own)
twice_filtered ds own p none = pairs-left (specializing_by ds) p (AreFaultless ds) own none

-- they have none with those that are left out, where these say of no bean that it specializes another
pub twice_whole : (ds own : List Decl) (p : Decl → Bool) → AllByRecursion (λ d. p d ≡ false → is_chainless ds d ≡ true) own
    → HaveNoneTwice ds (filter p own) → HaveNoneTwice ds own
twice_whole ds own p chainless none = grind (arith, all-weaker, nil_from_length, eqb-true, flat-filter)

-- ---- all declarations

specializing-rest : (ds es rest : List Decl) → AreDistinct ds → es ++ rest ≡ ds
    → flat_map (specializing_by ds) rest ≡ filtered (flat_map (enabled_bean ds) rest)
specializing-rest ds es [] distinct split = refl
specializing-rest ds es (d ∷ rest) distinct split =
    ap (λ bs. bs ++ flat_map (specializing_by ds) rest) (specializing-own ds es rest d distinct split)
    ∙ ap (λ bs. filtered (enabled_bean ds d) ++ bs)
    (specializing-rest ds (es ++ d ∷ []) rest distinct (append_assoc es (d ∷ []) rest ∙ split))
    ∙ sym (filter-append (λ b. b.specializes) (enabled_bean ds d) (flat_map (enabled_bean ds) rest))

-- those that say so, declaration by declaration, are all of them
specializing-all : (ds : List Decl) → AreDistinct ds → flat_map (specializing_by ds) ds ≡ specializing ds
specializing-all ds distinct = specializing-rest ds [] ds distinct refl

-- ---- what pairs give

module _ {X Y : Type 0} (f : X → X → List Y) where
  none-behind : (x : X) (ys : List X) → AllByRecursion (λ y. f x y ≡ []) ys → flat_map (f x) ys ≡ []
  none-behind x [] none = refl
  none-behind x (y ∷ ys) none = ap (λ l. l ++ flat_map (f x) ys) none.0 ∙ none-behind x ys none.1

  pairs-none : (xs : List X) → Apart (λ x y. f x y ≡ []) xs → of_pairs f xs ≡ []
  pairs-none [] none = refl
  pairs-none (x ∷ xs) none = ap (λ l. l ++ of_pairs f xs) (none-behind x xs none.0) ∙ pairs-none xs none.1

  both-none : (ks ls : List Y) → ks ++ ls ≡ [] → (ks ≡ []) × (ls ≡ [])
  both-none [] ls none = (refl, none)
  both-none (k ∷ ks) ls some = absurd (let no : k ∷ (ks ++ ls) ≡ [] = some in cc)

  each-behind : (x : X) (ys : List X) → flat_map (f x) ys ≡ [] → AllByRecursion (λ y. f x y ≡ []) ys
  each-behind x [] none = tt
  each-behind x (y ∷ ys) none =
      let both = both-none (f x y) (flat_map (f x) ys) none in (both.0, each-behind x ys both.1)

  none-pairs : (xs : List X) → of_pairs f xs ≡ [] → Apart (λ x y. f x y ≡ []) xs
  none-pairs [] none = tt
  none-pairs (x ∷ xs) none =
      let both = both-none (flat_map (f x) xs) (of_pairs f xs) none in (each-behind x xs both.0, none-pairs xs both.1)

-- where no two beans have a fault there is none
pub no_twice_faults : (ds : List Decl) → AreDistinct ds → HaveNoneTwice ds ds → specialized_twice ds ≡ []
unfolding specialized_twice
no_twice_faults ds distinct none =
    let bs = specializing ds in
    let Behind : BeanDecl → BeanDecl → Type 0 = λ a b. behind_two ds a b ≡ [] in
    let Same : BeanDecl → BeanDecl → Type 0 = λ a b. faults_of_two ds a b ≡ behind_two ds a b in
    let apart : Apart (AreFaultless ds) bs =
    pairs-apart (AreFaultless ds) bs (subst (AllPairs (AreFaultless ds)) (specializing-all ds distinct) none) in
    let same : Apart Same bs = apart-filter Same (λ b. b.specializes) (enabled_beans ds) (two-of-enabled ds distinct) in
    let behind : Apart Behind bs = apart-more (λ a b. AreFaultless ds a b × Same a b) Behind (λ a b both. sym both.1 ∙ both.0) bs
    (both-apart (AreFaultless ds) Same bs apart same) in
    ap in_line_order (sym (pairs-behind ds distinct) ∙ pairs-none (behind_two ds) bs behind)

-- where no lines are told there is no fault
no-lines : (fs gs : List Fault) → ((line : List ℕ) → has (lines_of fs) line ≡ true → has (lines_of gs) line ≡ true) → gs ≡ [] → fs ≡ []
no-lines [] gs told none = refl
no-lines (f ∷ fs) gs told none =
    let line = text_of_fault f in
    absurd (false≢true (ap (λ l. has (lines_of l) line) (sym none)
    ∙ told line (or_left (bytes_eq line line) (has (lines_of fs) line) (same_text line line refl))))

-- and where there is none no two beans have one
pub faultless_twice : (ds : List Decl) → AreDistinct ds → specialized_twice ds ≡ [] → HaveNoneTwice ds ds
faultless_twice ds distinct none =
    let bs = specializing ds in
    let all = none-pairs (faults_of_two ds) (enabled_beans ds)
    (no-lines (faults_of_pairs ds) (specialized_twice ds) (lines-told ds) none) in
    subst (AllPairs (AreFaultless ds)) (sym (specializing-all ds distinct))
    (apart-pairs (AreFaultless ds) bs (apart-filter (AreFaultless ds) (λ b. b.specializes) (enabled_beans ds) all))
