-- Enabled beans whose chains share a bean.
use Rattle.cdi_validate.proofs.Common.{◌≡◌, List, ◌++◌, sym, ap, ◌∙◌, flat_map, Decl, specialized_twice, ◌≢◌, ℕ, Bool, true, false, cond}
use Rattle.cdi_validate.proofs.Common.{[], ◌∷◌, map, filter, refl, AllByRecursion, IsStrictlySortedBy, and_parts, false≢true, Fault, not}
use Rattle.cdi_validate.proofs.Common.{subst, find, option_to_list, bytes_eq, or_left, AreDistinct, BeanDecl, has, chain, class_names}
use Rattle.cdi_validate.proofs.Common.{text_of_fault, specializing, enabled_bean, one_text, same_text, enabled_beans, faults_of_pairs}
use Rattle.cdi_validate.proofs.Common.{faults_of_two, of_pairs, twice, keys_of, Some, inl, inr, or_cases, or_right, effective, managed}
use Rattle.cdi_validate.proofs.Common.{◌||◌, None, list_any, is_replaced, fold, other_text, insert_key, byte_order, in_order}
use Rattle.cdi_validate.proofs.Common.{in_order-rises, key_of, limit, behind, or_parts, or_assoc, or_comm, same_name, by_line, with_line}
use Rattle.cdi_validate.proofs.Common.{all-weaker, all-append, arith}
use Rattle.std.proofs.lemmas.Bool.{not-true}
use Rattle.base_numbers.proofs.Texts.{bytes_eq-turned}
use Rattle.cdi_model.specs.DeclKey.{key_at}
use Rattle.cdi_model.specs.declared.decl.Decl.TheVariants as decls
use Rattle.cdi_model.specs.declared.decl.Kind.TheVariants as kinds
use Rattle.cdi_match.proofs.OrderLemmas.{has-insert}
use Rattle.cdi_effective.specs.Specialized.{is_offered, replaced_by}
use Rattle.cdi_effective.proofs.StepLemmas.{ends-none}
use Rattle.cdi_validate.proofs.ApartLemmas.{Apart, apart-by, apart-pairs, flat-same, pairs-apart}
use Rattle.cdi_validate.proofs.NeedLemmas.{keys-insert}
use Rattle.cdi_validate.specs.Twice.{are_apart, first_shared, is_in_chain, AreTold, SharersAreTold}

-- ---- pairs

flat-none : {X Y : Type 0} (f : X → List Y) → ((x : X) → f x ≡ []) → (xs : List X) → flat_map f xs ≡ []
flat-none f none [] = refl
flat-none f none (x ∷ xs) = ap (λ ys. ys ++ flat_map f xs) (none x) ∙ flat-none f none xs

-- those that fail a test may be left out where they give nothing
flat-filter : {X Y : Type 0} (f : X → List Y) (p : X → Bool) → ((x : X) → p x ≡ false → f x ≡ []) → (xs : List X)
    → flat_map f (filter p xs) ≡ flat_map f xs
flat-filter f p none [] = refl
flat-filter f p none (x ∷ xs) = grind (arith, flat-filter f p none xs)

pairs-filter : {X Y : Type 0} (f : X → X → List Y) (p : X → Bool) → ((x y : X) → p x ≡ false → f x y ≡ [])
    → ((x y : X) → p y ≡ false → f x y ≡ []) → (xs : List X) → of_pairs f (filter p xs) ≡ of_pairs f xs
pairs-filter f p first second [] = refl
pairs-filter f p first second (x ∷ xs) = grind (arith, pairs-filter f p first second xs, flat-filter, flat-none)

pairs-same : {X Y : Type 0} (f g : X → X → List Y) (xs : List X) → Apart (λ x y. f x y ≡ g x y) xs → of_pairs f xs ≡ of_pairs g xs
pairs-same f g [] same = refl
pairs-same f g (x ∷ xs) same = grind (arith, pairs-same f g xs same.1, same.0, same.1, flat-same)

find-same : {X : Type 0} (p q : X → Bool) (xs : List X) → AllByRecursion (λ x. p x ≡ q x) xs → find p xs ≡ find q xs
find-same p q [] same = refl
find-same p q (x ∷ xs) same =
    ap (λ b. cond b (Some x) (find p xs)) same.0 ∙ ap (λ o. cond (q x) (Some x) o) (find-same p q xs same.1)

-- ---- enabled beans

-- a test that the declaration of the bean passes is passed by one of the declarations
abbrev IsDeclared : List Decl → BeanDecl → Type 0
IsDeclared ds b = (p : Decl → Bool) → p (decls.Bean b) ≡ true → list_any p ds ≡ true

abbrev IsEnabled : List Decl → BeanDecl → Type 0
IsEnabled ds b = IsDeclared ds b × ((managed ds b).is_enabled ≡ true)

all-enabled : (ds : List Decl) → AllByRecursion (IsEnabled ds) (enabled_beans ds)
all-enabled ds = go ds (λ p any. any)
  where
    go : (es : List Decl) → ((p : Decl → Bool) → list_any p es ≡ true → list_any p ds ≡ true)
        → AllByRecursion (IsEnabled ds) (flat_map (enabled_bean ds) es)
    go [] within = tt
    go (decls.Bean b ∷ es) within = by (managed ds b).is_enabled refl
        (go es (λ p any. within p (or_right (p (decls.Bean b)) (list_any p es) any)))
      where
        by : (t : Bool) → (managed ds b).is_enabled ≡ t → AllByRecursion (IsEnabled ds) (flat_map (enabled_bean ds) es)
            → AllByRecursion (IsEnabled ds) (cond t (b ∷ []) [] ++ flat_map (enabled_bean ds) es)
        by true e rest = ((λ p passes. within p (or_left (p (decls.Bean b)) (list_any p es) passes), e), rest)
        by false e rest = rest
    go (other ∷ es) within = go es (λ p any. within p (or_right (p other) (list_any p es) any))

-- no two have one class
abbrev HaveOthers : BeanDecl → BeanDecl → Type 0
HaveOthers a b = bytes_eq b.name a.name ≡ false

names-apart : (ds es : List Decl) → Apart (λ d e. key_of d ≢ key_of e) es → Apart HaveOthers (flat_map (enabled_bean ds) es)
names-apart ds [] apart = tt
names-apart ds (decls.Bean b ∷ es) apart = by (managed ds b).is_enabled (names-apart ds es apart.1)
  where
    others : (fs : List Decl) → AllByRecursion (λ e. key_of (decls.Bean b) ≢ key_of e) fs
        → AllByRecursion (HaveOthers b) (flat_map (enabled_bean ds) fs)
    others [] all = tt
    others (decls.Bean c ∷ fs) all = one (managed ds c).is_enabled (others fs all.1)
      where
        one : (t : Bool) → AllByRecursion (HaveOthers b) (flat_map (enabled_bean ds) fs)
            → AllByRecursion (HaveOthers b) (cond t (c ∷ []) [] ++ flat_map (enabled_bean ds) fs)
        one true rest = (other_text c.name b.name (λ same. all.0 (ap (key_at kinds.Bean) (sym same))), rest)
        one false rest = rest
    others (other ∷ fs) all = others fs all.1

    by : (t : Bool) → Apart HaveOthers (flat_map (enabled_bean ds) es)
        → Apart HaveOthers (cond t (b ∷ []) [] ++ flat_map (enabled_bean ds) es)
    by true rest = (others es apart.0, rest)
    by false rest = rest
names-apart ds (other ∷ es) apart = names-apart ds es apart.1

enabled-others : (ds : List Decl) → AreDistinct ds → Apart HaveOthers (enabled_beans ds)
enabled-others ds distinct = names-apart ds ds (pairs-apart (λ d e. key_of d ≢ key_of e) ds distinct)

-- ---- an enabled bean is behind no other

enabled-parts : (ds : List Decl) (b : BeanDecl) → (managed ds b).is_enabled ≡ true
    → (not (is_replaced ds b.name) ≡ true) × (is_offered ds b ≡ true)
unfolding effective
enabled-parts ds b is = and_parts (not (is_replaced ds b.name)) (is_offered ds b) is

not-behind : (ds : List Decl) (a b : BeanDecl) → IsEnabled ds a → IsEnabled ds b → has (class_names (behind ds b)) a.name ≡ false
unfolding replaced_by is_replaced
not-behind ds a b of_a of_b = grind (arith, a.name, of_b.1, of_a.1, of_b.0, enabled-parts, false≢true, not-true)

-- ---- so it is enough to look behind two enabled beans

-- the fault of two beans, where one is behind both
abbrev pub behind_two : List Decl → BeanDecl → BeanDecl → List Fault
behind_two ds a b = map (twice a.name b.name) (option_to_list (find (has (class_names (behind ds b))) (class_names (behind ds a))))

other-names : (name : List ℕ) (cs : List (List ℕ)) → has cs name ≡ false → AllByRecursion (λ c. bytes_eq name c ≡ false) cs
other-names name [] none = tt
other-names name (c ∷ cs) none =
    let (here, rest) = or_parts (bytes_eq c name) (has cs name) none in (bytes_eq-turned name c ∙ here, other-names name cs rest)

-- neither is in the chain of the other
not-in_chain : (ds : List Decl) (a b : BeanDecl) → IsEnabled ds a → IsEnabled ds b → HaveOthers a b → is_in_chain ds b a.name ≡ false
not-in_chain ds a b of_a of_b other = ap (λ t. t || has (class_names (behind ds b)) a.name) other ∙ not-behind ds a b of_a of_b

two-apart : (ds : List Decl) (a b : BeanDecl) → IsEnabled ds a → IsEnabled ds b → HaveOthers a b → are_apart ds a b ≡ true
two-apart ds a b of_a of_b other = grind (arith, b.name, a.name, not-in_chain, bytes_eq-turned)

-- so their fault is that of the first shared class
two-shared : (ds : List Decl) (a b : BeanDecl) → IsEnabled ds a → IsEnabled ds b → HaveOthers a b
    → faults_of_two ds a b ≡ map (twice a.name b.name) (option_to_list (first_shared ds a b))
two-shared ds a b of_a of_b other = ap (λ t. cond t (map (twice a.name b.name) (option_to_list (first_shared ds a b))) [])
    (two-apart ds a b of_a of_b other)

two-behind : (ds : List Decl) (a b : BeanDecl) → IsEnabled ds a → IsEnabled ds b → HaveOthers a b → faults_of_two ds a b ≡ behind_two ds a b
two-behind ds a b of_a of_b other =
    let behind_a = class_names (behind ds a) in
    let behind_b = class_names (behind ds b) in
    let same : AllByRecursion (λ c. is_in_chain ds b c ≡ has behind_b c) behind_a =
    all-weaker (λ c. bytes_eq b.name c ≡ false) (λ c. is_in_chain ds b c ≡ has behind_b c) behind_a (λ c e. ap (λ t. t || has behind_b c) e)
    (other-names b.name behind_a (not-behind ds b a of_b of_a)) in
    let shared : first_shared ds a b ≡ find (has behind_b) behind_a =
    ap (λ t. cond t (Some a.name) (find (is_in_chain ds b) behind_a)) (not-in_chain ds a b of_a of_b other)
    ∙ find-same (is_in_chain ds b) (has behind_b) behind_a same in
    two-shared ds a b of_a of_b other ∙ ap (λ o. map (twice a.name b.name) (option_to_list o)) shared

-- ---- and at those that say that they specialize others

none-behind : (ds : List Decl) (b : BeanDecl) → b.specializes ≡ false → class_names (behind ds b) ≡ []
unfolding behind
none-behind ds b none = ap class_names (ends-none limit ds (b.name ∷ []) b (rw none refl))

find-none : {X : Type 0} (xs : List X) → find (λ x. false) xs ≡ None
find-none [] = refl
find-none (x ∷ xs) = find-none xs

first-none : (ds : List Decl) (a b : BeanDecl) → a.specializes ≡ false → behind_two ds a b ≡ []
first-none ds a b none = ap (λ cs. map (twice a.name b.name) (option_to_list (find (has (class_names (behind ds b))) cs)))
    (none-behind ds a none)

second-none : (ds : List Decl) (a b : BeanDecl) → b.specializes ≡ false → behind_two ds a b ≡ []
second-none ds a b none =
    ap (λ cs. map (twice a.name b.name) (option_to_list (find (has cs) (class_names (behind ds a))))) (none-behind ds b none)
    ∙ ap (λ o. map (twice a.name b.name) (option_to_list o)) (find-none (class_names (behind ds a)))

-- the fault of each two enabled beans is that of what is behind both
pub two-of-enabled : (ds : List Decl) → AreDistinct ds → Apart (λ a b. faults_of_two ds a b ≡ behind_two ds a b) (enabled_beans ds)
two-of-enabled ds distinct =
    apart-by HaveOthers (λ a b. faults_of_two ds a b ≡ behind_two ds a b) (IsEnabled ds) (two-behind ds) (enabled_beans ds)
    (all-enabled ds) (enabled-others ds distinct)

pub pairs-behind : (ds : List Decl) → AreDistinct ds → of_pairs (behind_two ds) (specializing ds) ≡ faults_of_pairs ds
pairs-behind ds distinct =
    pairs-filter (behind_two ds) (λ b. b.specializes) (first-none ds) (second-none ds) (enabled_beans ds)
    ∙ sym (pairs-same (faults_of_two ds) (behind_two ds) (enabled_beans ds) (two-of-enabled ds distinct))

-- ---- lines

abbrev Entries : Type 0
Entries = List (List ℕ × Fault)

-- the lines are those of the faults
all-has : (fs : List Fault) (es : Entries) (line : List ℕ)
    → has (keys_of (fold with_line es fs)) line ≡ (has (map text_of_fault fs) line || has (keys_of es) line)
all-has [] es line = refl
all-has (f ∷ fs) es line = grind (arith, all-has fs (with_line es f) line, keys-insert, has-insert, or_assoc, or_comm)

-- they are texts in order
keys-rise : (fs : List Fault) (es : Entries) (lines : List (List ℕ)) → keys_of es ≡ in_order lines
    → IsStrictlySortedBy byte_order (keys_of (fold with_line es fs))
keys-rise [] es lines are = subst (IsStrictlySortedBy byte_order) (sym are) (in_order-rises lines)
keys-rise (f ∷ fs) es lines are = keys-rise fs (with_line es f) (text_of_fault f ∷ lines)
    (keys-insert (text_of_fault f) f es ∙ ap (λ ks. insert_key byte_order ks (text_of_fault f)) are)

abbrev StandAtLines : Entries → Type 0
StandAtLines es = AllByRecursion (λ e. text_of_fault e.1 ≡ e.0) es

insert-stands : (f : Fault) (es : Entries) → StandAtLines es → StandAtLines (with_line es f)
insert-stands f [] stand = (refl, tt)
insert-stands f (e ∷ es) stand = grind (arith, insert-stands f es stand.1, e.0, stand.1, stand.0, same_name)

all-stand : (fs : List Fault) (es : Entries) → StandAtLines es → StandAtLines (fold with_line es fs)
all-stand [] es stand = stand
all-stand (f ∷ fs) es stand = all-stand fs (with_line es f) (insert-stands f es stand)

lines-keys : (es : Entries) → StandAtLines es → map text_of_fault (map (λ e. e.1) es) ≡ keys_of es
lines-keys [] stand = refl
lines-keys (e ∷ es) stand = ap (λ t. t ∷ map text_of_fault (map (λ f. f.1) es)) stand.0 ∙ ap (λ ts. e.0 ∷ ts) (lines-keys es stand.1)

-- the lines of the faults rise
pub twice_rise : (ds : List Decl) → IsStrictlySortedBy byte_order (map text_of_fault (specialized_twice ds))
unfolding specialized_twice
twice_rise ds =
    let fs = faults_of_pairs ds in
    subst (IsStrictlySortedBy byte_order) (sym (lines-keys (by_line fs) (all-stand fs [] tt))) (keys-rise fs [] [] refl)

-- ---- what holds of each fault of two beans holds of all

insert-all : (P : Fault → Type 0) (f : Fault) (es : Entries) → P f → AllByRecursion (λ e. P e.1) es
    → AllByRecursion (λ e. P e.1) (with_line es f)
insert-all P f [] here all = (here, tt)
insert-all P f (e ∷ es) here all = grind (arith, insert-all P f es here all.1, e.0, all.1, e.1, all.0)

fold-all : (P : Fault → Type 0) (fs : List Fault) (es : Entries) → AllByRecursion P fs → AllByRecursion (λ e. P e.1) es
    → AllByRecursion (λ e. P e.1) (fold with_line es fs)
fold-all P [] es all entries = entries
fold-all P (f ∷ fs) es all entries = fold-all P fs (with_line es f) all.1 (insert-all P f es all.0 entries)

faults-in : (P : Fault → Type 0) (es : Entries) → AllByRecursion (λ e. P e.1) es → AllByRecursion P (map (λ e. e.1) es)
faults-in P [] all = tt
faults-in P (e ∷ es) all = (all.0, faults-in P es all.1)

pairs-all : {X : Type 0} (P : Fault → Type 0) (f : X → X → List Fault) → ((x y : X) → AllByRecursion P (f x y)) → (xs : List X)
    → AllByRecursion P (of_pairs f xs)
pairs-all P f each [] = tt
pairs-all P f each (x ∷ xs) = all-append P (flat_map (f x) xs) (of_pairs f xs) (behind xs) (pairs-all P f each xs)
  where
    behind : (ys : List _) → AllByRecursion P (flat_map (f x) ys)
    behind [] = tt
    behind (y ∷ ys) = all-append P (f x y) (flat_map (f x) ys) (each x y) (behind ys)

two-all : (P : Fault → Type 0) → ((a b class : List ℕ) → P (twice a b class)) → (ds : List Decl) (a b : BeanDecl)
    → AllByRecursion P (faults_of_two ds a b)
two-all P each ds a b = grind (arith, a.name, b.name)

pub twice-each : (P : Fault → Type 0) → ((a b class : List ℕ) → P (twice a b class)) → (ds : List Decl)
    → AllByRecursion P (specialized_twice ds)
unfolding specialized_twice
twice-each P each ds =
    let fs = faults_of_pairs ds in
    faults-in P (by_line fs) (fold-all P fs [] (pairs-all P (faults_of_two ds) (two-all P each ds) (enabled_beans ds)) tt)

-- ---- two enabled beans whose chains share a class

-- one that is among some texts and passes a test is found, or one before it
find-some : (p : List ℕ → Bool) (cs : List (List ℕ)) (class : List ℕ) → has cs class ≡ true → p class ≡ true
    → (s : List ℕ) × (find p cs ≡ Some s) × (has cs s ≡ true) × (p s ≡ true)
find-some p [] class among passes = absurd (false≢true among)
find-some p (c ∷ cs) class among passes = by (p c) refl (find-some p cs class)
  where
    by : (t : Bool) → p c ≡ t → (has cs class ≡ true → p class ≡ true
        → (s : List ℕ) × (find p cs ≡ Some s) × (has cs s ≡ true) × (p s ≡ true))
        → (s : List ℕ) × (cond t (Some c) (find p cs) ≡ Some s) × (has (c ∷ cs) s ≡ true) × (p s ≡ true)
    by true e later = (c, refl, or_left (bytes_eq c c) (has cs c) (same_text c c refl), e)
    by false e later = elim (or_cases (bytes_eq c class) (has cs class) among) [
      | inl here ↦ absurd (false≢true (sym e ∙ ap p (one_text c class here) ∙ passes))
      | inr there ↦ let found = later there passes in (found.0, found.1, or_right (bytes_eq c found.0) (has cs found.0) found.2, found.3)
    ]

abbrev pub lines_of : List Fault → List (List ℕ)
lines_of fs = map text_of_fault fs

lines-append : (fs gs : List Fault) (line : List ℕ) → has (lines_of (fs ++ gs)) line ≡ (has (lines_of fs) line || has (lines_of gs) line)
lines-append [] gs line = refl
lines-append (f ∷ fs) gs line = grind (arith, lines-append fs gs line, or_assoc)

-- what two give is among what all pairs give
module _ {X : Type 0} (f : X → X → List Fault) (all : List (List ℕ)) where
  abbrev IsWithin : List Fault → Type 0
  IsWithin fs = (line : List ℕ) → has (lines_of fs) line ≡ true → has all line ≡ true

  front-within : (fs gs : List Fault) → IsWithin (fs ++ gs) → IsWithin fs
  front-within fs gs within line among =
      within line (lines-append fs gs line ∙ or_left (has (lines_of fs) line) (has (lines_of gs) line) among)

  back-within : (fs gs : List Fault) → IsWithin (fs ++ gs) → IsWithin gs
  back-within fs gs within line among =
      within line (lines-append fs gs line ∙ or_right (has (lines_of fs) line) (has (lines_of gs) line) among)

  later-within : (x : X) (ys : List X) → IsWithin (flat_map (f x) ys) → AllByRecursion (λ y. IsWithin (f x y)) ys
  later-within x [] within = tt
  later-within x (y ∷ ys) within = (
    front-within (f x y) (flat_map (f x) ys) within,
    later-within x ys (back-within (f x y) (flat_map (f x) ys) within),
  )

  pairs-within : (xs : List X) → IsWithin (of_pairs f xs) → Apart (λ x y. IsWithin (f x y)) xs
  pairs-within [] within = tt
  pairs-within (x ∷ xs) within = (
    later-within x xs (front-within (flat_map (f x) xs) (of_pairs f xs) within),
    pairs-within xs (back-within (flat_map (f x) xs) (of_pairs f xs) within),
  )

pub lines-told : (ds : List Decl) (line : List ℕ) → has (lines_of (faults_of_pairs ds)) line ≡ true
    → has (lines_of (specialized_twice ds)) line ≡ true
unfolding specialized_twice
lines-told ds line among = grind (arith, lines-keys, all-stand, all-has)

two-told : (ds : List Decl) (a b : BeanDecl) → IsEnabled ds a → IsEnabled ds b → HaveOthers a b
    → ((line : List ℕ) → has (lines_of (faults_of_two ds a b)) line ≡ true → has (lines_of (specialized_twice ds)) line ≡ true)
    → (class : List ℕ) → is_in_chain ds a class ≡ true → is_in_chain ds b class ≡ true → AreTold ds a b
two-told ds a b of_a of_b other within class in_a in_b =
    let found = find-some (is_in_chain ds b) (class_names (chain ds a)) class in_a in_b in
    let line = text_of_fault (twice a.name b.name found.0) in
    let one : faults_of_two ds a b ≡ twice a.name b.name found.0 ∷ [] = two-shared ds a b of_a of_b other
    ∙ ap (λ o. map (twice a.name b.name) (option_to_list o)) found.1 in
    record {
      class = found.0;
      first = found.2;
      second = found.3;
      alone = one;
      line = within line (ap (λ fs. has (lines_of fs) line) one ∙ or_left (bytes_eq line line) false (same_text line line refl));
    }

pub both-apart : {X : Type 0} (R S : X → X → Type 0) (xs : List X) → Apart R xs → Apart S xs → Apart (λ x y. R x y × S x y) xs
both-apart R S [] r s = tt
both-apart R S (x ∷ xs) r s = (behind xs r.0 s.0, both-apart R S xs r.1 s.1)
  where
    behind : (ys : List _) → AllByRecursion (R x) ys → AllByRecursion (S x) ys → AllByRecursion (λ y. R x y × S x y) ys
    behind [] rs ss = tt
    behind (y ∷ ys) rs ss = ((rs.0, ss.0), behind ys rs.1 ss.1)

pub sharers_are_told : SharersAreTold
sharers_are_told ds distinct =
    let Within : BeanDecl → BeanDecl → Type 0 = λ a b. (line : List ℕ) → has (lines_of (faults_of_two ds a b)) line ≡ true
    → has (lines_of (specialized_twice ds)) line ≡ true in
    let Told : BeanDecl → BeanDecl → Type 0 = λ a b. (class : List ℕ) → is_in_chain ds a class ≡ true → is_in_chain ds b class ≡ true
    → AreTold ds a b in
    apart-pairs Told (enabled_beans ds)
    (apart-by (λ a b. HaveOthers a b × Within a b) Told (IsEnabled ds)
    (λ a b of_a of_b both. two-told ds a b of_a of_b both.0 both.1) (enabled_beans ds) (all-enabled ds)
    (both-apart HaveOthers Within (enabled_beans ds) (enabled-others ds distinct)
    (pairs-within (faults_of_two ds) (lines_of (specialized_twice ds)) (enabled_beans ds) (lines-told ds))))
