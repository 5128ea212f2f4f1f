-- No fault stands twice.
use Rattle.cdi_validate.proofs.Common.{all-weaker, all-each, all-append, ◌≡◌, List, ◌++◌, sym, ◌∙◌, append_assoc, flat_map, Promised, Decl}
use Rattle.cdi_validate.proofs.Common.{beans, circles, faults, faults_of, name_clashes, name_prefixes, specialized_twice, ◌≢◌, ℕ, Bool}
use Rattle.cdi_validate.proofs.Common.{true, false, [], ◌∷◌, map, filter, refl, arith, AllByRecursion, AllPairs, false≢true, Fault}
use Rattle.cdi_validate.proofs.Common.{enabled_names, subst, AreDistinct, text_of_fault, BeanId, circular, circle, Some, name_of_decl}
use Rattle.cdi_validate.proofs.Common.{text_of_id, Effective, Option, None, nat_list_cmp_total, enabled_name, in_order-rises, kind_of}
use Rattle.cdi_validate.proofs.Common.{key_of, DeclKey, in_text_order, faults_of_code, subjects_in_order, goes_on}
use Rattle.cdi_faults.specs.{Codes.all_codes, Codes.code_of, declared.fault.Code.Code, declared.fault.Subject.Subject}
use Rattle.cdi_faults.proofs.CodeLemmas.{codes_rise, code_order-total}
use Rattle.cdi_faults.specs.FaultText.{text_of_subject}
use Rattle.cdi_faults.specs.declared.fault.Fault.TheVariants as faults_are
use Rattle.cdi_subjects.specs.Subjects.{subjects_at_fault}
use Rattle.cdi_validate.proofs.ApartLemmas.{Differ, Tagged, all-map, apart-filter, apart-more, apart-pairs, differ-append, differ-by}
use Rattle.cdi_validate.proofs.ApartLemmas.{differ-flat_map, differ-map, pairs-apart, rising-differ}
use Rattle.cdi_validate.proofs.{NeedLemmas.circular-rise, TwiceLemmas.twice-each, TwiceLemmas.twice_rise}
use Rattle.cdi_validate.specs.Faults.{FaultsStandOnce}

-- ---- faults of one declaration

one-subject : (code : Code) (d : Decl) (m n : Subject)
    → faults_are.Declared code (kind_of d) (name_of_decl d) m ≡ faults_are.Declared code (kind_of d) (name_of_decl d) n → m ≡ n
one-subject code d m n e = cc

of_code-differ : (ds : List Decl) (book : List Promised) (d : Decl) (code : Code) → Differ (faults_of_code ds book d code)
of_code-differ ds book d code =
    let ms = subjects_at_fault code ds book d in
    differ-map (faults_are.Declared code (kind_of d) (name_of_decl d)) (one-subject code d) (in_text_order ms)
    (differ-by text_of_subject (in_text_order ms)
    (rising-differ nat_list_cmp_total (map text_of_subject (in_text_order ms)) (subjects_in_order ms).0))

of_code-tagged : (ds : List Decl) (book : List Promised) (d : Decl) (code : Code) → Tagged code_of code (faults_of_code ds book d code)
of_code-tagged ds book d code = grind (arith, all-map, all-each)

of_decl-differ : (ds : List Decl) (book : List Promised) (d : Decl) → Differ (faults_of ds book d)
of_decl-differ ds book d = differ-flat_map code_of (faults_of_code ds book d) (λ code. code) (of_code-tagged ds book d)
    (of_code-differ ds book d) all_codes
    (rising-differ code_order-total all_codes codes_rise)

-- ---- faults of all declarations

abbrev key-of : Fault → Option DeclKey
key-of (faults_are.Declared code kind name subject) = Some (record { kind = kind; name = name })
key-of other = None

some-key : (k l : DeclKey) → Some k ≡ Some l → k ≡ l
some-key k l e = cc

of_decl-tagged : (ds : List Decl) (book : List Promised) (d : Decl) → Tagged key-of (Some (key_of d)) (faults_of ds book d)
of_decl-tagged ds book d = go all_codes
  where
    go : (cs : List Code) → Tagged key-of (Some (key_of d)) (flat_map (faults_of_code ds book d) cs)
    go [] = tt
    go (c ∷ cs) =
        let ms = in_text_order (subjects_at_fault c ds book d) in
        all-append (λ f. key-of f ≡ Some (key_of d)) (faults_of_code ds book d c) (flat_map (faults_of_code ds book d) cs)
        (all-map (λ f. key-of f ≡ Some (key_of d)) (faults_are.Declared c (kind_of d) (name_of_decl d)) ms (all-each _ (λ m. refl) ms))
        (go cs)

declared-differ : (now : List Decl) (book : List Promised) (ds : List Decl) → AllPairs (λ d e. key_of d ≢ key_of e) ds
    → Differ (flat_map (faults_of now book) ds)
declared-differ now book ds keyed =
    differ-flat_map key-of (faults_of now book) (λ d. Some (key_of d)) (of_decl-tagged now book) (of_decl-differ now book) ds
    (apart-more _ _ (λ d e other same. other (some-key (key_of d) (key_of e) same)) ds (pairs-apart (λ d e. key_of d ≢ key_of e) ds keyed))

-- 0 for a fault of a declaration, one for each kind of faults of names, 3 for a circle, and 4 for two beans that specialize one
abbrev pub is-declared : Fault → ℕ
is-declared (faults_are.Declared code kind name subject) = 0
is-declared (faults_are.NameClash name) = 1
is-declared (faults_are.NamePrefix name longer) = 2
is-declared (faults_are.Circular class producer) = 3
is-declared (faults_are.SpecializedTwice specialized first second) = 4

one-apart : ◌≢◌ {A = ℕ} 1 0
one-apart e = absurd (omega (arith, e))

two-apart : ◌≢◌ {A = ℕ} 2 1
two-apart e = absurd (omega (arith, e))

two-from_zero : ◌≢◌ {A = ℕ} 2 0
two-from_zero e = absurd (omega (arith, e))

pub declared-tagged : (now : List Decl) (book : List Promised) (ds : List Decl)
    → AllByRecursion (λ f. is-declared f ≡ 0) (flat_map (faults_of now book) ds)
declared-tagged now book [] = tt
declared-tagged now book (d ∷ ds) =
    all-append (λ f. is-declared f ≡ 0) (faults_of now book d) (flat_map (faults_of now book) ds) (go all_codes)
    (declared-tagged now book ds)
  where
    go : (cs : List Code) → AllByRecursion (λ f. is-declared f ≡ 0) (flat_map (faults_of_code now book d) cs)
    go [] = tt
    go (c ∷ cs) =
        let ms = in_text_order (subjects_at_fault c now book d) in
        all-append (λ f. is-declared f ≡ 0) (faults_of_code now book d c) (flat_map (faults_of_code now book d) cs)
        (all-map (λ f. is-declared f ≡ 0) (faults_are.Declared c (kind_of d) (name_of_decl d)) ms (all-each _ (λ m. refl) ms)) (go cs)

-- ---- faults of names

one-name : (m n : List ℕ) → faults_are.NameClash m ≡ faults_are.NameClash n → m ≡ n
one-name m n e = cc

one-longer : (x m n : List ℕ) → faults_are.NamePrefix x m ≡ faults_are.NamePrefix x n → m ≡ n
one-longer x m n e = cc

names-differ : (bs : List Effective) → Differ (enabled_names bs)
names-differ bs = rising-differ nat_list_cmp_total (enabled_names bs) (in_order-rises (flat_map enabled_name bs))

clashes-differ : (bs : List Effective) → Differ (name_clashes bs)
clashes-differ bs = differ-map faults_are.NameClash one-name _ (apart-filter (λ x y. x ≢ y) _ (enabled_names bs) (names-differ bs))

abbrev shorter-of : Fault → Option (List ℕ)
shorter-of (faults_are.NamePrefix name longer) = Some name
shorter-of other = None

some-name : (k l : List ℕ) → Some k ≡ Some l → k ≡ l
some-name k l e = cc

prefixes-differ : (bs : List Effective) → Differ (name_prefixes bs)
prefixes-differ bs =
    let names = enabled_names bs in
    differ-flat_map shorter-of (λ x. map (faults_are.NamePrefix x) (filter (goes_on x) names)) (λ x. Some x)
    (λ x. all-map (λ f. shorter-of f ≡ Some x) (faults_are.NamePrefix x) (filter (goes_on x) names)
    (all-each _ (λ y. refl) (filter (goes_on x) names)))
    (λ x. differ-map (faults_are.NamePrefix x) (one-longer x) (filter (goes_on x) names)
    (apart-filter (λ y z. y ≢ z) (goes_on x) names (names-differ bs)))
    names
    (apart-more _ _ (λ x y other same. other (some-name x y same)) names (names-differ bs))

pub prefixes-each : (P : Fault → Type 0) → ((x y : List ℕ) → P (faults_are.NamePrefix x y)) → (names all : List (List ℕ))
    → AllByRecursion P (flat_map (λ x. map (faults_are.NamePrefix x) (filter (goes_on x) all)) names)
prefixes-each P each [] all = tt
prefixes-each P each (x ∷ xs) all =
    all-append P (map (faults_are.NamePrefix x) (filter (goes_on x) all)) _
    (all-map P (faults_are.NamePrefix x) (filter (goes_on x) all) (all-each _ (each x) (filter (goes_on x) all)))
    (prefixes-each P each xs all)

pub clashes-tagged : (names : List (List ℕ)) → AllByRecursion (λ f. is-declared f ≡ 1) (map faults_are.NameClash names)
clashes-tagged names = all-map (λ f. is-declared f ≡ 1) faults_are.NameClash names (all-each _ (λ n. refl) names)

-- ---- all faults

names-differ_too : (bs : List Effective) → Differ (name_clashes bs ++ name_prefixes bs)
names-differ_too bs =
    differ-append is-declared 1 (name_clashes bs) (name_prefixes bs) (clashes-tagged _)
    (prefixes-each (λ f. is-declared f ≢ 1) (λ x y. two-apart) (enabled_names bs) (enabled_names bs)) (clashes-differ bs)
    (prefixes-differ bs)

names-not_declared : (bs : List Effective) → AllByRecursion (λ f. is-declared f ≢ 0) (name_clashes bs ++ name_prefixes bs)
names-not_declared bs =
    all-append (λ f. is-declared f ≢ 0) (name_clashes bs) (name_prefixes bs)
    (all-weaker (λ f. is-declared f ≡ 1) (λ f. is-declared f ≢ 0) (name_clashes bs) (λ f one none. one-apart (sym one ∙ none))
    (clashes-tagged _))
    (prefixes-each (λ f. is-declared f ≢ 0) (λ x y. two-from_zero) (enabled_names bs) (enabled_names bs))

-- those of declarations and names
others-differ : (ds : List Decl) (book : List Promised) → AreDistinct ds
    → Differ (flat_map (faults_of ds book) ds ++ name_clashes (beans ds) ++ name_prefixes (beans ds))
others-differ ds book keyed =
    let bs = beans ds in
    let declared = flat_map (faults_of ds book) ds in
    subst Differ (sym (append_assoc declared (name_clashes bs) (name_prefixes bs)))
    (differ-append is-declared 0 declared (name_clashes bs ++ name_prefixes bs) (declared-tagged ds book ds) (names-not_declared bs)
    (declared-differ ds book ds keyed) (names-differ_too bs))

-- ---- circles

abbrev is-circle : Fault → Bool
is-circle (faults_are.Circular class producer) = true
is-circle other = false

declared-no_circle : (f : Fault) → is-declared f ≡ 0 → is-circle f ≡ false
declared-no_circle (faults_are.Circular class producer) is = absurd (omega (arith, is))
declared-no_circle (faults_are.SpecializedTwice specialized first second) is = refl
declared-no_circle other is = refl

others-no_circle : (ds : List Decl) (book : List Promised)
    → AllByRecursion (λ f. is-circle f ≡ false) (flat_map (faults_of ds book) ds ++ name_clashes (beans ds) ++ name_prefixes (beans ds))
others-no_circle ds book =
    let P : Fault → Type 0 = λ f. is-circle f ≡ false in
    let bs = beans ds in
    let declared = flat_map (faults_of ds book) ds in
    all-append P (declared ++ name_clashes bs) (name_prefixes bs)
    (all-append P declared (name_clashes bs)
    (all-weaker (λ f. is-declared f ≡ 0) P declared declared-no_circle (declared-tagged ds book ds))
    (all-map P faults_are.NameClash _ (all-each _ (λ n. refl) _)))
    (prefixes-each P (λ x y. refl) (enabled_names bs) (enabled_names bs))

one-circle : (a b : BeanId) → circle a ≡ circle b → a ≡ b
one-circle a b e = grind (arith, a.class, b.class, a.producer, b.producer)

circles-differ : (ds : List Decl) → Differ (circles ds)
circles-differ ds = differ-map circle one-circle (circular ds) (differ-by text_of_id (circular ds)
    (rising-differ nat_list_cmp_total (map text_of_id (circular ds)) (circular-rise ds)))

pub circles-each : (P : Fault → Type 0) → ((id : BeanId) → P (circle id)) → (ds : List Decl) → AllByRecursion P (circles ds)
circles-each P each ds = all-map P circle (circular ds) (all-each _ each (circular ds))

true-false : ◌≢◌ {A = Bool} true false
true-false e = false≢true (sym e)

-- those of declarations, names and circles
circled-differ : (ds : List Decl) (book : List Promised) → AreDistinct ds
    → Differ (flat_map (faults_of ds book) ds ++ name_clashes (beans ds) ++ name_prefixes (beans ds) ++ circles ds)
circled-differ ds book keyed =
    differ-append is-circle false (flat_map (faults_of ds book) ds ++ name_clashes (beans ds) ++ name_prefixes (beans ds)) (circles ds)
    (others-no_circle ds book) (circles-each (λ f. is-circle f ≢ false) (λ id. true-false) ds) (others-differ ds book keyed)
    (circles-differ ds)

-- ---- beans that specialize one

abbrev is-twice : Fault → Bool
is-twice (faults_are.SpecializedTwice specialized first second) = true
is-twice other = false

declared-not_twice : (f : Fault) → is-declared f ≡ 0 → is-twice f ≡ false
declared-not_twice (faults_are.SpecializedTwice specialized first second) is = absurd (omega (arith, is))
declared-not_twice other is = refl

circled-not_twice : (ds : List Decl) (book : List Promised)
    → AllByRecursion (λ f. is-twice f ≡ false)
    (flat_map (faults_of ds book) ds ++ name_clashes (beans ds) ++ name_prefixes (beans ds) ++ circles ds)
circled-not_twice ds book =
    let P : Fault → Type 0 = λ f. is-twice f ≡ false in
    let bs = beans ds in
    let declared = flat_map (faults_of ds book) ds in
    all-append P (declared ++ name_clashes bs ++ name_prefixes bs) (circles ds)
    (all-append P (declared ++ name_clashes bs) (name_prefixes bs)
    (all-append P declared (name_clashes bs)
    (all-weaker (λ f. is-declared f ≡ 0) P declared declared-not_twice (declared-tagged ds book ds))
    (all-map P faults_are.NameClash _ (all-each _ (λ n. refl) _)))
    (prefixes-each P (λ x y. refl) (enabled_names bs) (enabled_names bs)))
    (circles-each P (λ id. refl) ds)

twice-differ : (ds : List Decl) → Differ (specialized_twice ds)
twice-differ ds = differ-by text_of_fault (specialized_twice ds)
    (rising-differ nat_list_cmp_total (map text_of_fault (specialized_twice ds)) (twice_rise ds))

pub faults_stand_once : FaultsStandOnce
unfolding faults
faults_stand_once ds book keyed =
    let others = flat_map (faults_of ds book) ds ++ name_clashes (beans ds) ++ name_prefixes (beans ds) ++ circles ds in
    apart-pairs (λ f g. f ≢ g) (faults ds book)
    (differ-append is-twice false others (specialized_twice ds) (circled-not_twice ds book)
    (twice-each (λ f. is-twice f ≢ false) (λ a b class. true-false) ds) (circled-differ ds book keyed) (twice-differ ds))
