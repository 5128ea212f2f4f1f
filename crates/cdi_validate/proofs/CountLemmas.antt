-- Names of enabled beans, as they are counted.
use Rattle.cdi_validate.proofs.Common.{◌≡◌, List, ◌++◌, sym, ap, ◌∙◌, flat_map, Decl, beans, name_prefixes, ◌<◌, ℕ, suc, Bool, true, false}
use Rattle.cdi_validate.proofs.Common.{[], ◌∷◌, length, map, filter, refl, arith, AllByRecursion, AllPairs, ◌≤◌, nat_eq, false≢true, Fault}
use Rattle.cdi_validate.proofs.Common.{enabled_names, ◌&&◌, subst, bytes_eq, or_left, has, inl, inr, or_cases, or_right, entries, Effective}
use Rattle.cdi_validate.proofs.Common.{◌||◌, ◌+◌, get_or, one_text, same_text, flat_map-append, enabled_name, drop, list_all, insert_key}
use Rattle.cdi_validate.proofs.Common.{at_drop_more, length-append, byte_order, in_order, in_order-has, in_order-rises, one_order}
use Rattle.cdi_validate.proofs.Common.{is_nameless, names_by, AreNamesApart, HaveNoClash, goes_on}
use Rattle.base_lists.proofs.Flat.{map-empty}
use Rattle.cdi_faults.specs.declared.fault.Fault.TheVariants as faults_are
use Rattle.cdi_validate.proofs.{ApartLemmas.Apart, ApartLemmas.apart-by, ApartLemmas.apart-pairs, FoundLemmas.records-next}

-- ---- names among others

-- what holds of all of some names holds of one that is among them
pub all-has : (P : List ℕ → Type 0) (names : List (List ℕ)) (s : List ℕ) → AllByRecursion P names → has names s ≡ true → P s
all-has P [] s all among = absurd (false≢true among)
all-has P (n ∷ ns) s all among = elim (or_cases (bytes_eq n s) (has ns s) among) [
  | inl here ↦ subst P (one_text n s here) all.0
  | inr later ↦ all-has P ns s all.1 later
]

pub has-all : (P : List ℕ → Type 0) (names : List (List ℕ)) → ((s : List ℕ) → has names s ≡ true → P s) → AllByRecursion P names
has-all P [] each = tt
has-all P (n ∷ ns) each = (
  each n (or_left (bytes_eq n n) (has ns n) (same_text n n refl)),
  has-all P ns (λ s among. each s (or_right (bytes_eq n s) (has ns s) among)),
)

abbrev pub Differ : List ℕ → List ℕ → Type 0
Differ x y = bytes_eq x y ≡ false

not-has : (n : List ℕ) (names : List (List ℕ)) → has names n ≡ false → AllByRecursion (Differ n) names
not-has n names none = has-all (Differ n) names (λ m among. by m among (bytes_eq n m) refl)
  where
    by : (m : List ℕ) → has names m ≡ true → (b : Bool) → bytes_eq n m ≡ b → b ≡ false
    by m among true e = absurd (false≢true (sym none ∙ ap (has names) (one_text n m e) ∙ among))
    by m among false e = refl

-- ---- the names of the bean list

-- they are those of the bean list
names-listed : (ds es : List Decl) → flat_map enabled_name (flat_map (entries ds) es) ≡ flat_map (names_by ds) es
names-listed ds [] = refl
names-listed ds (e ∷ es) =
    flat_map-append enabled_name (entries ds e) (flat_map (entries ds) es) ∙ ap (λ names. names_by ds e ++ names) (names-listed ds es)

pub names-all : (ds : List Decl) → flat_map enabled_name (beans ds) ≡ flat_map (names_by ds) ds
unfolding beans
names-all ds = names-listed ds ds

-- ---- what gives nothing

all-fail : (p : List ℕ → Bool) (names : List (List ℕ)) → filter p names ≡ [] → AllByRecursion (λ n. p n ≡ false) names
all-fail p [] none = tt
all-fail p (n ∷ ns) none = grind (arith, all-fail p ns)

each-none : {X : Type 0} (f : List ℕ → List X) (names : List (List ℕ)) → flat_map f names ≡ [] → AllByRecursion (λ n. f n ≡ []) names
each-none f [] none = tt
each-none f (n ∷ ns) none = by (f n) refl none (each-none f ns)
  where
    by : (xs : List _) → f n ≡ xs → xs ++ flat_map f ns ≡ [] → (flat_map f ns ≡ [] → AllByRecursion (λ m. f m ≡ []) ns)
        → (f n ≡ []) × AllByRecursion (λ m. f m ≡ []) ns
    by [] e rest later = (e, later rest)
    by (x ∷ xs) e some later = absurd (let no : x ∷ (xs ++ flat_map f ns) ≡ [] = some in cc)

-- ---- no name continues another

-- none of some names continues one of them
abbrev pub NoneGoesOn : List (List ℕ) → Type 0
NoneGoesOn names = (x y : List ℕ) → has names x ≡ true → has names y ≡ true → goes_on x y ≡ false

none-by_prefixes : (bs : List Effective) → name_prefixes bs ≡ [] → NoneGoesOn (flat_map enabled_name bs)
none-by_prefixes bs none x y first second =
    let names = flat_map enabled_name bs in
    let all = enabled_names bs in
    let pairs : List ℕ → List Fault = λ z. map (faults_are.NamePrefix z) (filter (goes_on z) all) in
    let behind : pairs x ≡ [] = all-has (λ z. pairs z ≡ []) all x (each-none pairs all none) (in_order-has names x ∙ first) in
    all-has (λ z. goes_on x z ≡ false) all y
    (all-fail (goes_on x) all (map-empty (faults_are.NamePrefix x) (filter (goes_on x) all) behind)) (in_order-has names y ∙ second)

-- ---- as many names in order as names

insert-length : (k : List ℕ) (ms : List (List ℕ)) → length (insert_key byte_order ms k) ≤ suc (length ms)
insert-length k [] = omega arith
insert-length k (m ∷ ms) = grind (arith, insert-length k ms)

order-length : (names : List (List ℕ)) → length (in_order names) ≤ length names
order-length [] = omega arith
order-length (n ∷ ns) = grind (arith, order-length ns, insert-length)

-- a name that is among the others adds none
order-again : (n : List ℕ) (ns : List (List ℕ)) → has ns n ≡ true → in_order (n ∷ ns) ≡ in_order ns
order-again n ns among = one_order (in_order (n ∷ ns)) (in_order ns) (in_order-rises (n ∷ ns)) (in_order-rises ns)
    (λ s. in_order-has (n ∷ ns) s ∙ by s (bytes_eq n s) refl ∙ sym (in_order-has ns s))
  where
    by : (s : List ℕ) (b : Bool) → bytes_eq n s ≡ b → (bytes_eq n s || has ns s) ≡ has ns s
    by s true e = rw e (sym (ap (has ns) (sym (one_text n s e)) ∙ among))
    by s false e = rw e refl

-- so where there are as many, they differ
names-differ : (names : List (List ℕ)) → length names ≤ length (in_order names) → Apart Differ names
names-differ [] many = tt
names-differ (n ∷ ns) many = grind (arith, names-differ ns, order-again, order-length, insert-length, not-has)

-- and where none continues another besides, they are apart
pub apart-if_as_many : (ds : List Decl) → length (flat_map enabled_name (beans ds)) ≤ length (enabled_names (beans ds))
    → name_prefixes (beans ds) ≡ [] → HaveNoClash ds ds
apart-if_as_many ds many none =
    let names = flat_map enabled_name (beans ds) in
    let on = none-by_prefixes (beans ds) none in
    let apart : Apart AreNamesApart names = apart-by Differ AreNamesApart (λ x. has names x ≡ true)
    (λ x y first second other. record { differ = other; onward = on x y first second; back = on y x second first }) names
    (has-all (λ x. has names x ≡ true) names (λ x among. among)) (names-differ names many) in
    subst (AllPairs AreNamesApart) (names-all ds) (apart-pairs AreNamesApart names apart)

-- ---- declarations without names, as they are found

pub nameless-by : (ds : List Decl) (d : Decl) (records : List Effective) (count : ℕ)
    → records ≡ entries ds d → count ≡ length (flat_map enabled_name records) → is_nameless ds d ≡ nat_eq count 0
nameless-by ds d records count are counted =
    ap (λ bs. nat_eq (length (flat_map enabled_name bs)) 0) (sym are) ∙ ap (λ n. nat_eq n 0) (sym counted)

-- whether all of some are so, from one of them on
pub all-from : {X : Type 0} (p : Decl → Bool) (now : X → Decl) (xs : List X) (i : ℕ) (x : X) (b : Bool) → i < length xs
    → x ≡ get_or xs i x → p (now x) ≡ b → list_all p (map now (drop i xs)) ≡ (b && list_all p (map now (drop (i + 1) xs)))
all-from p now xs i x b within at is =
    at_drop_more (λ l. list_all p (map now l)) xs i x within
    ∙ ap (λ y. p (now y) && list_all p (map now (drop (i + 1) xs))) (sym at)
    ∙ ap (λ t. t && list_all p (map now (drop (i + 1) xs))) is

-- ---- how many names there are

-- the names of enabled beans of some declarations
abbrev listed : List Decl → List Decl → List (List ℕ)
listed ds es = flat_map enabled_name (flat_map (entries ds) es)

-- with those of one more declaration
pub count-next : (ds es : List Decl) (d : Decl) (records : List Effective) (count : ℕ) → records ≡ entries ds d
    → count ≡ length (flat_map enabled_name records) → length (listed ds es) + count ≡ length (listed ds (es ++ d ∷ []))
count-next ds es d records count are counted = grind (arith, length-append, flat_map-append, records-next)

-- there are no fewer in all
pub count-gone : (ds es rest : List Decl) → es ++ rest ≡ ds → length (listed ds es) ≤ length (flat_map enabled_name (beans ds))
unfolding beans
count-gone ds es rest split = grind (arith, flat_map-append, length-append)
