-- Of a reported pair of names the second is the first, a dot and a text, which is a name where the second is one by the grammar.
use Rattle.cdi_validate.proofs.Common.{◌≡◌, List, ◌++◌, sym, ap, ◌∙◌, flat_map, beans, circles, faults, faults_of, name_clashes}
use Rattle.cdi_validate.proofs.Common.{name_prefixes, specialized_twice, ℕ, Bool, true, false, [], ◌∷◌, length, map, filter, arith}
use Rattle.cdi_validate.proofs.Common.{AllByRecursion, ◌≤◌, nat_eq, and_parts, eqb-true, false≢true, le-leb, leb-true, dot, begins}
use Rattle.cdi_validate.proofs.Common.{continues, is_letter, is_name, Fault, enabled_names, nat_le, all-weaker, all-append, goes_on}
use Rattle.std.proofs.lemmas.List.Elements.{All-from_recursion, recursion_from_All, All-contains, filter_passes}
use Rattle.std.proofs.lemmas.Bool.{and_from}
use Rattle.cdi_model.specs.Grammar.{goes_on as continues_name}
use Rattle.cdi_faults.specs.declared.fault.Fault.TheVariants as faults_are
use Rattle.cdi_validate.proofs.{ApartLemmas.all-map, TwiceLemmas.twice-each}
use Rattle.cdi_validate.proofs.OnceLemmas.{circles-each, clashes-tagged, declared-tagged, is-declared}
use Rattle.cdi_validate.specs.Faults.{IsNameBehind, PrefixesGoOn}

-- ---- names

-- where a text and a dot and more are identifiers joined by dots, what is behind the dot begins with one
begins-behind : (starts : Bool) (x z : List ℕ) → continues starts (x ++ dot ∷ z) ≡ true → begins z ≡ true
begins-behind true [] z is = absurd (false≢true is)
begins-behind false [] z is = is
begins-behind true (b ∷ x) z is = begins-behind false x z (and_parts (is_letter b) (continues_name (x ++ dot ∷ z)) is).1
begins-behind false (b ∷ x) z is = grind (arith, begins-behind true x z, begins-behind false x z)

longer : (x z : List ℕ) → length z ≤ length (x ++ dot ∷ z)
longer [] z = omega arith
longer (b ∷ x) z = omega (arith, longer x z)

name-behind : (x z : List ℕ) → is_name (x ++ dot ∷ z) ≡ true → is_name z ≡ true
name-behind x z is =
    let (whole, short) = and_parts (begins (x ++ dot ∷ z)) (nat_le (length (x ++ dot ∷ z)) 64) is in
    let within : length z ≤ 64 = omega (arith, longer x z, leb-true (length (x ++ dot ∷ z)) 64 short) in
    and_from (begins z) (nat_le (length z) 64) (begins-behind true x z whole) (le-leb (length z) 64 within)

parted : (x y : List ℕ) → goes_on x y ≡ true → (z : List ℕ) × (y ≡ x ++ dot ∷ z)
parted [] [] is = absurd (false≢true is)
parted [] (b ∷ y) is = (y, ap (λ c. c ∷ y) (sym (eqb-true dot b (and_parts (nat_eq dot b) true is).0)))
parted (a ∷ x) [] is = absurd (false≢true is)
parted (a ∷ x) (b ∷ y) is =
    let (same, more) = and_parts (nat_eq a b) (goes_on x y) is in
    let behind = parted x y more in
    (behind.0, ap (λ c. c ∷ y) (sym (eqb-true a b same)) ∙ ap (λ bs. a ∷ bs) behind.1)

is_behind : (x y : List ℕ) → goes_on x y ≡ true → IsNameBehind x y
is_behind x y is = grind (arith, parted, name-behind)

-- ---- faults

abbrev GoesOn : Fault → Type 0
GoesOn (faults_are.NamePrefix x y) = goes_on x y ≡ true
GoesOn other = Unit {0}

of_declared : (f : Fault) → is-declared f ≡ 0 → GoesOn f
of_declared (faults_are.NamePrefix x y) is = absurd (omega (arith, is))
of_declared other is = tt

of_clash : (f : Fault) → is-declared f ≡ 1 → GoesOn f
of_clash (faults_are.NamePrefix x y) is = absurd (omega (arith, is))
of_clash other is = tt

pairs-go_on : (all xs : List (List ℕ)) → AllByRecursion GoesOn (flat_map (λ x. map (faults_are.NamePrefix x) (filter (goes_on x) all)) xs)
pairs-go_on all [] = tt
pairs-go_on all (x ∷ xs) =
    all-append GoesOn (map (faults_are.NamePrefix x) (filter (goes_on x) all)) _
    (all-map GoesOn (faults_are.NamePrefix x) (filter (goes_on x) all)
    (recursion_from_All (λ y. goes_on x y ≡ true) (filter (goes_on x) all) (filter_passes (goes_on x) all)))
    (pairs-go_on all xs)

pub prefixes_go_on : PrefixesGoOn
unfolding faults
prefixes_go_on ds book x y among =
    let bs = beans ds in
    let declared = flat_map (faults_of ds book) ds in
    let all : AllByRecursion GoesOn (faults ds book) =
    all-append GoesOn (declared ++ name_clashes bs ++ name_prefixes bs ++ circles ds) (specialized_twice ds)
    (all-append GoesOn (declared ++ name_clashes bs ++ name_prefixes bs) (circles ds)
    (all-append GoesOn (declared ++ name_clashes bs) (name_prefixes bs)
    (all-append GoesOn declared (name_clashes bs)
    (all-weaker (λ f. is-declared f ≡ 0) GoesOn declared of_declared (declared-tagged ds book ds))
    (all-weaker (λ f. is-declared f ≡ 1) GoesOn (name_clashes bs) of_clash (clashes-tagged _)))
    (pairs-go_on (enabled_names bs) (enabled_names bs)))
    (circles-each GoesOn (λ id. tt) ds))
    (twice-each GoesOn (λ a b class. tt) ds) in
    is_behind x y (All-contains GoesOn (faults ds book) (faults_are.NamePrefix x y) (All-from_recursion GoesOn (faults ds book) all) among)
