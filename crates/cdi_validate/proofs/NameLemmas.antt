-- Names that go on behind others, among names in byte order.
use Rattle.cdi_validate.proofs.Common.{◌≡◌, List, ◌++◌, sym, ap, ◌∙◌, flat_map, ◌<◌, ℕ, zero, suc, Bool, true, false, cond, [], ◌∷◌, length}
use Rattle.cdi_validate.proofs.Common.{map, filter, Ordering, Less, Equal, refl, AllByRecursion, IsStrictlySortedBy, tied_itself, nat_eq}
use Rattle.cdi_validate.proofs.Common.{and_parts, eqb-true, false≢true, dot, Fault, enabled_names, ◌&&◌, has, Effective, list_any, ◌+◌}
use Rattle.cdi_validate.proofs.Common.{get_or, is_at, slice_cmp, nat_cmp, nat_list_cmp_total, enabled_name, drop, Greater, at_drop_more}
use Rattle.cdi_validate.proofs.Common.{in_order-has, in_order-rises, one_order, ordering_then, nat_cmp_total, starts_with, has-by_order}
use Rattle.cdi_validate.proofs.Common.{prefix_pairs, arith}
use Rattle.std.proofs.{lemmas.List.drop_more, Math.Bool.and_assoc, Math.Bool.and-true, lemmas.Bool.Decides.Decides-eqb}
use Rattle.std.specs.Ordering.{ordering_reverse}
use Rattle.std.proofs.lemmas.Map.Lookups.{exact_unsigned}
use Rattle.cdi_faults.specs.declared.fault.Fault.TheVariants as faults_are
use Rattle.cdi_validate.specs.{Faults.goes_on, Names.has_dot_at}

abbrev order : List ℕ → List ℕ → Ordering
order = slice_cmp nat_cmp

-- ---- the parts of what goes on

-- a name that goes on behind another begins with it, and has a dot there
goes_on-parts : (x y : List ℕ) → goes_on x y ≡ (starts_with nat_eq y x && has_dot_at y (length x))
goes_on-parts [] [] = refl
goes_on-parts [] (b ∷ ys) = and-true (nat_eq dot b)
goes_on-parts (a ∷ xs) [] = refl
goes_on-parts (a ∷ xs) (b ∷ ys) = ap (λ rest. nat_eq a b && rest) (goes_on-parts xs ys)
    ∙ sym (and_assoc (nat_eq a b) (starts_with nat_eq ys xs) (has_dot_at ys (length xs)))

goes_on-begins : (x y : List ℕ) → starts_with nat_eq y x ≡ false → goes_on x y ≡ false
goes_on-begins x y e = goes_on-parts x y ∙ (rw e refl)

goes_on-dot : (x y : List ℕ) → starts_with nat_eq y x ≡ true → goes_on x y ≡ has_dot_at y (length x)
goes_on-dot x y e = goes_on-parts x y ∙ (rw e refl)

-- ---- the order

-- what goes on behind a name is after it
less-if_goes_on : (x y : List ℕ) → goes_on x y ≡ true → order x y ≡ Less
less-if_goes_on [] [] h = absurd (false≢true h)
less-if_goes_on [] (b ∷ ys) h = refl
less-if_goes_on (a ∷ xs) [] h = absurd (false≢true h)
less-if_goes_on (a ∷ xs) (b ∷ ys) h =
    let same : a ≡ b = eqb-true a b (and_parts (nat_eq a b) (goes_on xs ys) h).0 in
    let equal : nat_cmp a b ≡ Equal = ap (nat_cmp a) (sym same) ∙ tied_itself nat_cmp_total a in
    ap (λ o. ordering_then o (order xs ys)) equal ∙ less-if_goes_on xs ys (and_parts (nat_eq a b) (goes_on xs ys) h).1

-- so none goes on behind one after it, and none behind itself
goes_on-before : (x y : List ℕ) → order x y ≡ Less → goes_on y x ≡ false
goes_on-before x y less = grind (arith, nat_list_cmp_total.antisymm, less-if_goes_on)

pub goes_on-itself : (x : List ℕ) → goes_on x x ≡ false
goes_on-itself x = by (goes_on x x) refl
  where
    by : (b : Bool) → goes_on x x ≡ b → goes_on x x ≡ false
    by true e = let less = less-if_goes_on x x e in absurd
        (let no : Less ≡ Greater = sym less ∙ nat_list_cmp_total.antisymm x x ∙ ap ordering_reverse less in cc)
    by false e = e

-- a name between another and one that begins with it begins with it too
begins-between : (x y z : List ℕ) → order x y ≡ Less → order y z ≡ Less → starts_with nat_eq z x ≡ true → starts_with nat_eq y x ≡ true
begins-between [] y z less more begins = refl
begins-between (a ∷ xs) y [] less more begins = absurd (false≢true begins)
begins-between (a ∷ xs) [] (c ∷ zs) less more begins = absurd (let no : Greater ≡ Less = less in cc)
begins-between (a ∷ xs) (b ∷ ys) (c ∷ zs) less more begins = by (nat_cmp a b) refl
    (λ l m. begins-between xs ys zs l m (and_parts (nat_eq a c) (starts_with nat_eq zs xs) begins).1)
  where
    one : a ≡ c
    one = eqb-true a c (and_parts (nat_eq a c) (starts_with nat_eq zs xs) begins).0

    by : (o : Ordering) → nat_cmp a b ≡ o → (order xs ys ≡ Less → order ys zs ≡ Less → starts_with nat_eq ys xs ≡ true)
        → starts_with nat_eq (b ∷ ys) (a ∷ xs) ≡ true
    by Less e rest =
        let turned : nat_cmp b c ≡ Greater = ap (nat_cmp b) (sym one) ∙ nat_cmp_total.antisymm b a ∙ ap ordering_reverse e in
        absurd (let no : Greater ≡ Less = ap (λ o. ordering_then o (order ys zs)) (sym turned) ∙ more in cc)
    by Equal e rest =
        let same : a ≡ b = exact_unsigned a b e in
        let equal : nat_cmp b c ≡ Equal = ap (λ n. nat_cmp n c) (sym same) ∙ ap (nat_cmp a) (sym one) ∙ tied_itself nat_cmp_total a in
        let here : nat_eq a b ≡ true = (Decides-eqb a b).1 same in
        rw here (rest (ap (λ o. ordering_then o (order xs ys)) (sym e) ∙ less) (ap (λ o. ordering_then o (order ys zs)) (sym equal) ∙ more))
    by Greater e rest = absurd (let no : Greater ≡ Less = ap (λ o. ordering_then o (order xs ys)) (sym e) ∙ less in cc)

-- where a name does not begin with another before it, none after it does
none-behind : (x y : List ℕ) (zs : List (List ℕ)) → order x y ≡ Less → starts_with nat_eq y x ≡ false
    → AllByRecursion (λ z. order y z ≡ Less) zs → filter (goes_on x) zs ≡ []
none-behind x y [] less other rise = refl
none-behind x y (z ∷ zs) less other rise =
    grind (arith, none-behind x y zs less other rise.1, rise.1, rise.0, goes_on-begins, false≢true, begins-between)

none-from : (x y : List ℕ) (zs : List (List ℕ)) → order x y ≡ Less → starts_with nat_eq y x ≡ false
    → AllByRecursion (λ z. order y z ≡ Less) zs → filter (goes_on x) (y ∷ zs) ≡ []
none-from x y zs less other rise = rw (goes_on-begins x y other) (none-behind x y zs less other rise)

all-drop : (P : List ℕ → Type 0) (i : ℕ) (ys : List (List ℕ)) → AllByRecursion P ys → AllByRecursion P (drop i ys)
all-drop P zero ys all = all
all-drop P (suc i) [] all = all
all-drop P (suc i) (y ∷ ys) all = all-drop P i ys all.1

rises-drop : (i : ℕ) (ys : List (List ℕ)) → IsStrictlySortedBy order ys → IsStrictlySortedBy order (drop i ys)
unfolding IsStrictlySortedBy
rises-drop zero ys rise = rise
rises-drop (suc i) [] rise = rise
rises-drop (suc i) (y ∷ ys) rise = rises-drop i ys rise.1

-- the names from the i-th on, where that one does not begin with the name before all of them
pub none-left : (x y : List ℕ) (ys : List (List ℕ)) (i : ℕ) → IsStrictlySortedBy order (x ∷ ys) → i < length ys → y ≡ get_or ys i y
    → starts_with nat_eq y x ≡ false → filter (goes_on x) (drop i ys) ≡ []
unfolding IsStrictlySortedBy
none-left x y ys i rise lt at other = grind (arith, rise.0, rise.1, drop_more, all-drop, rises-drop, none-from)

-- and where it does
pub some-left : (x y : List ℕ) (ys : List (List ℕ)) (i : ℕ) (b : Bool) → i < length ys → y ≡ get_or ys i y → starts_with nat_eq y x ≡ true
    → has_dot_at y (length x) ≡ b
    → filter (goes_on x) (drop i ys) ≡ cond b (y ∷ filter (goes_on x) (drop (i + 1) ys)) (filter (goes_on x) (drop (i + 1) ys))
some-left x y ys i b lt at begins dot =
    at_drop_more (filter (goes_on x)) ys i y lt
    ∙ ap (λ z. filter (goes_on x) (z ∷ drop (i + 1) ys)) (sym at)
    ∙ ap (λ t. cond t (y ∷ filter (goes_on x) (drop (i + 1) ys)) (filter (goes_on x) (drop (i + 1) ys))) (goes_on-dot x y begins ∙ dot)

-- ---- the pairs

-- each of some names with those of all that go on behind it
abbrev pairs_in : List (List ℕ) → List (List ℕ) → List Fault
pairs_in all names = flat_map (λ x. map (faults_are.NamePrefix x) (filter (goes_on x) all)) names

-- a name before all of them goes on behind none
without-first : (x : List ℕ) (all names : List (List ℕ)) → AllByRecursion (λ y. order x y ≡ Less) names
    → pairs_in (x ∷ all) names ≡ pairs_in all names
without-first x all [] rise = refl
without-first x all (y ∷ ys) rise = rw (goes_on-before x y rise.0)
    (ap (λ rest. map (faults_are.NamePrefix y) (filter (goes_on y) all) ++ rest) (without-first x all ys rise.1))

-- so it is enough to look behind each name
pub pairs-behind : (names : List (List ℕ)) → IsStrictlySortedBy order names → pairs_in names names ≡ prefix_pairs names
unfolding IsStrictlySortedBy
pairs-behind [] rise = refl
pairs-behind (x ∷ xs) rise = rw (goes_on-itself x)
    (ap (λ rest. map (faults_are.NamePrefix x) (filter (goes_on x) xs) ++ rest) (without-first x xs xs rise.0 ∙ pairs-behind xs rise.1))

-- ---- names of enabled beans

-- the names of a set that has just those of enabled beans are these, in order
pub enabled_names-are : (bs : List Effective) (keys : List (List ℕ)) → IsStrictlySortedBy order keys
    → ((s : List ℕ) → list_any (is_at (slice_cmp nat_cmp s)) keys ≡ has (flat_map enabled_name bs) s) → keys ≡ enabled_names bs
enabled_names-are bs keys rise same = grind (arith, one_order, in_order-rises, has-by_order, in_order-has)
