-- The lines that the faults of names and circles print, in byte order.
use Rattle.cdi_validate.proofs.Common.{◌≡◌, List, ◌++◌, sym, ap, ◌∙◌, flat_map, Decl, circles, name_clashes, name_prefixes, ◌<◌, ℕ, Bool}
use Rattle.cdi_validate.proofs.Common.{true, false, [], ◌∷◌, map, filter, Ordering, Less, Equal, refl, arith, AllByRecursion, same_text}
use Rattle.cdi_validate.proofs.Common.{IsStrictlySortedBy, tied_itself, and_parts, eqb-true, begins, continues, is_letter, is_name, is_word}
use Rattle.cdi_validate.proofs.Common.{Fault, enabled_names, subst, bytes_eq, or_left, has, text_of_fault, BeanId, circular, circle}
use Rattle.cdi_validate.proofs.Common.{or_right, text_of_id, Effective, nat_cmp, chosen_by_name, is_ambiguous, enabled_name, AreNames}
use Rattle.cdi_validate.proofs.Common.{Greater, byte_order, in_order-has, in_order-rises, ordering_then, nat_cmp_total}
use Rattle.cdi_validate.proofs.Common.{IsStrictlySortedBy-filter, LinesRise, all-weaker, all-each, all-append, goes_on}
use Rattle.std.specs.Prelude.{codes}
use Rattle.std.proofs.lemmas.Bool.{lt-ltb, Decides.nat_tests}
use Rattle.cdi_model.specs.Grammar.{goes_on as continues_name}
use Rattle.cdi_model.specs.Bytes.{space}
use Rattle.cdi_faults.specs.declared.fault.Fault.TheVariants as faults_are
use Rattle.cdi_validate.proofs.{NeedLemmas.circular-rise, ApartLemmas.all-map}

-- ---- lists that rise

rises-map : {X Y : Type 0} (order : X → X → Ordering) (other : Y → Y → Ordering) (f : X → Y)
    → ((x y : X) → order x y ≡ Less → other (f x) (f y) ≡ Less) → (xs : List X) → IsStrictlySortedBy order xs
    → IsStrictlySortedBy other (map f xs)
unfolding IsStrictlySortedBy
rises-map order other f keeps [] rise = tt
rises-map order other f keeps (x ∷ xs) rise = grind (arith, rises-map order other f keeps xs rise.1, rise.0, rise.1, all-map, all-weaker)

rises-append : {X : Type 0} (order : X → X → Ordering) (xs ys : List X) → IsStrictlySortedBy order xs → IsStrictlySortedBy order ys
    → AllByRecursion (λ x. AllByRecursion (λ y. order x y ≡ Less) ys) xs → IsStrictlySortedBy order (xs ++ ys)
unfolding IsStrictlySortedBy
rises-append order [] ys front back below = back
rises-append order (x ∷ xs) ys front back below =
    grind (arith, rises-append order xs ys front.1 back below.1, front.0, below.0, front.1, below.1, all-append)

-- ---- lines

by_line : Fault → Fault → Ordering
by_line f g = byte_order (text_of_fault f) (text_of_fault g)

lines-rise : (fs : List Fault) → IsStrictlySortedBy by_line fs → IsStrictlySortedBy byte_order (map text_of_fault fs)
unfolding by_line
lines-rise = rises-map by_line byte_order text_of_fault (λ f g less. less)

-- what stands in front of both tells nothing
order-behind : (front xs ys : List ℕ) → byte_order (front ++ xs) (front ++ ys) ≡ byte_order xs ys
order-behind [] xs ys = refl
order-behind (b ∷ front) xs ys = ap (λ o. ordering_then o (byte_order (front ++ xs) (front ++ ys))) (tied_itself nat_cmp_total b)
    ∙ order-behind front xs ys

-- ---- name clashes

clash-keeps : (m n : List ℕ) → byte_order m n ≡ Less → by_line (faults_are.NameClash m) (faults_are.NameClash n) ≡ Less
unfolding by_line
clash-keeps m n less = order-behind (codes "F24 name ") m n ∙ less

pub clashes_rise : (bs : List Effective) → LinesRise (name_clashes bs)
clashes_rise bs =
    let test : List ℕ → Bool = λ n. is_ambiguous (chosen_by_name bs n) in
    lines-rise (name_clashes bs) (rises-map byte_order by_line faults_are.NameClash clash-keeps (filter test (enabled_names bs))
    (IsStrictlySortedBy-filter byte_order test (enabled_names bs) (in_order-rises (flat_map enabled_name bs))))

-- ---- circles

circle-lines : (ids : List BeanId)
    → map text_of_fault (map circle ids) ≡ map (λ text. codes "F26 bean " ++ text) (map text_of_id ids)
circle-lines [] = refl
circle-lines (id ∷ ids) = ap (λ lines. text_of_fault (circle id) ∷ lines) (circle-lines ids)

pub circles_rise : (ds : List Decl) → LinesRise (circles ds)
circles_rise ds = subst (IsStrictlySortedBy byte_order) (sym (circle-lines (circular ds)))
    (rises-map byte_order byte_order (λ text. codes "F26 bean " ++ text) (λ x y less. order-behind (codes "F26 bean ") x y ∙ less)
    (map text_of_id (circular ds)) (circular-rise ds))

-- ---- bytes of names

abbrev IsAboveSpace : List ℕ → Type 0
IsAboveSpace bytes = AllByRecursion (λ b. space < b) bytes

letter-above : (b : ℕ) → is_letter b ≡ true → space < b
letter-above b is = grind (arith, nat_tests)

word-above : (b : ℕ) → is_word b ≡ true → space < b
word-above b is = grind (arith, nat_tests)

continued-above : (starts : Bool) (bytes : List ℕ) → continues starts bytes ≡ true → IsAboveSpace bytes
continued-above starts [] is = tt
continued-above true (b ∷ bs) is =
    let (letter, rest) = and_parts (is_letter b) (continues_name bs) is in (letter-above b letter, continued-above false bs rest)
continued-above false (b ∷ bs) is = grind (arith, continued-above true bs, continued-above false bs, eqb-true, word-above)

name-above : (name : List ℕ) → is_name name ≡ true → IsAboveSpace name
name-above [] is = tt
name-above (b ∷ bs) is = continued-above true (b ∷ bs) (and_parts (begins (b ∷ bs)) _ is).0

-- ---- name prefixes

abbrev prefix_line : List ℕ → List ℕ → List ℕ
prefix_line x y = x ++ space ∷ y

-- a name before another whose bytes stand above a space is before it with whatever a space parts from them
first-tells : (x z y w : List ℕ) → byte_order x z ≡ Less → IsAboveSpace z → byte_order (prefix_line x y) (prefix_line z w) ≡ Less
first-tells [] [] y w less above = absurd (let no : Equal ≡ Less = less in cc)
first-tells [] (c ∷ z) y w less above = rw (lt-ltb space c above.0) refl
first-tells (b ∷ x) [] y w less above = absurd (let no : Greater ≡ Less = less in cc)
first-tells (b ∷ x) (c ∷ z) y w less above = by (nat_cmp b c) refl (λ l. first-tells x z y w l above.1)
  where
    by : (o : Ordering) → nat_cmp b c ≡ o → (byte_order x z ≡ Less → byte_order (prefix_line x y) (prefix_line z w) ≡ Less)
        → ordering_then (nat_cmp b c) (byte_order (prefix_line x y) (prefix_line z w)) ≡ Less
    by Less e rest = rw e refl
    by Equal e rest = rw e (rest (ap (λ o. ordering_then o (byte_order x z)) (sym e) ∙ less))
    by Greater e rest = absurd (let no : Greater ≡ Less = ap (λ o. ordering_then o (byte_order x z)) (sym e) ∙ less in cc)

second-keeps : (x y w : List ℕ) → byte_order y w ≡ Less → by_line (faults_are.NamePrefix x y) (faults_are.NamePrefix x w) ≡ Less
unfolding by_line
second-keeps x y w less = order-behind (codes "F25 name ") (prefix_line x y) (prefix_line x w) ∙ order-behind x (space ∷ y) (space ∷ w)
    ∙ order-behind (space ∷ []) y w ∙ less

first-keeps : (x z y w : List ℕ) → byte_order x z ≡ Less → IsAboveSpace z
    → by_line (faults_are.NamePrefix x y) (faults_are.NamePrefix z w) ≡ Less
unfolding by_line
first-keeps x z y w less above = order-behind (codes "F25 name ") (prefix_line x y) (prefix_line z w) ∙ first-tells x z y w less above

module _ (all : List (List ℕ)) (rises : IsStrictlySortedBy byte_order all) where
  abbrev of_name : List ℕ → List Fault
  of_name x = map (faults_are.NamePrefix x) (filter (goes_on x) all)

  below-later : (x y : List ℕ) (zs : List (List ℕ)) → AllByRecursion (λ z. byte_order x z ≡ Less) zs → AllByRecursion IsAboveSpace zs
      → AllByRecursion (λ f. by_line (faults_are.NamePrefix x y) f ≡ Less) (flat_map of_name zs)
  below-later x y [] less above = tt
  below-later x y (z ∷ zs) less above =
      let P : Fault → Type 0 = λ f. by_line (faults_are.NamePrefix x y) f ≡ Less in
      all-append P (of_name z) (flat_map of_name zs)
      (all-map P (faults_are.NamePrefix z) (filter (goes_on z) all)
      (all-each _ (λ w. first-keeps x z y w less.0 above.0) (filter (goes_on z) all)))
      (below-later x y zs less.1 above.1)

  pairs-rise : (xs : List (List ℕ)) → IsStrictlySortedBy byte_order xs → AllByRecursion IsAboveSpace xs
      → IsStrictlySortedBy by_line (flat_map of_name xs)
  unfolding IsStrictlySortedBy
  pairs-rise [] rise above = tt
  pairs-rise (x ∷ xs) rise above =
      let ys = filter (goes_on x) all in
      rises-append by_line (of_name x) (flat_map of_name xs)
      (rises-map byte_order by_line (faults_are.NamePrefix x) (second-keeps x) ys
      (IsStrictlySortedBy-filter byte_order (goes_on x) all rises))
      (pairs-rise xs rise.1 above.1)
      (all-map (λ f. AllByRecursion (λ g. by_line f g ≡ Less) (flat_map of_name xs)) (faults_are.NamePrefix x) ys
      (all-each _ (λ y. below-later x y xs rise.0 above.1) ys))

each-named : (names : List (List ℕ)) → AreNames names → AllByRecursion (λ n. is_name n ≡ true) names
each-named [] named = tt
each-named (n ∷ ns) named = (
  named n (or_left (bytes_eq n n) (has ns n) (same_text n n refl)),
  each-named ns (λ s among. named s (or_right (bytes_eq n s) (has ns s) among)),
)

pub prefixes_rise : (bs : List Effective) → AreNames (flat_map enabled_name bs) → LinesRise (name_prefixes bs)
prefixes_rise bs named =
    let names = enabled_names bs in
    let rises = in_order-rises (flat_map enabled_name bs) in
    lines-rise (name_prefixes bs) (pairs-rise names rises names rises
    (all-weaker _ IsAboveSpace names name-above
    (each-named names (λ s among. named s (sym (in_order-has (flat_map enabled_name bs) s) ∙ among)))))
