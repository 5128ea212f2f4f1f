-- Uses in the order of their names, where these tell the order of their texts.
use Rattle.cdi_effective.proofs.Common.{◌≡◌, ℕ, Bool, true, false, List, [], ◌∷◌, refl, sym, ap, ◌∙◌, Qual, ◌⊎◌, subst, inl, inr, arith}
use Rattle.cdi_effective.proofs.Common.{AllByRecursion, false≢true, or_cases, or_left, or_right, ◌++◌, nat_eq, Ordering, Less, Equal}
use Rattle.cdi_effective.proofs.Common.{Greater, IsStrictWeakOrder, nat_list_cmp_total, is_lt, true≢false, ranks_by, same_name}
use Rattle.cdi_effective.proofs.Common.{turned_order, byte_order, text_of_use, name_of_use, same_qual, same_qual-decides, put, sorted_by}
use Rattle.cdi_effective.proofs.Common.{each_once, has_use, in_text_order, is_before_in_name, is_before_in_text, tell_order, all-sorted}
use Rattle.cdi_effective.proofs.Common.{any-sorted, Rises, sorted-rises}
use Rattle.std.specs.{Cmp.nat_eq_equiv, Cmp.nat_cmp_is, Ordering.nat_cmp}
use Rattle.std.proofs.{Common.nat_lt, lemmas.Bool.and_parts}
use Rattle.cdi_model.specs.{Bytes.opening, UseText.text_of_arguments, declared.quals.Arguments.Arguments}
use Rattle.cdi_model.specs.declared.quals.Arguments.TheVariants as arguments
use Rattle.cdi_effective.specs.TextOrder.{tells_order}

-- ---- the texts of two uses

-- nothing, or what begins with the bracket
abbrev Opens : List ℕ → Type 0
Opens a = (a ≡ []) ⊎ ((rest : List ℕ) × (a ≡ opening ∷ rest))

opens : (a : Arguments) → Opens (text_of_arguments a)
opens (arguments.Name name) = inr (_, refl)
opens (arguments.Members []) = inl refl
opens (arguments.Members (p ∷ ps)) = inr (_, refl)

above : (byte : ℕ) → nat_lt opening byte ≡ true → nat_cmp opening byte ≡ Less
above byte is = sym (nat_cmp_is opening byte Less (grind arith))

begins : (c : ℕ) (ys a : List ℕ) → Opens a → nat_lt opening c ≡ true → byte_order a (c ∷ ys) ≡ Less
begins c ys a (inl none) is = ap (λ l. byte_order l (c ∷ ys)) none
begins c ys a (inr (rest, from)) is =
    ap (λ l. byte_order l (c ∷ ys)) from ∙ rw (above c is) refl

first-by-names : (x y a b : List ℕ) → Opens a → byte_order x y ≡ Less → tells_order x y ≡ true → byte_order (x ++ a) (y ++ b) ≡ Less
first-by-names [] [] a b begun less tells = cc
first-by-names [] (c ∷ ys) a b begun less tells = begins c (ys ++ b) a begun tells
first-by-names (d ∷ xs) [] a b begun less tells = cc
first-by-names (d ∷ xs) (c ∷ ys) a b begun less tells = grind (arith, first-by-names xs ys a b begun, nat_eq)

-- ---- uses whose names tell their order

-- this use comes before these, by its name and by its text
abbrev IsFirst : Qual → List Qual → Type 0
IsFirst u us = AllByRecursion (λ v. (byte_order u.name v.name ≡ Less) × (byte_order (text_of_use u) (text_of_use v) ≡ Less)) us

abbrev Rise : List Qual → Type 0
Rise [] = Unit {0}
Rise (u ∷ us) = IsFirst u us × Rise us

first-of-all : (u v : Qual) (us : List Qual) → byte_order u.name v.name ≡ Less → byte_order (text_of_use u) (text_of_use v) ≡ Less
    → IsFirst v us → IsFirst u us
first-of-all u v [] name text first = tt
first-of-all u v (w ∷ us) name text first =
    grind (arith, first-of-all u v us name text first.1, u.name, v.name, w.name, first.0.0, first.0.1, first.1, nat_list_cmp_total.trans)

-- no name comes before that of an earlier one
names-order : IsStrictWeakOrder is_before_in_name
names-order = ranks_by nat_list_cmp_total name_of_use

abbrev AreNamesInTurn : List Qual → Type 0
AreNamesInTurn us = Rises is_before_in_name us

tells-none : (x : List ℕ) → tells_order x x ≡ false
tells-none [] = refl
tells-none (c ∷ cs) = rw (nat_eq_equiv.refl c) (tells-none cs)

next-less : (u v : Qual) → is_before_in_name v u ≡ false → tells_order u.name v.name ≡ true → byte_order u.name v.name ≡ Less
next-less u v turn tells = by (byte_order u.name v.name) refl
  where
    by : (o : Ordering) → byte_order u.name v.name ≡ o → o ≡ Less
    by Less e = refl
    by Equal e = absurd (true≢false (sym tells ∙ ap (λ n. tells_order u.name n) (sym (same_name u.name v.name e)) ∙ tells-none u.name))
    by Greater e = absurd (true≢false (ap is_lt (sym (turned_order u.name v.name Greater e)) ∙ turn))

names-tell : (us : List Qual) → AreNamesInTurn us → tell_order us ≡ true → Rise us
names-tell [] turn tells = tt
names-tell (u ∷ []) turn tells = (tt, tt)
names-tell (u ∷ v ∷ us) turn tells =
    let both = and_parts (tells_order u.name v.name) (tell_order (v ∷ us)) tells in
    let rest = names-tell (v ∷ us) turn.1 both.1 in
    let name = next-less u v turn.0.0 both.0 in
    let text = first-by-names u.name v.name (text_of_arguments u.arguments) (text_of_arguments v.arguments)
    (opens u.arguments) name both.0 in
    (((name, text), first-of-all u v us name text rest.0), rest)

itself-equal : (x : List ℕ) → is_lt (byte_order x x) ≡ false
itself-equal x = grind (arith, turned_order)

later : (x y : List ℕ) → byte_order x y ≡ Less → is_lt (byte_order y x) ≡ false
later x y less = ap is_lt (turned_order x y Less less)

-- both orders put the one that comes first before another
first-alike : (u v : Qual) (us : List Qual) → IsFirst u us → has_use us v ≡ true
    → (is_before_in_name u v ≡ is_before_in_text u v) × (is_before_in_name v u ≡ is_before_in_text v u)
first-alike u v [] first among = absurd (false≢true among)
first-alike u v (w ∷ us) first among = elim (or_cases (same_qual v w) (has_use us v) among) [
  | inl here ↦
      let one : w ≡ v = sym ((same_qual-decides v w).0 here) in
      subst (λ x. (is_before_in_name u x ≡ is_before_in_text u x) × (is_before_in_name x u ≡ is_before_in_text x u)) one
      (ap is_lt first.0.0 ∙ sym (ap is_lt first.0.1), later u.name w.name first.0.0 ∙ sym (later (text_of_use u) (text_of_use w) first.0.1))
  | inr there ↦ first-alike u v us first.1 there
]

-- and tell all of them apart alike
all-alike : (us : List Qual) (u v : Qual) → Rise us → has_use us u ≡ true → has_use us v ≡ true
    → is_before_in_name u v ≡ is_before_in_text u v
all-alike [] u v rise here there = absurd (false≢true here)
all-alike (w ∷ us) u v rise here there =
    by (or_cases (same_qual u w) (has_use us u) here) (or_cases (same_qual v w) (has_use us v) there) (all-alike us u v rise.1)
  where
    by : (same_qual u w ≡ true) ⊎ (has_use us u ≡ true) → (same_qual v w ≡ true) ⊎ (has_use us v ≡ true)
        → (has_use us u ≡ true → has_use us v ≡ true → is_before_in_name u v ≡ is_before_in_text u v)
        → is_before_in_name u v ≡ is_before_in_text u v
    by (inl a) (inl b) more =
        let one : u ≡ w = (same_qual-decides u w).0 a in
        let other : v ≡ w = (same_qual-decides v w).0 b in
        rw (one, other) (itself-equal w.name ∙ sym (itself-equal (text_of_use w)))
    by (inl a) (inr b) more =
        let one : w ≡ u = sym ((same_qual-decides u w).0 a) in
        subst (λ x. is_before_in_name x v ≡ is_before_in_text x v) one (first-alike w v us rise.0 b).0
    by (inr a) (inl b) more =
        let one : w ≡ v = sym ((same_qual-decides v w).0 b) in
        subst (λ x. is_before_in_name u x ≡ is_before_in_text u x) one (first-alike w u us rise.0 a).1
    by (inr a) (inr b) more = more a b

-- ---- two orders that tell some uses apart alike

module _ (first second : Qual → Qual → Bool) where
  abbrev AreAlike : List Qual → Type 0
  AreAlike [] = Unit {0}
  AreAlike (u ∷ us) = AllByRecursion (λ v. first v u ≡ second v u) us × AreAlike us

  put-alike : (u : Qual) (us : List Qual) → AllByRecursion (λ v. first v u ≡ second v u) us → put first u us ≡ put second u us
  put-alike u [] alike = refl
  put-alike u (v ∷ us) alike = grind (arith, put-alike u us alike.1, alike.0, alike.1)

  sorted-alike : (us : List Qual) → AreAlike us → sorted_by first us ≡ sorted_by second us
  sorted-alike [] alike = refl
  sorted-alike (u ∷ us) alike = grind (arith, sorted-alike us alike.1, alike.0, alike.1, put-alike, all-sorted)

  alike-to : (whole us : List Qual) (u : Qual) → has_use whole u ≡ true → ((v : Qual) → has_use us v ≡ true → has_use whole v ≡ true)
      → ((v w : Qual) → has_use whole v ≡ true → has_use whole w ≡ true → first v w ≡ second v w)
      → AllByRecursion (λ v. first v u ≡ second v u) us
  alike-to whole [] u here among all = tt
  alike-to whole (v ∷ us) u here among all = (
    all v u (among v (or_left (same_qual v v) (has_use us v) ((same_qual-decides v v).1 refl))) here,
    alike-to whole us u here (λ w there. among w (or_right (same_qual w v) (has_use us w) there)) all,
  )

  alike-among : (whole us : List Qual) → ((v : Qual) → has_use us v ≡ true → has_use whole v ≡ true)
      → ((v w : Qual) → has_use whole v ≡ true → has_use whole w ≡ true → first v w ≡ second v w) → AreAlike us
  alike-among whole [] among all = tt
  alike-among whole (u ∷ us) among all = (
    alike-to whole us u (among u (or_left (same_qual u u) (has_use us u) ((same_qual-decides u u).1 refl)))
        (λ v there. among v (or_right (same_qual v u) (has_use us v) there)) all,
    alike-among whole us (λ v there. among v (or_right (same_qual v u) (has_use us v) there)) all,
  )

-- uses in the order of their names stand in the order of their texts, where the names tell it
pub in-order-by-names : (us list : List Qual) → list ≡ sorted_by is_before_in_name (each_once us) → tell_order list ≡ true
    → list ≡ in_text_order us
unfolding in_text_order
in-order-by-names us list sorted tells =
    let once = each_once us in
    let rise : Rise list = names-tell list (subst AreNamesInTurn (sym sorted) (sorted-rises is_before_in_name names-order once)) tells in
    let among : (v : Qual) → has_use once v ≡ true → has_use list v ≡ true =
    λ v there. ap (λ l. has_use l v) sorted ∙ any-sorted is_before_in_name (same_qual v) once ∙ there in
    sorted ∙ sorted-alike is_before_in_name is_before_in_text once
    (alike-among is_before_in_name is_before_in_text once once (λ v there. there)
    (λ v w here there. all-alike list v w rise (among v here) (among w there)))
