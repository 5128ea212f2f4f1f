-- Uses in the byte order of their texts, each once.
use Rattle.cdi_effective.proofs.Common.{◌≡◌, ◌<◌, ◌+◌, ℕ, Bool, true, false, cond, ◌||◌, List, [], ◌∷◌, length, drop, get_or, refl, sym, ap}
use Rattle.cdi_effective.proofs.Common.{◌∙◌, or_assoc, Bor, at_drop_more, Qual, uses_in, zero, suc, inl, inr, arith, AllByRecursion}
use Rattle.cdi_effective.proofs.Common.{IsDistinct, false≢true, or_cases, or_left, or_right, AllPairs-from_IsDistinct, ◌++◌, fold, list_any}
use Rattle.cdi_effective.proofs.Common.{or-false, map, Less, nat_list_cmp_total, is_lt, ranks_by, same_name, turned_order, byte_order}
use Rattle.cdi_effective.proofs.Common.{text_of_use, same_qual, same_qual-decides, put, sorted_by, each_once, has_use, in_text_order}
use Rattle.cdi_effective.proofs.Common.{is_before_in_text, IsStrictlySortedBy, All-from_recursion, map-append, with_use, all-sorted}
use Rattle.cdi_effective.proofs.Common.{any-sorted, Rises, sorted-rises}
use Rattle.std.proofs.{Math.Bool.or-true, lemmas.Bool.false_from_ne_true, lemmas.List.Folds.list_any-append}
use Rattle.std.specs.List.{AllPairs}
use Rattle.std.proofs.lemmas.Map.Keys.{IsDistinct-push}
use Rattle.base_lists.proofs.Sorting.{all-put}
use Rattle.cdi_model.specs.SameUse.{same_qual_equiv}
use Rattle.cdi_model.proofs.QualLemmas.{before-all}
use Rattle.cdi_effective.specs.TextOrder.{TextsTellApart, AreInTextOrder}

-- ---- which uses they are

-- a use among some that passes a test is one of them that does
absorbed : (p : Qual → Bool) (us : List Qual) (u : Qual) → has_use us u ≡ true → p u ≡ true → list_any p us ≡ true
absorbed p [] u among is = absurd (false≢true among)
absorbed p (v ∷ us) u among is =
    elim (or_cases (same_qual u v) (has_use us u) among) [
      | inl here ↦ or_left (p v) (list_any p us) (ap p (sym ((same_qual-decides u v).0 here)) ∙ is)
      | inr there ↦ or_right (p v) (list_any p us) (absorbed p us u there is)
    ]

any-with_use : (p : Qual → Bool) (us : List Qual) (u : Qual) → list_any p (with_use us u) ≡ (list_any p us || p u)
any-with_use p us u = grind (arith, list_any-append, or-false, absorbed, or-true)

any-once : (p : Qual → Bool) (us seen : List Qual) → list_any p (fold with_use seen us) ≡ (list_any p seen || list_any p us)
any-once p [] seen = sym (or-false (list_any p seen))
any-once p (u ∷ us) seen = grind (arith, any-once p us (with_use seen u), any-with_use, or_assoc)

-- a test passes for one of the uses in order exactly where it does for one of the uses
pub any-in_text_order : (p : Qual → Bool) (us : List Qual) → list_any p (in_text_order us) ≡ list_any p us
unfolding in_text_order
any-in_text_order p us = any-sorted is_before_in_text p (each_once us) ∙ any-once p us []

-- ---- each stands once

distinct-once : (us seen : List Qual) → IsDistinct same_qual seen → IsDistinct same_qual (fold with_use seen us)
distinct-once [] seen apart = apart
distinct-once (u ∷ us) seen apart = distinct-once us (with_use seen u) (by (has_use seen u) refl)
  where
    by : (b : Bool) → has_use seen u ≡ b → IsDistinct same_qual (cond b seen (seen ++ u ∷ []))
    by true e = apart
    by false e = IsDistinct-push same_qual_equiv seen u apart e

module _ {X Y : Type 0} (f : X → Y) where
  -- no two have one value
  abbrev Apart : List X → Type 0
  Apart [] = Unit {0}
  Apart (x ∷ xs) = AllByRecursion (λ y. f x ≡ f y → ⊥) xs × Apart xs

  put-apart : (before : X → X → Bool) (x : X) (ys : List X) → AllByRecursion (λ y. f x ≡ f y → ⊥) ys → Apart ys → Apart (put before x ys)
  put-apart before x [] all apart = (tt, tt)
  put-apart before x (y ∷ ys) all apart = grind (arith, put-apart before x ys all.1 apart.1, all.1, apart.1, all.0, apart.0, all-put)

  sorted-apart : (before : X → X → Bool) (xs : List X) → Apart xs → Apart (sorted_by before xs)
  sorted-apart before [] apart = tt
  sorted-apart before (x ∷ xs) apart = put-apart before x (sorted_by before xs)
      (all-sorted before (λ y. f x ≡ f y → ⊥) xs apart.0) (sorted-apart before xs apart.1)

none-apart : (u : Qual) (us : List Qual) → AllByRecursion (λ v. same_qual u v ≡ false) us → AllByRecursion (λ v. u ≡ v → ⊥) us
none-apart u [] all = tt
none-apart u (v ∷ us) all = (λ e. false≢true (sym all.0 ∙ (same_qual-decides u v).1 e), none-apart u us all.1)

apart-from : (us : List Qual) → IsDistinct same_qual us → Apart (λ (u : Qual). u) us
unfolding IsDistinct
apart-from [] distinct = tt
apart-from (u ∷ us) distinct = (none-apart u us distinct.0, apart-from us distinct.1)

none-same : (u : Qual) (us : List Qual) → AllByRecursion (λ v. u ≡ v → ⊥) us → AllByRecursion (λ v. same_qual u v ≡ false) us
none-same u [] all = tt
none-same u (v ∷ us) all = (false_from_ne_true (same_qual u v) (λ h. all.0 ((same_qual-decides u v).0 h)), none-same u us all.1)

distinct-from : (us : List Qual) → Apart (λ (u : Qual). u) us → IsDistinct same_qual us
unfolding IsDistinct
distinct-from [] apart = tt
distinct-from (u ∷ us) apart = (none-same u us apart.0, distinct-from us apart.1)

once-distinct : (us : List Qual) → IsDistinct same_qual (each_once us)
unfolding IsDistinct
once-distinct us = distinct-once us [] tt

order-distinct : (us : List Qual) → IsDistinct same_qual (in_text_order us)
unfolding in_text_order
order-distinct us = distinct-from (sorted_by is_before_in_text (each_once us))
    (sorted-apart (λ (u : Qual). u) is_before_in_text (each_once us) (apart-from (each_once us) (once-distinct us)))

-- ---- none comes before an earlier one

module _ {X : Type 0} (before : X → X → Bool) where
  pairs-in_turn : (xs : List X) → Rises before xs → AllPairs (λ x y. before y x ≡ false) xs
  pairs-in_turn [] turn i j d later within = absurd (omega (arith, within))
  pairs-in_turn (x ∷ xs) turn zero zero d later within = absurd (omega (arith, later))
  pairs-in_turn (x ∷ xs) turn zero (suc j) d later within =
      All-from_recursion (λ y. before y x ≡ false) xs turn.0 j d (omega (arith, within))
  pairs-in_turn (x ∷ xs) turn (suc i) zero d later within = absurd (omega (arith, later))
  pairs-in_turn (x ∷ xs) turn (suc i) (suc j) d later within =
      pairs-in_turn xs turn.1 i j d (omega (arith, later)) (omega (arith, within))

order-in_turn : (us : List Qual) → AllPairs (λ u v. is_before_in_text v u ≡ false) (in_text_order us)
unfolding in_text_order
order-in_turn us =
    let order = ranks_by nat_list_cmp_total text_of_use in
    pairs-in_turn is_before_in_text (sorted_by is_before_in_text (each_once us)) (sorted-rises is_before_in_text order (each_once us))

-- ---- their texts rise

module _ {X : Type 0} (text : X → List ℕ) where
  abbrev earlier : X → X → Bool
  earlier x y = is_lt (byte_order (text x) (text y))

  below-put : (t : List ℕ) (x : X) (ys : List X) → byte_order t (text x) ≡ Less → AllByRecursion (λ s. byte_order t s ≡ Less) (map text ys)
      → AllByRecursion (λ s. byte_order t s ≡ Less) (map text (put earlier x ys))
  below-put t x [] here all = (here, tt)
  below-put t x (y ∷ ys) here all = grind (arith, below-put t x ys here all.1, all.1, all.0, map)

  put-texts : (x : X) (ys : List X) → AllByRecursion (λ y. text x ≡ text y → ⊥) ys → IsStrictlySortedBy byte_order (map text ys)
      → IsStrictlySortedBy byte_order (map text (put earlier x ys))
  unfolding IsStrictlySortedBy
  put-texts x [] apart rise = (tt, tt)
  put-texts x (y ∷ ys) apart rise =
      grind (arith, put-texts x ys apart.1 rise.1, apart.1, rise.1, rise.0, apart.0, map, below-put, same_name, turned_order, before-all)

  sorted-texts : (xs : List X) → Apart text xs → IsStrictlySortedBy byte_order (map text (sorted_by earlier xs))
  unfolding IsStrictlySortedBy
  sorted-texts [] apart = tt
  sorted-texts (x ∷ xs) apart = put-texts x (sorted_by earlier xs)
      (all-sorted earlier (λ y. text x ≡ text y → ⊥) xs apart.0) (sorted-texts xs apart.1)

-- each of some uses is among others
abbrev AreAmong : List Qual → List Qual → Type 0
AreAmong xs us = (u : Qual) → has_use xs u ≡ true → has_use us u ≡ true

itself : (u : Qual) → same_qual u u ≡ true
itself u = (same_qual-decides u u).1 refl

texts-differ : (us xs : List Qual) (u : Qual) → TextsTellApart us → has_use us u ≡ true → AreAmong xs us
    → AllByRecursion (λ v. same_qual u v ≡ false) xs → AllByRecursion (λ v. text_of_use u ≡ text_of_use v → ⊥) xs
texts-differ us [] u tell here among all = tt
texts-differ us (v ∷ xs) u tell here among all = (
  λ e. false≢true (sym all.0
      ∙ (same_qual-decides u v).1 (tell u v here (among v (or_left (same_qual v v) (has_use xs v) (itself v))) e)),
  texts-differ us xs u tell here (λ w h. among w (or_right (same_qual w v) (has_use xs w) h)) all.1,
)

texts-apart : (us xs : List Qual) → TextsTellApart us → AreAmong xs us → IsDistinct same_qual xs → Apart text_of_use xs
unfolding IsDistinct
texts-apart us [] tell among distinct = tt
texts-apart us (u ∷ xs) tell among distinct =
    let rest : AreAmong xs us = λ w h. among w (or_right (same_qual w u) (has_use xs w) h) in (
      texts-differ us xs u tell (among u (or_left (same_qual u u) (has_use xs u) (itself u))) rest distinct.0,
      texts-apart us xs tell rest distinct.1,
    )

order-rises : (us : List Qual) → TextsTellApart us → IsStrictlySortedBy byte_order (map text_of_use (in_text_order us))
unfolding in_text_order
order-rises us tell = sorted-texts text_of_use (each_once us)
    (texts-apart us (each_once us) tell (λ u h. sym (any-once (same_qual u) us []) ∙ h) (once-distinct us))

-- ---- the uses in order

pub are_in_text_order : (us : List Qual) → AreInTextOrder (in_text_order us) us
are_in_text_order us = record {
  each = λ u. any-in_text_order (same_qual u) us;
  once = AllPairs-from_IsDistinct same_qual-decides (in_text_order us) (order-distinct us);
  in_turn = order-in_turn us;
  rise = order-rises us;
}

-- ---- the uses that a table has

any-lent : (p : Qual → Bool) (us : List (Bor Qual)) → list_any (λ v. p v.now) us ≡ list_any p (uses_in us)
any-lent p [] = refl
any-lent p (u ∷ us) = ap (λ b. p u.now || b) (any-lent p us)

-- one more use is put into it where it is not there
lent-with : (found : List (Bor Qual)) (u : Bor Qual) (b : Bool) → b ≡ has_use (uses_in found) u.now
    → uses_in (cond b found (found ++ u ∷ [])) ≡ with_use (uses_in found) u.now
lent-with found u b e = grind (arith, u.now, map-append)

pub once-next : (us : List (Bor Qual)) (i : ℕ) (u : Bor Qual) (found after : List (Bor Qual)) (all : List Qual) → i < length us
    → u ≡ get_or us i u
    → after ≡ cond (list_any (λ v. same_qual u.now v.now) found) found (found ++ u ∷ [])
    → fold with_use (uses_in found) (uses_in (drop i us)) ≡ all
    → fold with_use (uses_in after) (uses_in (drop (i + 1) us)) ≡ all
once-next us i u found after all lt is put before =
    ap (λ ks. fold with_use ks (uses_in (drop (i + 1) us)))
    (ap uses_in put ∙ lent-with found u (list_any (λ v. same_qual u.now v.now) found) (any-lent (same_qual u.now) found))
    ∙ ap (λ v. fold with_use (uses_in found) (uses_in (v ∷ drop (i + 1) us))) is
    ∙ sym (at_drop_more (λ vs. fold with_use (uses_in found) (uses_in vs)) us i u lt)
    ∙ before
