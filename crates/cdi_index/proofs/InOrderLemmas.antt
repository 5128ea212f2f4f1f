-- What is found under words, in the order of its numbers, is of the declarations that have one of the words, in their order.
use Rattle.cdi_index.proofs.Common.{◌≡◌, ℕ, Bool, true, false, ◌||◌, List, [], ◌∷◌, ◌++◌, map, flat_map, filter, Option, Some, None, option_map}
use Rattle.cdi_index.proofs.Common.{refl, sym, ap, ◌∙◌, suc, zero, ◌<◌, length, slice_get, cond, inl, inr, ◌⊎◌, arith, subst, false≢true}
use Rattle.cdi_index.proofs.Common.{same-bool, nat_eq, eqb-true, nat_eq-refl, list_any, AllByRecursion, Decl, DeclKey, key_of, AreDistinct, Word, Listing}
use Rattle.cdi_index.proofs.Common.{under, Kept, Made, made_in, made_of, Stored, IsExact, IsSound, words_have, words_by, has_one, entries}
use Rattle.cdi_index.proofs.Common.{beans_under, Effective, lent, AreReplaced, position, position-there, is_of, option_map_or, kind_of, name_of_decl}
use Rattle.cdi_index.proofs.Common.{find_decl, option_to_list, is_listed, made_of_bean, made_of_interceptor, keys_have, classes_have, or_right, word_at}
use Rattle.cdi_index.proofs.Common.{any-same, or-false, observes_one}
use Rattle.std.proofs.Common.{slice_index_or}
use Rattle.std.proofs.lemmas.{List.append-nil, Map.Keys.any_passes_from_place}
use Rattle.std.specs.List.{Any, Contains}
use Rattle.std.specs.Cmp.{nat_cmp_is, nat_eq_equiv, IsEquivalence, IsTotalOrder}
use Rattle.std.specs.declared.cmp.Ordering.{Ordering}
use Rattle.std.specs.declared.cmp.Ordering.TheVariants.{Less}
use Rattle.std.specs.List.{dedup}
use Rattle.std.specs.List.Sorted.{IsPermutation, IsSorted}
use Rattle.std.proofs.lemmas.Cmp.{nat_cmp_total}
use Rattle.std.proofs.lemmas.List.Kept.{Any-dedup, Contains-from_dedup, IsStrictlySortedBy-dedup}
use Rattle.std.proofs.lemmas.List.Sorted.{Contains-permutation, IsPermutation-sym}
use Rattle.std.proofs.lemmas.Option.{slice_get-map}
use Rattle.cdi_model.specs.declared.decl.Decl.TheVariants as decls
use Rattle.cdi_effective.proofs.PlaceLemmas.{own-found, own-place, own-position, place-found}
use Rattle.std.specs.List.Sorted.{IsStrictlySortedBy}
use Rattle.std.specs.Ordering.{nat_cmp}
use Rattle.base_lists.proofs.Flat.{flat-twice}
use Rattle.cdi_index.proofs.SlotLemmas.{has-place, lent-there}
use Rattle.cdi_index.proofs.UnderLemmas.{key-found, made-at, of-decl}
use Rattle.cdi_index.proofs.ChangeLemmas.{one-stored}
use Rattle.cdi_index.specs.{Numbers.AreNumbered, Slots.AreAtSlots, Slots.entry_kept, declared.shelf.Entry.Entry}
use Rattle.cdi_index.proofs.SoughtLemmas.{observing-one}
use Rattle.cdi_index.specs.Under.{is_observed}
use Rattle.cdi_postings.specs.declared.word.Reason.TheVariants as reasons
use Rattle.cdi_index.specs.InOrder.{decl_kept, is_observed_by, is_word_of, kept_under, kept_with, numbers_of, records_kept, with_word, AreInOrder}

-- ---- members of lists

-- the list has it at some place
abbrev pub Has : {X : Type 0} → List X → X → Type 0
Has xs x = (i : ℕ) × (slice_get xs i ≡ Some x)

module _ {X : Type 0} where
  pub has-from : (xs : List X) (x : X) → Contains xs x → Has xs x
  has-from xs x it = (it.0, by xs it.0 it.1 it.2)
    where
      by : (ys : List X) (k : ℕ) → k < length ys → slice_index_or ys k x ≡ x → slice_get ys k ≡ Some x
      by [] k less is = absurd (omega (arith, less))
      by (y ∷ ys) zero less is = ap Some is
      by (y ∷ ys) (suc k) less is = by ys k (omega (arith, less)) is

  pub contains-from : (xs : List X) (x : X) → Has xs x → Contains xs x
  contains-from xs x it = let is = by xs it.0 it.1 in (it.0, is.0, is.1)
    where
      by : (ys : List X) (k : ℕ) → slice_get ys k ≡ Some x → (k < length ys) × (slice_index_or ys k x ≡ x)
      by [] k at = absurd (let no : None ≡ Some x = at in cc)
      by (y ∷ ys) zero at = (omega arith, (let one : Some y ≡ Some x = at in let same : y ≡ x = cc in same))
      by (y ∷ ys) (suc k) at = let rest = by ys k at in (omega (arith, rest.0), rest.1)

  has-first : (xs ys : List X) (x : X) → Has xs x → Has (xs ++ ys) x
  has-first xs ys x it = (it.0, by xs it.0 it.1)
    where
      by : (zs : List X) (k : ℕ) → slice_get zs k ≡ Some x → slice_get (zs ++ ys) k ≡ Some x
      by [] k at = absurd (let no : None ≡ Some x = at in cc)
      by (z ∷ zs) zero at = at
      by (z ∷ zs) (suc k) at = by zs k at

  has-later : (xs ys : List X) (x : X) → Has ys x → Has (xs ++ ys) x
  has-later [] ys x it = it
  has-later (z ∷ xs) ys x it = let rest = has-later xs ys x it in (suc rest.0, rest.1)

  has-parts : (xs ys : List X) (x : X) → Has (xs ++ ys) x → Has xs x ⊎ Has ys x
  has-parts [] ys x it = inr it
  has-parts (z ∷ xs) ys x it = by (has-parts xs ys x) it.0 it.1
    where
      by : (Has (xs ++ ys) x → Has xs x ⊎ Has ys x) → (k : ℕ) → slice_get (z ∷ (xs ++ ys)) k ≡ Some x → Has (z ∷ xs) x ⊎ Has ys x
      by more zero at = inl (zero, at)
      by more (suc k) at = elim (more (k, at)) [
        | inl first ↦ inl (suc first.0, first.1)
        | inr later ↦ inr later
      ]

module _ {X Y : Type 0} (f : X → List Y) where
  pub flat-has : (xs : List X) (x : X) (y : Y) → Has xs x → Has (f x) y → Has (flat_map f xs) y
  flat-has xs x y it has = by xs it.0 it.1
    where
      by : (zs : List X) (k : ℕ) → slice_get zs k ≡ Some x → Has (flat_map f zs) y
      by [] k at = absurd (let no : None ≡ Some x = at in cc)
      by (z ∷ zs) zero at =
          let one : Some z ≡ Some x = at in
          let same : z ≡ x = cc in
          has-first (f z) (flat_map f zs) y (subst (λ w. Has (f w) y) (sym same) has)
      by (z ∷ zs) (suc k) at = has-later (f z) (flat_map f zs) y (by zs k at)

  pub flat-from : (xs : List X) (y : Y) → Has (flat_map f xs) y → (x : X) × Has xs x × Has (f x) y
  flat-from [] y it = absurd (let no : None ≡ Some y = it.1 in cc)
  flat-from (z ∷ xs) y it = elim (has-parts (f z) (flat_map f xs) y it) [
    | inl first ↦ (z, (zero, refl), first)
    | inr later ↦ let rest = flat-from xs y later in (rest.0, (suc rest.1.0, rest.1.1), rest.2)
  ]

-- those of a list that pass a test
filter-has : {X : Type 0} (p : X → Bool) (xs : List X) (x : X) → Has xs x → p x ≡ true → Has (filter p xs) x
filter-has p [] x it passes = absurd (let no : None ≡ Some x = it.1 in cc)
filter-has p (z ∷ xs) x it passes = by (λ has. filter-has p xs x has passes) it.0 it.1 (p z) refl
  where
    by : (Has xs x → Has (filter p xs) x) → (k : ℕ) → slice_get (z ∷ xs) k ≡ Some x → (b : Bool) → p z ≡ b
        → Has (cond b (z ∷ filter p xs) (filter p xs)) x
    by more zero at true e = (zero, at)
    by more zero at false e =
        let one : Some z ≡ Some x = at in
        let same : z ≡ x = cc in
        absurd (false≢true (sym e ∙ ap p same ∙ passes))
    by more (suc k) at true e = let rest = more (k, at) in (suc rest.0, rest.1)
    by more (suc k) at false e = more (k, at)

filter-from : {X : Type 0} (p : X → Bool) (xs : List X) (x : X) → Has (filter p xs) x → Has xs x × (p x ≡ true)
filter-from p [] x it = absurd (let no : None ≡ Some x = it.1 in cc)
filter-from p (z ∷ xs) x it = by (filter-from p xs x) (p z) refl it
  where
    further : Has xs x × (p x ≡ true) → Has (z ∷ xs) x × (p x ≡ true)
    further rest = ((suc rest.0.0, rest.0.1), rest.1)

    by : (Has (filter p xs) x → Has xs x × (p x ≡ true)) → (b : Bool) → p z ≡ b → Has (cond b (z ∷ filter p xs) (filter p xs)) x
        → Has (z ∷ xs) x × (p x ≡ true)
    by more true e has = at has.0 has.1
      where
        at : (k : ℕ) → slice_get (z ∷ filter p xs) k ≡ Some x → Has (z ∷ xs) x × (p x ≡ true)
        at zero here =
            let one : Some z ≡ Some x = here in
            let same : z ≡ x = cc in
            ((zero, here), ap p (sym same) ∙ e)
        at (suc k) here = further (more (k, here))
    by more false e has = further (more has)

-- ---- lists in the order of numbers

abbrev Rises : List Kept → Type 0
Rises es = IsStrictlySortedBy nat_cmp (numbers_of es)

less-is : (a b : ℕ) → a < b → nat_cmp a b ≡ Less
less-is a b less = sym (nat_cmp_is a b Less less)

is-less : (a b : ℕ) → nat_cmp a b ≡ Less → a < b
is-less a b e = grind (arith, e)

rise-tail : (e : Kept) (es : List Kept) → Rises (e ∷ es) → Rises es
unfolding IsStrictlySortedBy
rise-tail e es rises = rises.1

rise-all : (e : Kept) (es : List Kept) → ((x : Kept) → Has es x → e.number < x.number) → Rises es → Rises (e ∷ es)
unfolding IsStrictlySortedBy
rise-all e es each rises = (by es each, rises)
  where
    by : (xs : List Kept) → ((x : Kept) → Has xs x → e.number < x.number) → AllByRecursion (λ n. nat_cmp e.number n ≡ Less) (numbers_of xs)
    by [] above = tt
    by (x ∷ xs) above = (less-is e.number x.number (above x (zero, refl)), by xs (λ y has. above y (suc has.0, has.1)))

first-below : (e : Kept) (es : List Kept) → Rises (e ∷ es) → (x : Kept) → Has es x → e.number < x.number
unfolding IsStrictlySortedBy
first-below e es rises x has = by es rises.0 has.0 has.1
  where
    by : (xs : List Kept) → AllByRecursion (λ n. nat_cmp e.number n ≡ Less) (numbers_of xs) → (k : ℕ) → slice_get xs k ≡ Some x
        → e.number < x.number
    by [] all k at = absurd (let no : None ≡ Some x = at in cc)
    by (y ∷ xs) all zero at =
        let one : Some y ≡ Some x = at in
        let same : y ≡ x = cc in
        subst (λ (z : Kept). e.number < z.number) same (is-less e.number y.number all.0)
    by (y ∷ xs) all (suc k) at = by xs all.1 k at

-- one of the list has the number
abbrev Numbered : List Kept → ℕ → Type 0
Numbered es n = (x : Kept) × Has es x × (x.number ≡ n)

-- lists in the order of numbers are one, where what one has the other has, and it has as many numbers
same-list : (xs ys : List Kept) → Rises xs → Rises ys → ((e : Kept) → Has xs e → Has ys e)
    → ((e : Kept) → Has ys e → Numbered xs e.number) → xs ≡ ys
same-list [] [] one two each all = refl
same-list [] (y ∷ ys) one two each all =
    let none = all y (zero, refl) in absurd (let no : None ≡ Some none.0 = none.1.1 in cc)
same-list (x ∷ xs) [] one two each all = let it = each x (zero, refl) in absurd (let no : None ≡ Some x = it.1 in cc)
same-list (x ∷ xs) (y ∷ ys) one two each all =
    let first = heads in
    ap (λ e. e ∷ xs) first ∙ ap (λ es. y ∷ es)
    (same-list xs ys (rise-tail x xs one) (rise-tail y ys two) (later first) (numbered first))
  where
    heads : x ≡ y
    heads = by (each x (zero, refl)) (all y (zero, refl))
      where
        below : Has ys x → Numbered (x ∷ xs) y.number → ⊥
        below has (z, (zero, at), same) =
            let one_is : Some x ≡ Some z = at in
            let is : x ≡ z = cc in
            omega (arith, same, ap (λ (e : Kept). e.number) is, first-below y ys two x has)
        below has (z, (suc k, at), same) = omega (arith, same, first-below x xs one z (k, at), first-below y ys two x has)

        by : Has (y ∷ ys) x → Numbered (x ∷ xs) y.number → x ≡ y
        by (zero, at) number = let some : Some y ≡ Some x = at in let same : y ≡ x = cc in sym same
        by (suc k, at) number = absurd (below (k, at) number)

    later : x ≡ y → (e : Kept) → Has xs e → Has ys e
    later first e has = by (each e (suc has.0, has.1))
      where
        by : Has (y ∷ ys) e → Has ys e
        by (zero, at) =
            let some : Some y ≡ Some e = at in
            let same : y ≡ e = cc in
            absurd (omega (arith, ap (λ (z : Kept). z.number) (first ∙ same), first-below x xs one e has))
        by (suc k, at) = (k, at)

    numbered : x ≡ y → (e : Kept) → Has ys e → Numbered xs e.number
    numbered first e has = by (all e (suc has.0, has.1))
      where
        by : Numbered (x ∷ xs) e.number → Numbered xs e.number
        by (z, (zero, at), same) =
            let some : Some x ≡ Some z = at in
            let is : x ≡ z = cc in
            absurd (omega (arith, same, ap (λ (w : Kept). w.number) (sym is ∙ first), first-below y ys two e has))
        by (z, (suc k, at), same) = (z, (k, at), same)

-- ---- in order

abbrev by_number : Entry → Entry → Ordering
by_number a b = nat_cmp a.number b.number

abbrev same_number : Entry → Entry → Bool
same_number a b = nat_eq a.number b.number

by_number-total : IsTotalOrder by_number
by_number-total = record {
  antisymm = λ x y. nat_cmp_total.antisymm x.number y.number;
  trans = λ x y z. nat_cmp_total.trans x.number y.number z.number;
  congr = λ x y z. nat_cmp_total.congr x.number y.number z.number;
}

same_number-equiv : IsEquivalence same_number
same_number-equiv = record {
  refl = λ x. nat_eq_equiv.refl x.number;
  symm = λ x y. nat_eq_equiv.symm x.number y.number;
  congr = λ x y z. nat_eq_equiv.congr x.number y.number z.number;
}

rise-entries : (xs : List Entry) → IsStrictlySortedBy by_number xs → Rises (map entry_kept xs)
unfolding IsStrictlySortedBy
rise-entries [] rises = tt
rise-entries (x ∷ xs) rises = (by xs rises.0, rise-entries xs rises.1)
  where
    by : (ys : List Entry) → AllByRecursion (λ y. by_number x y ≡ Less) ys
        → AllByRecursion (λ n. nat_cmp x.number n ≡ Less) (numbers_of (map entry_kept ys))
    by [] all = tt
    by (y ∷ ys) all = (all.0, by ys all.1)

map-has : (xs : List Entry) (x : Entry) → Has xs x → Has (map entry_kept xs) (entry_kept x)
map-has xs x it = (it.0, slice_get-map entry_kept xs it.0 ∙ ap (option_map entry_kept) it.1)

map-from : (xs : List Entry) (e : Kept) → Has (map entry_kept xs) e → (x : Entry) × Has xs x × (entry_kept x ≡ e)
map-from xs e it = by (slice_get xs it.0) refl
  where
    by : (o : Option Entry) → slice_get xs it.0 ≡ o → (x : Entry) × Has xs x × (entry_kept x ≡ e)
    by None none = absurd (let no : None ≡ Some e = sym (slice_get-map entry_kept xs it.0 ∙ ap (option_map entry_kept) none) ∙ it.1 in cc)
    by (Some x) is =
        let one : Some (entry_kept x) ≡ Some e = sym (slice_get-map entry_kept xs it.0 ∙ ap (option_map entry_kept) is) ∙ it.1 in
        (x, (it.0, is), (let same : entry_kept x ≡ e = cc in same))

-- what a sort and a dedup leave
pub sorted-entries : (old mid new : List Entry) → IsPermutation old mid → IsSorted by_number mid → new ≡ dedup same_number mid
    → AreInOrder (map entry_kept old) (map entry_kept new)
sorted-entries old mid new moved sorted is = record {
  rise = rise-entries new (subst (IsStrictlySortedBy by_number) (sym is)
      (IsStrictlySortedBy-dedup by_number-total (λ x y. grind arith) mid sorted));
  only = λ e has.
      let it = map-from new e (has-from (map entry_kept new) e has) in
      let among : Contains mid it.0 = Contains-from_dedup same_number mid it.0 (subst (λ l. Contains l it.0) is (contains-from new it.0 it.1)) in
      contains-from (map entry_kept old) e (subst (Has (map entry_kept old)) it.2
      (map-has old it.0 (has-from old it.0 (Contains-permutation mid old it.0 (IsPermutation-sym old mid moved) among))));
  all = λ e has.
      let it = map-from old e (has-from (map entry_kept old) e has) in
      let left = Any-dedup same_number-equiv mid it.0 (Contains-permutation old mid it.0 moved (contains-from old it.0 it.1)) in
      let there : Has new left.1 = subst (λ l. Has l left.1) (sym is) (has-from (dedup same_number mid) left.1 (left.0, left.2, left.3)) in
      let at = contains-from (map entry_kept new) (entry_kept left.1) (map-has new left.1 there) in
      (at.0, entry_kept left.1, at.1, at.2, ap (λ (k : Kept). nat_eq k.number left.1.number) (sym it.2) ∙ left.4);
}

-- ---- one alone

-- a list without a second is in order
pub with-in-order : (word : Word) (o : Option Kept) (found : List Kept)
    → ((e : Kept) → Has (with_word word o) e → Has found e) → ((e : Kept) → Has found e → Has (with_word word o) e)
    → AreInOrder found (with_word word o)
unfolding IsStrictlySortedBy
with-in-order word o found only all = record {
  rise = rise o;
  only = λ e has. contains-from found e (only e (has-from (with_word word o) e has));
  all = λ e has. number e (all e (has-from found e has));
}
  where
    rise : (x : Option Kept) → Rises (with_word word x)
    rise None = tt
    rise (Some e) = by (words_have e.made.words word)
      where
        by : (b : Bool) → Rises (cond b (e ∷ []) [])
        by true = (tt, tt)
        by false = tt

    number : (e : Kept) → Has (with_word word o) e → Any (λ (x : Kept). nat_eq e.number x.number ≡ true) (with_word word o)
    number e has = let it = contains-from (with_word word o) e has in (it.0, e, it.1, it.2, nat_eq-refl e.number)

-- ---- what is found

module _ (ds : List Decl) (bound : ℕ) (m : DeclKey → Option Stored) (kept : ℕ → Option Kept) (listings : List Listing)
    (at_slots : AreAtSlots m kept) (exact : IsExact ds m) (sound : IsSound m listings) (distinct : AreDistinct ds)
    (numbered : AreNumbered ds bound m) (words : List Word) where
  -- what is kept of a declaration
  abbrev stored_of : Option Stored → List Kept
  stored_of None = []
  stored_of (Some (s, e)) = e ∷ []

  abbrev of_decl : Decl → List Kept
  of_decl d = stored_of (m (key_of d))

  pub kept_in_order : List Kept
  kept_in_order = flat_map of_decl (filter (has_one ds words) ds)

  stored-is : (o : Option Stored) (e : Kept) → Has (stored_of o) e → (s : ℕ) × (o ≡ Some (s, e))
  stored-is None e it = absurd (let no : None ≡ Some e = it.1 in cc)
  stored-is (Some (s, x)) e (zero, at) =
      let one : Some x ≡ Some e = at in
      let same : x ≡ e = cc in
      (s, ap (λ (y : Kept). Some (s, y)) same)
  stored-is (Some (s, x)) e (suc k, at) = absurd (let no : None ≡ Some e = at in cc)

  -- something with its words is made of a declaration that has a word
  decl-made : (p : ℕ) (d : Decl) (w : Word) → slice_get ds p ≡ Some d → words_have (words_by ds d) w ≡ true
      → (x : Made) × (made_of ds (key_of d) ≡ Some x) × (x.words ≡ words_by ds d)
  decl-made p (decls.Bean b) w at has =
      (made_of_bean ds b, ap (option_map (made_of_bean ds)) (place-found ds b p (own-place ds p b distinct at)), refl)
  decl-made p (decls.Interceptor i) w at has =
      (made_of_interceptor (decls.Interceptor i), ap (option_map made_of_interceptor) (own-found ds p (decls.Interceptor i) distinct at), refl)
  decl-made p (decls.Type d) w at has = absurd (false≢true has)
  decl-made p other w at has = absurd (false≢true has)

  -- it is kept
  record IsOf (p : ℕ) (d : Decl) (w : Word) : Type 0 where
    slot : ℕ
    entry : Kept
    stored : m (key_of d) ≡ Some (slot, entry)
    here : kept slot ≡ Some entry
    key : entry.key ≡ key_of d
    made : made_of ds (key_of d) ≡ Some entry.made
    has : words_have entry.made.words w ≡ true

  is-of : (p : ℕ) (d : Decl) (w : Word) → slice_get ds p ≡ Some d → words_have (words_by ds d) w ≡ true → IsOf p d w
  is-of p d w at has = by (decl-made p d w at has) (m (key_of d)) refl (exact (key_of d))
    where
      by : (x : Made) × (made_of ds (key_of d) ≡ Some x) × (x.words ≡ words_by ds d) → (o : Option Stored) → m (key_of d) ≡ o
          → made_in o ≡ made_of ds (key_of d) → IsOf p d w
      by it None stored is = absurd (let no : None ≡ Some it.0 = is ∙ it.1 in cc)
      by it (Some (s, e)) stored is =
          let one : Some e.made ≡ Some it.0 = is ∙ it.1 in
          let same : e.made ≡ it.0 = cc in
          let there = at_slots.there (key_of d) s e stored in
          record {
            slot = s;
            entry = e;
            stored = stored;
            here = there.0;
            key = there.1;
            made = sym is;
            has = ap (λ (x : Made). words_have x.words w) same ∙ ap (λ ws. words_have ws w) it.2 ∙ has;
          }

  -- where it is kept of a declaration that has one of the words
  record IsAmong (e : Kept) : Type 0 where
    place : ℕ
    decl : Decl
    at : slice_get ds place ≡ Some decl
    passes : has_one ds words decl ≡ true
    slot : ℕ
    stored : m (key_of decl) ≡ Some (slot, e)

  among-from : (e : Kept) → Has kept_in_order e → IsAmong e
  unfolding kept_in_order
  among-from e it =
      let of = flat-from of_decl (filter (has_one ds words) ds) e it in
      let there = filter-from (has_one ds words) ds of.0 of.1 in
      let stored = stored-is (m (key_of of.0)) e of.2 in
      record { place = there.0.0; decl = of.0; at = there.0.1; passes = there.1; slot = stored.0; stored = stored.1 }

  -- its numbers rise
  rises-of : (xs : List Decl)
      → ((p q : ℕ) (d e : Decl) (x y : Stored) → p < q → slice_get xs p ≡ Some d → slice_get xs q ≡ Some e
      → m (key_of d) ≡ Some x → m (key_of e) ≡ Some y → x.1.number < y.1.number)
      → Rises (flat_map of_decl (filter (has_one ds words) xs))
  unfolding IsStrictlySortedBy
  rises-of [] rise = tt
  rises-of (d ∷ xs) rise = by (has_one ds words d) (m (key_of d)) refl
      (rises-of xs (λ p q a b x y less. rise (suc p) (suc q) a b x y (omega (arith, less))))
    where
      above : (s : ℕ) (e : Kept) → m (key_of d) ≡ Some (s, e) → (x : Kept)
          → Has (flat_map of_decl (filter (has_one ds words) xs)) x → e.number < x.number
      above s e stored x it =
          let of = flat-from of_decl (filter (has_one ds words) xs) x it in
          let there = filter-from (has_one ds words) xs of.0 of.1 in
          let is = stored-is (m (key_of of.0)) x of.2 in
          rise 0 (suc there.0.0) d of.0 (s, e) (is.0, x) (omega arith) refl there.0.1 stored is.1

      by : (b : Bool) (o : Option Stored) → m (key_of d) ≡ o → Rises (flat_map of_decl (filter (has_one ds words) xs))
          → Rises (flat_map of_decl (cond b (d ∷ filter (has_one ds words) xs) (filter (has_one ds words) xs)))
      by false o stored more = more
      by true None stored more =
          subst (λ x. Rises (stored_of x ++ flat_map of_decl (filter (has_one ds words) xs))) (sym stored) more
      by true (Some (s, e)) stored more =
          subst (λ x. Rises (stored_of x ++ flat_map of_decl (filter (has_one ds words) xs))) (sym stored)
          (rise-all e (flat_map of_decl (filter (has_one ds words) xs)) (above s e stored) more)

  -- what is found is of a declaration that has one of the words
  found-among : (e : Kept) → Has (kept_under kept listings words) e → Has kept_in_order e
  unfolding kept_in_order
  found-among e it =
      let under_word = flat-from (λ w. flat_map (kept_with kept w) (under listings w)) words e it in
      let w = under_word.0 in
      let at_slot = flat-from (kept_with kept w) (under listings w) e under_word.2 in
      by w under_word.1 at_slot.0 (kept at_slot.0) refl at_slot.2
    where
      of-decl-at : (w : Word) → Has words w → (s : ℕ) → kept s ≡ Some e → words_have e.made.words w ≡ true
          → (o : Option ℕ) → position (is_of e.key.kind e.key.name) ds ≡ o → Has kept_in_order e
      of-decl-at w asked s here has None none =
          absurd (has-place e.key.kind e.key.name ds e.made
          (made-at ds m kept listings at_slots exact sound distinct s e here) none)
      of-decl-at w asked s here has (Some p) place =
          let of = of-decl ds e.key.kind e.key.name e.made w p (made-at ds m kept listings at_slots exact sound distinct s e here) has place in
          let d = of.0 in
          let key : e.key ≡ key_of d =
          key-found e.key.kind e.key.name ds d (sym (position-there e.key.kind e.key.name ds p place) ∙ of.1) in
          let stored : m (key_of d) ≡ Some (s, e) = ap m (sym key) ∙ at_slots.owned s e here in
          let passes : has_one ds words d ≡ true =
          any_passes_from_place (words_have (words_by ds d)) words asked.0 w asked.1 (ap (λ ws. words_have ws w) of.2 ∙ has) in
          flat-has of_decl (filter (has_one ds words) ds) d e (filter-has (has_one ds words) ds d (p, of.1) passes)
          (zero, subst (λ o. slice_get (stored_of o) zero ≡ Some e) (sym stored) refl)

      by : (w : Word) → Has words w → (s : ℕ) → (o : Option Kept) → kept s ≡ o → Has (with_word w o) e → Has kept_in_order e
      by w asked s None here has = absurd (let no : None ≡ Some e = has.1 in cc)
      by w asked s (Some x) here has = with (words_have x.made.words w) refl has
        where
          with : (b : Bool) → words_have x.made.words w ≡ b → Has (cond b (x ∷ []) []) e → Has kept_in_order e
          with false none it = absurd (let no_one : None ≡ Some e = it.1 in cc)
          with true has_it (zero, at) =
              let one : Some x ≡ Some e = at in
              let same : x ≡ e = cc in
              of-decl-at w asked s (here ∙ ap Some same) (ap (λ (y : Kept). words_have y.made.words w) (sym same) ∙ has_it)
              (position (is_of e.key.kind e.key.name) ds) refl
          with true has_it (suc k, at) = absurd (let none : None ≡ Some e = at in cc)

  any-has : {X : Type 0} (p : X → Bool) (xs : List X) → list_any p xs ≡ true → (x : X) × Has xs x × (p x ≡ true)
  any-has p [] e = absurd (false≢true e)
  any-has {X = X} p (x ∷ xs) e = by (any-has p xs) (p x) refl e
    where
      by : (list_any p xs ≡ true → (y : X) × Has xs y × (p y ≡ true)) → (b : Bool) → p x ≡ b → (b || list_any p xs) ≡ true
          → (y : X) × Has (x ∷ xs) y × (p y ≡ true)
      by more true is h = (x, (zero, refl), is)
      by more false is h = let rest = more h in (rest.0, (suc rest.1.0, rest.1.1), rest.2)

  has-word : (w : Word) (e : Kept) (o : Option Kept) → o ≡ Some e → words_have e.made.words w ≡ true → Has (with_word w o) e
  has-word w e None here has = absurd (let no_one : None ≡ Some e = here in cc)
  has-word w e (Some x) here has =
      let one : Some x ≡ Some e = here in
      let same : x ≡ e = cc in
      by (words_have x.made.words w) (ap (λ (y : Kept). words_have y.made.words w) same ∙ has) same
    where
      by : (b : Bool) → b ≡ true → x ≡ e → Has (cond b (x ∷ []) []) e
      by true is same = (zero, ap Some same)
      by false is same = absurd (false≢true is)

  -- and all of it is found
  found-under : (w : Word) (x e : Kept) (s : ℕ) → Has words w → is_listed listings w s ≡ true → kept s ≡ Some x
      → words_have x.made.words w ≡ true → x ≡ e → Has (kept_under kept listings words) e
  found-under w x e s asked listed here has same =
      let at = any-has (nat_eq s) (under listings w) listed in
      flat-has (λ v. flat_map (kept_with kept v) (under listings v)) words w e asked
      (flat-has (kept_with kept w) (under listings w) at.0 e at.1
      (has-word w e (kept at.0) (ap kept (sym (eqb-true s at.0 at.2)) ∙ here ∙ ap Some same)
      (ap (λ (y : Kept). words_have y.made.words w) (sym same) ∙ has)))

  among-found : (e : Kept) → Has kept_in_order e → Has (kept_under kept listings words) e
  among-found e it =
      let a = among-from e it in
      let word = any-has (words_have (words_by ds a.decl)) words a.passes in
      let is = is-of a.place a.decl word.0 a.at word.2 in
      found-under word.0 is.entry e is.slot word.1
      (sound word.0 (key_of a.decl) is.slot is.entry is.stored
      (or_right (keys_have is.entry.made.reads word.0) (classes_have is.entry.made.replaces word.0 || words_have is.entry.made.words word.0)
      (or_right (classes_have is.entry.made.replaces word.0) (words_have is.entry.made.words word.0) is.has)))
      is.here is.has (one-stored is.slot a.slot is.entry e (sym is.stored ∙ a.stored)).1

  of-one : (w : Word) (s : ℕ) (o : Option Kept) → kept s ≡ o → is_word_of w o ≡ true
      → (e : Kept) × (kept s ≡ Some e) × (words_have e.made.words w ≡ true)
  of-one w s None here has = absurd (false≢true has)
  of-one w s (Some e) here has = (e, here, has)

  at-listed : (w : Word) (s t : ℕ) (e : Kept) → nat_eq s t ≡ true → kept s ≡ Some e → words_have e.made.words w ≡ true
      → is_word_of w (kept t) ≡ true
  at-listed w s t e same here has = ap (λ i. is_word_of w (kept i)) (sym (eqb-true s t same)) ∙ ap (is_word_of w) here ∙ has

  -- what is listed has one of the words where a declaration has one
  pub any-found : list_any (λ w. list_any (λ s. is_word_of w (kept s)) (under listings w)) words ≡ list_any (has_one ds words) ds
  any-found = same-bool _ _ only all
    where
      only : list_any (λ w. list_any (λ s. is_word_of w (kept s)) (under listings w)) words ≡ true → list_any (has_one ds words) ds ≡ true
      only some =
          let word = any-has (λ w. list_any (λ s. is_word_of w (kept s)) (under listings w)) words some in
          let w = word.0 in
          let at = any-has (λ s. is_word_of w (kept s)) (under listings w) word.2 in
          let it = of-one w at.0 (kept at.0) refl at.2 in
          let a = among-from it.0 (found-among it.0
          (flat-has (λ v. flat_map (kept_with kept v) (under listings v)) words w it.0 word.1
          (flat-has (kept_with kept w) (under listings w) at.0 it.0 at.1 (has-word w it.0 (kept at.0) it.1 it.2)))) in
          any_passes_from_place (has_one ds words) ds a.place a.decl a.at a.passes

      all : list_any (has_one ds words) ds ≡ true → list_any (λ w. list_any (λ s. is_word_of w (kept s)) (under listings w)) words ≡ true
      all some =
          let d = any-has (has_one ds words) ds some in
          let word = any-has (words_have (words_by ds d.0)) words d.2 in
          let w = word.0 in
          let is = is-of d.1.0 d.0 w d.1.1 word.2 in
          let listed = any-has (nat_eq is.slot) (under listings w)
          (sound w (key_of d.0) is.slot is.entry is.stored
          (or_right (keys_have is.entry.made.reads w) (classes_have is.entry.made.replaces w || words_have is.entry.made.words w)
          (or_right (classes_have is.entry.made.replaces w) (words_have is.entry.made.words w) is.has))) in
          any_passes_from_place (λ v. list_any (λ s. is_word_of v (kept s)) (under listings v)) words word.1.0 w word.1.1
          (any_passes_from_place (λ s. is_word_of w (kept s)) (under listings w) listed.1.0 listed.0 listed.1.1
          (at-listed w is.slot listed.0 is.entry listed.2 is.here is.has))

  module _ (ordered : List Kept) (are : AreInOrder (kept_under kept listings words) ordered) where
    pub same-found : ordered ≡ kept_in_order
    unfolding kept_in_order
    same-found = same-list ordered kept_in_order are.rise rises
        (λ e has. found-among e (has-from (kept_under kept listings words) e (are.only e (contains-from ordered e has))))
        (λ e has. by e (are.all e (contains-from (kept_under kept listings words) e (among-found e has))))
      where
        rises : Rises kept_in_order
        rises = rises-of ds numbered.rise

        by : (e : Kept) → Any (λ (x : Kept). nat_eq e.number x.number ≡ true) ordered → Numbered ordered e.number
        by e it = (it.1, has-from ordered it.1 (it.0, it.2, it.3), sym (eqb-true e.number it.1.number it.4))

    module _ (replaced : DeclKey → Option (List Effective)) (exactly : AreReplaced ds replaced) where
      at-decl : (p : ℕ) (d : Decl) → slice_get ds p ≡ Some d → has_one ds words d ≡ true
          → flat_map (records_kept replaced) (of_decl d) ≡ entries ds d
      at-decl p d at passes =
          let word = any-has (words_have (words_by ds d)) words passes in
          let w = word.0 in
          let is = is-of p d w at word.2 in
          ap (λ o. flat_map (records_kept replaced) (stored_of o)) is.stored
          ∙ append-nil (records_kept replaced is.entry)
          ∙ ap (λ k. lent (replaced k) (Some is.entry.made)) is.key
          ∙ ap (λ o. lent o (Some is.entry.made)) (exactly (key_of d))
          ∙ lent-there ds distinct w p (kind_of d) (name_of_decl d) is.entry.made is.made is.has (own-position ds p d distinct at)
          ∙ ap (λ o. option_map_or (entries ds) o []) at

      each : (f g : Decl → List Effective) (test : Decl → Bool) (xs : List Decl)
          → ((i : ℕ) (d : Decl) → slice_get xs i ≡ Some d → test d ≡ true → f d ≡ g d)
          → flat_map f (filter test xs) ≡ flat_map g (filter test xs)
      each f g test [] same = refl
      each f g test (x ∷ xs) same = by (test x) refl (each f g test xs (λ i. same (suc i)))
        where
          by : (b : Bool) → test x ≡ b → flat_map f (filter test xs) ≡ flat_map g (filter test xs)
              → flat_map f (cond b (x ∷ filter test xs) (filter test xs)) ≡ flat_map g (cond b (x ∷ filter test xs) (filter test xs))
          by true e rest = ap (λ ys. ys ++ flat_map f (filter test xs)) (same 0 x refl e) ∙ ap (λ ys. g x ++ ys) rest
          by false e rest = rest

      -- so its records are those of the declarations that have one of the words
      pub under-words : flat_map (records_kept replaced) ordered ≡ beans_under ds words
      unfolding kept_in_order
      under-words =
          ap (flat_map (records_kept replaced)) same-found
          ∙ flat-twice (records_kept replaced) of_decl (filter (has_one ds words) ds)
          ∙ each (λ d. flat_map (records_kept replaced) (of_decl d)) (entries ds) (has_one ds words) ds at-decl

    one-of : (p : ℕ) (d : Decl) → slice_get ds p ≡ Some d → has_one ds words d ≡ true → flat_map (decl_kept ds) (of_decl d) ≡ d ∷ []
    one-of p d at passes =
        let word = any-has (words_have (words_by ds d)) words passes in
        let is = is-of p d word.0 at word.2 in
        ap (λ o. flat_map (decl_kept ds) (stored_of o)) is.stored
        ∙ append-nil (decl_kept ds is.entry)
        ∙ ap (λ (k : DeclKey). option_to_list (find_decl k.kind k.name ds)) is.key
        ∙ ap option_to_list (own-found ds p d distinct at)

    all-of : (test : Decl → Bool) (f : Decl → List Decl) (xs : List Decl)
        → ((i : ℕ) (d : Decl) → slice_get xs i ≡ Some d → test d ≡ true → f d ≡ d ∷ []) → flat_map f (filter test xs) ≡ filter test xs
    all-of test f [] each = refl
    all-of test f (x ∷ xs) each = by (test x) refl (all-of test f xs (λ i. each (suc i)))
      where
        by : (b : Bool) → test x ≡ b → flat_map f (filter test xs) ≡ filter test xs
            → flat_map f (cond b (x ∷ filter test xs) (filter test xs)) ≡ cond b (x ∷ filter test xs) (filter test xs)
        by true e rest = ap (λ ys. ys ++ flat_map f (filter test xs)) (each 0 x refl e) ∙ ap (λ ys. x ∷ ys) rest
        by false e rest = rest

    -- and what is kept is of these
    pub decls-under : flat_map (decl_kept ds) ordered ≡ filter (has_one ds words) ds
    unfolding kept_in_order
    decls-under =
        ap (flat_map (decl_kept ds)) same-found
        ∙ flat-twice (decl_kept ds) of_decl (filter (has_one ds words) ds)
        ∙ all-of (has_one ds words) (λ d. flat_map (decl_kept ds) (of_decl d)) ds one-of

-- something of what is kept observes a type just where an observer method does
pub observed-found : (ds : List Decl) (bound : ℕ) (m : DeclKey → Option Stored) (kept : ℕ → Option Kept) (listings : List Listing)
    → AreAtSlots m kept → IsExact ds m → IsSound m listings → AreDistinct ds → AreNumbered ds bound m → (t : List ℕ)
    → is_observed_by kept listings t ≡ is_observed ds t
observed-found ds bound m kept listings at_slots exact sound distinct numbered t =
    let word : Word = word_at reasons.Observes t in
    sym (or-false _)
    ∙ any-found ds bound m kept listings at_slots exact sound distinct numbered (word ∷ [])
    ∙ any-same (has_one ds (word ∷ [])) (observes_one (t ∷ [])) ds (observing-one ds (t ∷ []))
