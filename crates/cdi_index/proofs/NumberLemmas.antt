-- Numbers rise along the declarations after edits.
use Rattle.cdi_index.proofs.Common.{◌≡◌, ℕ, Bool, true, false, ◌&&◌, List, [], ◌∷◌, ◌++◌, map, Option, Some, None, option_map, refl, sym, ap, ◌∙◌}
use Rattle.cdi_index.proofs.Common.{Decl, Kind, Edit, DeclKey, key_of, kind_of, name_of_decl, same_key, edited_all, edited_keys, is_among, is_of}
use Rattle.cdi_index.proofs.Common.{find_decl, find_bean, find_binding, suc, zero, ◌+◌, ◌<◌, ◌≤◌, ◌-◌, nat_lt, length, slice_get, inl, inr, ◌⊎◌}
use Rattle.cdi_index.proofs.Common.{arith, position, position-there, false≢true, list_any, AreDistinct, Kept, Made, made_of, made_by, made_in}
use Rattle.cdi_index.proofs.Common.{made_of_type, made_of_bean, made_of_binding, made_of_interceptor, number_in, applied, change_of, kept_of}
use Rattle.cdi_index.proofs.Common.{Change, Stored, IsExact, is_kept, and_from, or_left, keys_changed, is_some, reads, cond}
use Rattle.std.proofs.Common.{unwrap_or}
use Rattle.std.proofs.lemmas.{Bool.ltb-false, Bool.ltb-true, Option.slice_get-map, Option.slice_get_cases, Option.slice_get_within}
use Rattle.cdi_model.specs.declared.decl.Kind.TheVariants as kinds
use Rattle.cdi_model.proofs.PositionLemmas.{position-found}
use Rattle.cdi_effective.proofs.PlaceLemmas.{own-found, own-position}
use Rattle.cdi_index.proofs.AffectedLemmas.{hits, hit-parts}
use Rattle.cdi_index.proofs.ChangeLemmas.{among-turned, comes, number-of, made-of, Anew, Before, StoredBy}
use Rattle.cdi_index.proofs.KeyLemmas.{keys-made}
use Rattle.cdi_index.proofs.CountLemmas.{some-map}
use Rattle.cdi_index.proofs.OrderLemmas.{all-at, edited-split, part-order, part-place, IsSplit}
use Rattle.cdi_index.proofs.ReadLemmas.{bean-found}
use Rattle.cdi_index.proofs.SlotLemmas.{has-place}
use Rattle.cdi_index.specs.Numbers.{number_at, AreNumbered}

-- ---- places

-- what is at a place of two lists, one after the other
place-in : {X : Type 0} (ls bs : List X) (p : ℕ) (x : X) → slice_get (ls ++ bs) p ≡ Some x
    → (slice_get ls p ≡ Some x) ⊎ ((j : ℕ) × (length ls + j ≡ p) × (slice_get bs j ≡ Some x))
place-in [] bs p x at = inr (p, omega arith, at)
place-in (a ∷ ls) bs zero x at = inl at
place-in (a ∷ ls) bs (suc p) x at = elim (place-in ls bs p x at) [
  | inl here ↦ inl here
  | inr later ↦ inr (later.0, omega (arith, later.1), later.2)
]

-- a place has something just below the length
within : {X : Type 0} (xs : List X) (p : ℕ) → p < length xs → (x : X) × (slice_get xs p ≡ Some x)
within xs p less = elim (slice_get_cases xs p).1 [
  | inl there ↦ (there.0, there.2)
  | inr past ↦ absurd (omega (arith, less, past.0))
]

key-at : (ds : List Decl) (p : ℕ) (d : Decl) → slice_get ds p ≡ Some d → slice_get (map key_of ds) p ≡ Some (key_of d)
key-at ds p d at = slice_get-map key_of ds p ∙ ap (option_map key_of) at

decl-at : (ds : List Decl) (p : ℕ) (k : DeclKey) → slice_get (map key_of ds) p ≡ Some k
    → (d : Decl) × (slice_get ds p ≡ Some d) × (key_of d ≡ k)
decl-at ds p k at = by (slice_get ds p) refl
  where
    by : (o : Option Decl) → slice_get ds p ≡ o → (d : Decl) × (slice_get ds p ≡ Some d) × (key_of d ≡ k)
    by None none = absurd (let no : None ≡ Some k = sym (slice_get-map key_of ds p ∙ ap (option_map key_of) none) ∙ at in cc)
    by (Some d) is =
        let one : Some (key_of d) ≡ Some k = sym (slice_get-map key_of ds p ∙ ap (option_map key_of) is) ∙ at in
        (d, is, (let same : key_of d ≡ k = cc in same))

position-below : (kind : Kind) (name : List ℕ) (ds : List Decl) (p : ℕ) → position (is_of kind name) ds ≡ Some p → p < length ds
position-below kind name ds p place = by (slice_get ds p) refl
  where
    by : (o : Option Decl) → slice_get ds p ≡ o → p < length ds
    by None none = absurd (false≢true (ap is_some (sym none ∙ position-there kind name ds p place)
        ∙ sym (position-found kind name ds) ∙ ap is_some place))
    by (Some d) at = slice_get_within ds p d at

-- ---- what is made of a declaration

binding-found : (name : List ℕ) (ds : List Decl) → is_some (find_binding name ds) ≡ is_some (find_decl kinds.Binding name ds)
binding-found name [] = refl
binding-found name (d ∷ ds) = grind (arith, binding-found name ds)

-- something is made of a declaration of a kind of which something is
made-some : (ds : List Decl) (kind : Kind) (name : List ℕ) (d : Decl) → find_decl kind name ds ≡ Some d → is_kept kind ≡ true
    → is_some (made_by kind name ds) ≡ true
made-some ds kinds.Type name d found kept = some-map (λ x. made_of_type ds name) (find_decl kinds.Type name ds) ∙ ap is_some found
made-some ds kinds.Bean name d found kept =
    some-map (made_of_bean ds) (find_bean name ds) ∙ bean-found name ds ∙ ap is_some found
made-some ds kinds.Interceptor name d found kept = some-map made_of_interceptor (find_decl kinds.Interceptor name ds) ∙ ap is_some found
made-some ds kinds.Binding name d found kept =
    some-map (made_of_binding ds) (find_binding name ds) ∙ binding-found name ds ∙ ap is_some found
made-some ds other name d found kept = absurd (false≢true kept)

kept-kind : (kind : Kind) (name : List ℕ) (ds : List Decl) (made : Made) → made_by kind name ds ≡ Some made → is_kept kind ≡ true
kept-kind kinds.Type name ds made is = refl
kept-kind kinds.Bean name ds made is = refl
kept-kind kinds.Interceptor name ds made is = refl
kept-kind kinds.Binding name ds made is = refl
kept-kind other name ds made is = absurd (let no : None ≡ Some made = is in cc)

-- ---- after edits

module _ (ds : List Decl) (edits : List Edit) (ks : List DeclKey) (m : StoredBy) (bound staying first : ℕ)
    (exact : IsExact ds m) (was : AreNumbered ds bound m) (distinct : AreDistinct ds) (apart : AreDistinct (edited_all ds edits))
    (affected : (k : DeclKey) → list_any (same_key k) ks ≡ list_any (hits ds k) (edited_keys edits))
    (inside : staying ≤ length (edited_all ds edits))
    (edited : (p : ℕ) (d : Decl) → staying ≤ p → slice_get (edited_all ds edits) p ≡ Some d
    → is_among (edited_keys edits) (key_of d) ≡ true)
    (last : (p : ℕ) (d : Decl) → p + 1 ≡ staying → slice_get (edited_all ds edits) p ≡ Some d
    → is_among (edited_keys edits) (key_of d) ≡ false) where
  abbrev es : List Decl
  es = edited_all ds edits

  abbrev numbers : DeclKey → ℕ
  numbers k = number_at (m k) bound staying (position (is_of k.kind k.name) es)

  abbrev after : StoredBy
  after = applied first (map (change_of es numbers) ks) m

  split : IsSplit (λ k. is_among (edited_keys edits) k ≡ true) (map key_of ds) (map key_of es)
  split = edited-split ds edits

  -- those that stay are among the first
  stay-first : (p : ℕ) (k : DeclKey) → p < staying → slice_get (map key_of es) p ≡ Some k → slice_get split.first p ≡ Some k
  stay-first p k less at =
      elim (place-in split.first split.later p k (ap (λ l. slice_get l p) (sym split.are) ∙ at)) [
        | inl here ↦ here
        | inr later ↦ absurd (beyond later.0 later.1)
      ]
    where
      beyond : (j : ℕ) → length split.first + j ≡ p → ⊥
      beyond j sum =
          let q = staying - 1 in
          let one = within es q (omega (arith, less, inside)) in
          let among : is_among (edited_keys edits) (key_of one.0) ≡ true =
          elim (place-in split.first split.later q (key_of one.0)
          (ap (λ l. slice_get l q) (sym split.are) ∙ key-at es q one.0 one.1)) [
            | inl here ↦ absurd (omega (arith, slice_get_within split.first q (key_of one.0) here, less, sum))
            | inr later ↦ all-at (λ k. is_among (edited_keys edits) k ≡ true) split.later split.all later.0 (key_of one.0) later.2
          ] in
          false≢true (sym (last q one.0 (omega (arith, less)) one.1) ∙ among)

  -- so they were declared, and what was made of them is kept
  was-kept : (p : ℕ) (d : Decl) → p < staying → slice_get es p ≡ Some d → is_kept (kind_of d) ≡ true
      → (z : Stored) × (m (key_of d) ≡ Some z)
  was-kept p d less at kept =
      let there = part-place split.first (map key_of ds) split.part p (key_of d) (stay-first p (key_of d) less (key-at es p d at)) in
      let it = decl-at ds there.0 (key_of d) there.1 in
      let found : find_decl (kind_of d) (name_of_decl d) ds ≡ Some it.0 =
      ap (λ (k : DeclKey). find_decl k.kind k.name ds) (sym it.2) ∙ own-found ds there.0 it.0 distinct it.1 in
      by (m (key_of d)) refl (exact (key_of d)) (made-some ds (kind_of d) (name_of_decl d) it.0 found kept)
    where
      by : (o : Option Stored) → m (key_of d) ≡ o → made_in o ≡ made_of ds (key_of d) → is_some (made_of ds (key_of d)) ≡ true
          → (z : Stored) × (m (key_of d) ≡ Some z)
      by None here is some = absurd (false≢true (ap is_some is ∙ some))
      by (Some z) here is some = (z, here)

  -- the changes are those of their keys
  change-at : (i : ℕ) (c : Change) → slice_get (map (change_of es numbers) ks) i ≡ Some c → c ≡ change_of es numbers c.key
  change-at i c at = by (slice_get ks i) refl
    where
      by : (o : Option DeclKey) → slice_get ks i ≡ o → c ≡ change_of es numbers c.key
      by None none = absurd (let no : None ≡ Some c =
          sym (slice_get-map (change_of es numbers) ks i ∙ ap (option_map (change_of es numbers)) none) ∙ at in cc)
      by (Some l) here =
          let one : Some (change_of es numbers l) ≡ Some c =
          sym (slice_get-map (change_of es numbers) ks i ∙ ap (option_map (change_of es numbers)) here) ∙ at in
          let same : change_of es numbers l ≡ c = cc in
          sym same ∙ ap (λ (x : Change). change_of es numbers x.key) same

  -- a number that is given is that of the key, and something is made
  given : (i : ℕ) (c : Change) (k : DeclKey) (e : Kept) → slice_get (map (change_of es numbers) ks) i ≡ Some c → c.key ≡ k
      → kept_of c ≡ Some e → (e.number ≡ numbers k) × (made_of es k ≡ Some e.made)
  given i c k e at key was =
      let is = change-at i c at in (
        number-of c e was ∙ ap (λ (x : Change). x.number) is ∙ ap numbers key,
        ap (made_of es) (sym key) ∙ sym (ap (λ (x : Change). x.made) is) ∙ made-of c e was,
      )

  -- a declaration that is edited is affected, if something is made of it
  not-before : (p : ℕ) (d : Decl) (z : Stored) → staying ≤ p → slice_get es p ≡ Some d → m (key_of d) ≡ Some z
      → is_among (keys_changed (map (change_of es numbers) ks)) (key_of d) ≡ false → ⊥
  not-before p d z beyond at is none =
      let k = key_of d in
      let kept : is_kept k.kind ≡ true = kept-kind k.kind k.name ds z.1.made (sym (exact k) ∙ ap made_in is) in
      let hit : list_any (hits ds k) (edited_keys edits) ≡ true = hit-parts ds (edited_keys edits) k
      ∙ or_left (is_kept k.kind && is_among (edited_keys edits) k) (list_any (reads (made_of ds k)) (edited_keys edits))
      (and_from (is_kept k.kind) (is_among (edited_keys edits) k) kept (edited p d beyond at)) in
      false≢true (sym none ∙ ap (λ l. is_among l k) (keys-made (λ (x : Change). x.key) (change_of es numbers) (λ l. refl) ks)
      ∙ sym (among-turned ks k) ∙ affected k ∙ hit)

  -- the number of a declaration is its own where it stays, and else told by its place
  abbrev Told : ℕ → Decl → Stored → Type 0
  Told p d x = ((p < staying) × (z : Stored) × (m (key_of d) ≡ Some z) × (x.1.number ≡ z.1.number))
      ⊎ ((staying ≤ p) × (x.1.number ≡ bound + p))

  number-is : (p : ℕ) (d : Decl) (x : Stored) → slice_get es p ≡ Some d → after (key_of d) ≡ Some x → Told p d x
  number-is p d (s, e) at is = elim (comes first (map (change_of es numbers) ks) m (key_of d) s e is) [
    | Anew i c there slot key was ↦ anew (given i c (key_of d) e there key was)
    | Before none was ↦ before none was
  ]
    where
      placed : numbers (key_of d) ≡ number_at (m (key_of d)) bound staying (Some p)
      placed = ap (number_at (m (key_of d)) bound staying) (own-position es p d apart at)

      anew : (e.number ≡ numbers (key_of d)) × (made_of es (key_of d) ≡ Some e.made) → Told p d (s, e)
      anew it = by (nat_lt p staying) refl
        where
          by : (b : Bool) → nat_lt p staying ≡ b → Told p d (s, e)
          by true less =
              let kept = kept-kind (kind_of d) (name_of_decl d) es e.made it.1 in
              let old = was-kept p d (ltb-true p staying less) at kept in
              inl (
                ltb-true p staying less,
                old.0,
                old.1,
                it.0 ∙ placed ∙ ap (λ b. cond b (unwrap_or (number_in (m (key_of d))) (bound + p)) (bound + p)) less
                    ∙ ap (λ o. unwrap_or (number_in o) (bound + p)) old.1,
              )
          by false more = inr (
            ltb-false p staying more,
            it.0 ∙ placed ∙ ap (λ b. cond b (unwrap_or (number_in (m (key_of d))) (bound + p)) (bound + p)) more,
          )

      before : is_among (keys_changed (map (change_of es numbers) ks)) (key_of d) ≡ false → m (key_of d) ≡ Some (s, e) → Told p d (s, e)
      before none was = by (nat_lt p staying) refl
        where
          by : (b : Bool) → nat_lt p staying ≡ b → Told p d (s, e)
          by true less = inl (ltb-true p staying less, (s, e), was, refl)
          by false more = absurd (not-before p d (s, e) (ltb-false p staying more) at was none)

  rises : (p q : ℕ) (d e : Decl) (x y : Stored) → p < q → slice_get es p ≡ Some d → slice_get es q ≡ Some e
      → after (key_of d) ≡ Some x → after (key_of e) ≡ Some y → x.1.number < y.1.number
  rises p q d e x y less at further one two = elim (number-is p d x at one) [
    | inl here ↦ elim (number-is q e y further two) [
      | inl there ↦
          let o = part-order split.first (map key_of ds) split.part p q (key_of d) (key_of e) less
          (stay-first p (key_of d) here.0 (key-at es p d at)) (stay-first q (key_of e) there.0 (key-at es q e further)) in
          let a = decl-at ds o.0 (key_of d) o.3 in
          let b = decl-at ds o.1 (key_of e) o.4 in
          omega (arith, here.3, there.3, was.rise o.0 o.1 a.0 b.0 here.1 there.1 o.2 a.1 b.1 (ap m a.2 ∙ here.2) (ap m b.2 ∙ there.2))
      | inr there ↦ omega (arith, here.3, was.below (key_of d) here.1 here.2, there.1)
    ]
    | inr here ↦ elim (number-is q e y further two) [
      | inl there ↦ absurd (omega (arith, here.0, there.0, less))
      | inr there ↦ omega (arith, here.1, there.1, less)
    ]
  ]

  under : (k : DeclKey) (x : Stored) → after k ≡ Some x → x.1.number < bound + length es
  under k (s, e) is = elim (comes first (map (change_of es numbers) ks) m k s e is) [
    | Anew i c there slot key was ↦ anew (given i c k e there key was)
    | Before none was ↦ omega (arith, was-below was)
  ]
    where
      was-below : m k ≡ Some (s, e) → e.number < bound
      was-below kept = was.below k (s, e) kept

      anew : (e.number ≡ numbers k) × (made_of es k ≡ Some e.made) → e.number < bound + length es
      anew it = by (position (is_of k.kind k.name) es) refl it.0
        where
          by : (o : Option ℕ) → position (is_of k.kind k.name) es ≡ o → e.number ≡ number_at (m k) bound staying o
              → e.number < bound + length es
          by None none number = absurd (has-place k.kind k.name es e.made it.1 none)
          by (Some p) place number = at (nat_lt p staying) (m k) refl number
            where
              there : p < length es
              there = position-below k.kind k.name es p place

              at : (b : Bool) (o : Option Stored) → m k ≡ o → e.number ≡ cond b (unwrap_or (number_in o) (bound + p)) (bound + p)
                  → e.number < bound + length es
              at true None own n = omega (arith, n, there)
              at true (Some z) own n = omega (arith, n, was.below k z own)
              at false o own n = omega (arith, n, there)

  pub numbered-next : AreNumbered es (bound + length es) after
  numbered-next = record { rise = rises; below = under }
