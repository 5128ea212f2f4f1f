-- Edits keep the order of the declarations that stay, and put the others after these.
use Rattle.cdi_index.proofs.Common.{◌≡◌, ℕ, Bool, true, false, List, [], ◌∷◌, ◌++◌, map, Some, None, refl, sym, ap, ◌∙◌, subst, cond}
use Rattle.cdi_index.proofs.Common.{Decl, Kind, Edit, DeclKey, key_at, key_of, kind_of, name_of_decl, same_key, key_exact, edited_all, edited_keys}
use Rattle.cdi_index.proofs.Common.{is_among, is_of, same_key_equiv, suc, zero, ◌<◌, slice_get, inl, inr, ◌⊎◌, AllByRecursion, arith}
use Rattle.cdi_index.proofs.Common.{or_left, or_right}
use Rattle.std.proofs.lemmas.List.{append-nil, append_assoc}
use Rattle.base_lists.proofs.Each.{all-append}
use Rattle.cdi_model.specs.DeclList.{put_in, remove_from}
use Rattle.cdi_model.specs.Edits.{edited, edited_key}
use Rattle.cdi_model.specs.declared.edit.Edit.TheVariants.{Put, Remove}

-- ---- parts of a list

-- the first list is what is left of the second without some of it
pub IsPart : {X : Type 0} → List X → List X → Type 0
IsPart [] ys = Unit {0}
IsPart (x ∷ xs) [] = ⊥
IsPart (x ∷ xs) (y ∷ ys) = ((x ≡ y) × IsPart xs ys) ⊎ IsPart (x ∷ xs) ys

module _ {X : Type 0} where
  part-itself : (xs : List X) → IsPart xs xs
  unfolding IsPart
  part-itself [] = tt
  part-itself (x ∷ xs) = inl (refl, part-itself xs)

  part-more : (xs : List X) (y : X) (ys : List X) → IsPart xs ys → IsPart xs (y ∷ ys)
  unfolding IsPart
  part-more [] y ys is = tt
  part-more (x ∷ xs) y ys is = inr is

  part-tail : (x : X) (xs ys : List X) → IsPart (x ∷ xs) ys → IsPart xs ys
  unfolding IsPart
  part-tail x xs [] is = absurd is
  part-tail x xs (y ∷ ys) is = elim is [
    | inl here ↦ part-more xs y ys here.1
    | inr later ↦ part-more xs y ys (part-tail x xs ys later)
  ]

  pub part-place : (xs ys : List X) → IsPart xs ys → (p : ℕ) (x : X) → slice_get xs p ≡ Some x → (q : ℕ) × (slice_get ys q ≡ Some x)
  unfolding IsPart
  part-place [] ys is p x at = absurd (let no : None ≡ Some x = at in cc)
  part-place (z ∷ xs) [] is p x at = absurd is
  part-place (z ∷ xs) (y ∷ ys) is p x at = elim is [
    | inl here ↦ by p at here.0 (λ q there. part-place xs ys here.1 q x there)
    | inr later ↦ let it = part-place (z ∷ xs) ys later p x at in (suc it.0, it.1)
  ]
    where
      by : (p : ℕ) → slice_get (z ∷ xs) p ≡ Some x → z ≡ y
          → ((q : ℕ) → slice_get xs q ≡ Some x → (i : ℕ) × (slice_get ys i ≡ Some x))
          → (q : ℕ) × (slice_get (y ∷ ys) q ≡ Some x)
      by zero at same more = (zero, (ap Some (sym same) ∙ at))
      by (suc p) at same more = let it = more p at in (suc it.0, it.1)

  abbrev InOrder : List X → X → X → Type 0
  InOrder ys x z = (i : ℕ) × (j : ℕ) × (i < j) × (slice_get ys i ≡ Some x) × (slice_get ys j ≡ Some z)

  later-order : (ys : List X) (x z y : X) → InOrder ys x z → InOrder (y ∷ ys) x z
  later-order ys x z y it = (suc it.0, suc it.1, omega (arith, it.2), it.3, it.4)

  pub part-order : (xs ys : List X) → IsPart xs ys → (p q : ℕ) (x z : X) → p < q → slice_get xs p ≡ Some x → slice_get xs q ≡ Some z
      → InOrder ys x z
  unfolding IsPart
  part-order [] ys is p q x z less at further = absurd (let no : None ≡ Some x = at in cc)
  part-order (w ∷ xs) [] is p q x z less at further = absurd is
  part-order (w ∷ xs) (y ∷ ys) is p q x z less at further = elim is [
    | inl here ↦ by p q less at further here.0 here.1 (λ i j before one two. part-order xs ys here.1 i j x z before one two)
    | inr later ↦ later-order ys x z y (part-order (w ∷ xs) ys later p q x z less at further)
  ]
    where
      by : (p q : ℕ) → p < q → slice_get (w ∷ xs) p ≡ Some x → slice_get (w ∷ xs) q ≡ Some z → w ≡ y → IsPart xs ys
          → ((i j : ℕ) → i < j → slice_get xs i ≡ Some x → slice_get xs j ≡ Some z → InOrder ys x z)
          → InOrder (y ∷ ys) x z
      by p zero less at further same rest more = absurd (omega (arith, less))
      by zero (suc q) less at further same rest more =
          let it = part-place xs ys rest q z further in
          (zero, suc it.0, omega arith, ap Some (sym same) ∙ at, it.1)
      by (suc p) (suc q) less at further same rest more = later-order ys x z y (more p q (omega (arith, less)) at further)

-- ---- without a key

removed : DeclKey → List DeclKey → List DeclKey
removed k [] = []
removed k (l ∷ ls) = cond (same_key k l) ls (l ∷ removed k ls)

part-less : (k : DeclKey) (xs ys : List DeclKey) → IsPart xs ys → IsPart (removed k xs) ys
unfolding IsPart removed
part-less k [] ys is = tt
part-less k (x ∷ xs) [] is = absurd is
part-less k (x ∷ xs) (y ∷ ys) is = by (same_key k x) refl is (part-less k xs ys) (part-less k (x ∷ xs) ys)
  where
    by : (b : Bool) → same_key k x ≡ b → ((x ≡ y) × IsPart xs ys) ⊎ IsPart (x ∷ xs) ys → (IsPart xs ys → IsPart (removed k xs) ys)
        → (IsPart (x ∷ xs) ys → IsPart (cond (same_key k x) xs (x ∷ removed k xs)) ys)
        → IsPart (cond b xs (x ∷ removed k xs)) (y ∷ ys)
    by true e (inl here) less same = part-more xs y ys here.1
    by true e (inr later) less same = part-more xs y ys (part-tail x xs ys later)
    by false e (inl here) less same = inl (here.0, less here.1)
    by false e (inr later) less same = inr (subst (λ b. IsPart (cond b xs (x ∷ removed k xs)) ys) e (same later))

removed-append : (k : DeclKey) (ls bs : List DeclKey)
    → (removed k (ls ++ bs) ≡ removed k ls ++ bs) ⊎ (removed k (ls ++ bs) ≡ ls ++ removed k bs)
unfolding removed
removed-append k [] bs = inr refl
removed-append k (a ∷ ls) bs = by (same_key k a) refl (removed-append k ls bs)
  where
    by : (b : Bool) → same_key k a ≡ b
        → (removed k (ls ++ bs) ≡ removed k ls ++ bs) ⊎ (removed k (ls ++ bs) ≡ ls ++ removed k bs)
        → (cond b (ls ++ bs) (a ∷ removed k (ls ++ bs)) ≡ cond b ls (a ∷ removed k ls) ++ bs)
        ⊎ (cond b (ls ++ bs) (a ∷ removed k (ls ++ bs)) ≡ a ∷ (ls ++ removed k bs))
    by true e rest = inl refl
    by false e (inl here) = inl (ap (λ ls. a ∷ ls) here)
    by false e (inr later) = inr (ap (λ ls. a ∷ ls) later)

all-removed : (P : DeclKey → Type 0) (k : DeclKey) (ls : List DeclKey) → AllByRecursion P ls → AllByRecursion P (removed k ls)
unfolding removed
all-removed P k [] all = all
all-removed P k (l ∷ ls) all = by (same_key k l) (all-removed P k ls all.1)
  where
    by : (b : Bool) → AllByRecursion P (removed k ls) → AllByRecursion P (cond b ls (l ∷ removed k ls))
    by true rest = all.1
    by false rest = (all.0, rest)

pub all-at : {X : Type 0} (P : X → Type 0) (xs : List X) → AllByRecursion P xs → (i : ℕ) (x : X) → slice_get xs i ≡ Some x → P x
all-at P [] all i x at = absurd (let no : None ≡ Some x = at in cc)
all-at P (y ∷ xs) all zero x at = let one : Some y ≡ Some x = at in subst P (let same : y ≡ x = cc in same) all.0
all-at P (y ∷ xs) all (suc i) x at = all-at P xs all.1 i x at

-- ---- the keys of edited declarations

put-keys : (d : Decl) (ds : List Decl)
    → (map key_of (put_in ds d) ≡ map key_of ds) ⊎ (map key_of (put_in ds d) ≡ map key_of ds ++ key_of d ∷ [])
put-keys d [] = inr refl
put-keys d (e ∷ es) = by (is_of (kind_of d) (name_of_decl d) e) refl (put-keys d es)
  where
    by : (b : Bool) → is_of (kind_of d) (name_of_decl d) e ≡ b
        → (map key_of (put_in es d) ≡ map key_of es) ⊎ (map key_of (put_in es d) ≡ map key_of es ++ key_of d ∷ [])
        → (map key_of (cond b (d ∷ es) (e ∷ put_in es d)) ≡ key_of e ∷ map key_of es)
        ⊎ (map key_of (cond b (d ∷ es) (e ∷ put_in es d)) ≡ key_of e ∷ (map key_of es ++ key_of d ∷ []))
    by true is rest = inl (ap (λ k. k ∷ map key_of es) (key_exact (key_of d) (key_of e) is))
    by false is (inl same) = inl (ap (λ ks. key_of e ∷ ks) same)
    by false is (inr more) = inr (ap (λ ks. key_of e ∷ ks) more)

remove-keys : (kind : Kind) (name : List ℕ) (ds : List Decl) → map key_of (remove_from kind name ds) ≡ removed (key_at kind name) (map key_of ds)
unfolding removed
remove-keys kind name [] = refl
remove-keys kind name (d ∷ ds) = by (is_of kind name d) (remove-keys kind name ds)
  where
    by : (b : Bool) → map key_of (remove_from kind name ds) ≡ removed (key_at kind name) (map key_of ds)
        → map key_of (cond b ds (d ∷ remove_from kind name ds)) ≡ cond b (map key_of ds) (key_of d ∷ removed (key_at kind name) (map key_of ds))
    by true rest = refl
    by false rest = ap (λ ks. key_of d ∷ ks) rest

-- first some that were there, in their order, and then others
pub record IsSplit (P : DeclKey → Type 0) (before after : List DeclKey) : Type 0 where
  pub first : List DeclKey
  pub later : List DeclKey
  pub are : after ≡ first ++ later
  pub part : IsPart first before
  pub all : AllByRecursion P later

module _ (P : DeclKey → Type 0) (before : List DeclKey) where
  split-edit : (ds : List Decl) (e : Edit) → P (edited_key e) → IsSplit P before (map key_of ds) → IsSplit P before (map key_of (edited ds e))
  split-edit ds (Put d) is s = elim (put-keys d ds) [
    | inl same ↦ record { first = s.first; later = s.later; are = same ∙ s.are; part = s.part; all = s.all }
    | inr more ↦ record {
      first = s.first;
      later = s.later ++ key_of d ∷ [];
      are = more ∙ ap (λ ks. ks ++ key_of d ∷ []) s.are ∙ append_assoc s.first s.later (key_of d ∷ []);
      part = s.part;
      all = all-append P s.later (key_of d ∷ []) s.all (is, tt);
    }
  ]
  split-edit ds (Remove kind name) is s =
      let k = key_at kind name in
      let now : map key_of (remove_from kind name ds) ≡ removed k (s.first ++ s.later) = remove-keys kind name ds ∙ ap (removed k) s.are in
      elim (removed-append k s.first s.later) [
        | inl here ↦ record {
          first = removed k s.first;
          later = s.later;
          are = now ∙ here;
          part = part-less k s.first before s.part;
          all = s.all;
        }
        | inr later ↦ record {
          first = s.first;
          later = removed k s.later;
          are = now ∙ later;
          part = s.part;
          all = all-removed P k s.later s.all;
        }
      ]

  split-all : (edits : List Edit) (ds : List Decl) → ((k : DeclKey) → is_among (edited_keys edits) k ≡ true → P k)
      → IsSplit P before (map key_of ds) → IsSplit P before (map key_of (edited_all ds edits))
  split-all [] ds each s = s
  split-all (e ∷ es) ds each s =
      split-all es (edited ds e) (λ k among. each k (or_right (same_key (edited_key e) k) (is_among (edited_keys es) k) among))
      (split-edit ds e (each (edited_key e) (or_left (same_key (edited_key e) (edited_key e)) (is_among (edited_keys es) (edited_key e))
      (same_key_equiv.refl (edited_key e)))) s)

-- the declarations after edits are some of those before, in their order, and then some that are edited
pub edited-split : (ds : List Decl) (edits : List Edit)
    → IsSplit (λ k. is_among (edited_keys edits) k ≡ true) (map key_of ds) (map key_of (edited_all ds edits))
edited-split ds edits = split-all (λ k. is_among (edited_keys edits) k ≡ true) (map key_of ds) edits ds (λ k among. among)
    (record { first = map key_of ds; later = []; are = sym (append-nil (map key_of ds)); part = part-itself (map key_of ds); all = tt })
