-- Lists of declarations of which no two have one key.
use Rattle.cdi_model.proofs.Common.{◌≡◌, ◌≢◌, ◌+◌, ◌≤◌, ℕ, Bool, true, false, cond, List, [], ◌∷◌, ◌++◌, length, is_some, nat_le, inl, inr}
use Rattle.cdi_model.proofs.Common.{refl, sym, ap, ◌∙◌, subst, arith, AllByRecursion, IsDistinct, cases_Bool, both_ways, key_of, kind_of}
use Rattle.cdi_model.proofs.Common.{name_of_decl, same_key, same_key_equiv, find_decl, put_in, remove_from, is_too_many, keys_in, AreListed}
use Rattle.cdi_model.proofs.Common.{Decl, Kind, DeclKey}
use Rattle.std.specs.List.{list_any}
use Rattle.std.proofs.lemmas.{Bool.leb-false, List.Elements.All-from_recursion, List.Kept.AllPairs-cons, Map.Keys.IsDistinct-push}
use Rattle.cdi_model.proofs.EntryLemmas.{key_exact}
use Rattle.cdi_model.specs.DeclList.{AreDistinct}

other_key : (k l : DeclKey) → same_key k l ≡ false → k ≢ l
other_key k l other same = both_ways (same_key k l) other (ap (same_key k) (sym same) ∙ same_key_equiv.refl k)

-- no two are of one kind and name
pub listed-distinct : (ds : List Decl) → IsDistinct same_key (keys_in ds) → AreDistinct ds
unfolding IsDistinct
listed-distinct [] distinct = λ i j d before within. absurd (omega (arith, within))
listed-distinct (d ∷ ds) distinct =
    AllPairs-cons (λ d e. key_of d ≢ key_of e) d ds
    (All-from_recursion (λ e. key_of d ≢ key_of e) ds (others ds distinct.0)) (listed-distinct ds distinct.1)
  where
    others : (es : List Decl) → AllByRecursion (λ k. same_key (key_of d) k ≡ false) (keys_in es)
        → AllByRecursion (λ e. key_of d ≢ key_of e) es
    others [] h = tt
    others (e ∷ es) h = (other_key (key_of d) (key_of e) h.0, others es h.1)

-- ---- a put

-- the keys after a put
keys-put : (d : Decl) (ds : List Decl)
    → keys_in (put_in ds d) ≡ cond (is_some (find_decl (kind_of d) (name_of_decl d) ds)) (keys_in ds) (keys_in ds ++ key_of d ∷ [])
keys-put d [] = refl
keys-put d (e ∷ es) = elim (cases_Bool (same_key (key_of d) (key_of e))) [
  | inl same ↦ rw same (ap (λ k. k ∷ keys_in es) (key_exact (key_of d) (key_of e) same))
  | inr other ↦ rw other (ap (λ ks. key_of e ∷ ks) (keys-put d es) ∙ behind (is_some (find_decl (kind_of d) (name_of_decl d) es)))
]
  where
    behind : (b : Bool) → key_of e ∷ cond b (keys_in es) (keys_in es ++ key_of d ∷ [])
        ≡ cond b (key_of e ∷ keys_in es) (key_of e ∷ keys_in es ++ key_of d ∷ [])
    behind true = refl
    behind false = refl

none_found : (d : Decl) (ds : List Decl) → is_some (find_decl (kind_of d) (name_of_decl d) ds) ≡ false
    → list_any (same_key (key_of d)) (keys_in ds) ≡ false
none_found d [] h = refl
none_found d (e ∷ es) h = elim (cases_Bool (same_key (key_of d) (key_of e))) [
  | inl same ↦ absurd (let bad : true ≡ false = rw same at h in cc)
  | inr other ↦ rw other (none_found d es (rw other at h))
]

distinct-put : (d : Decl) (ds : List Decl) → IsDistinct same_key (keys_in ds) → IsDistinct same_key (keys_in (put_in ds d))
distinct-put d ds distinct = elim (cases_Bool (is_some (find_decl (kind_of d) (name_of_decl d) ds))) [
  | inl found ↦ subst (IsDistinct same_key) (sym (let keys = keys-put d ds in rw found at keys)) distinct
  | inr none ↦ subst (IsDistinct same_key) (sym (let keys = keys-put d ds in rw none at keys))
      (IsDistinct-push same_key_equiv (keys_in ds) (key_of d) distinct (none_found d ds none))
]

length-put : (d : Decl) (ds : List Decl)
    → length (put_in ds d) ≡ length ds + cond (is_some (find_decl (kind_of d) (name_of_decl d) ds)) 0 1
length-put d [] = refl
length-put d (e ∷ es) = grind (arith, length-put d es)

-- where a declaration is not one too many
pub listed-put : (d : Decl) (ds : List Decl) → AreListed ds → is_too_many ds d ≡ false → AreListed (put_in ds d)
listed-put d ds listed room = grind (arith, listed.distinct, listed.count, distinct-put, is_some, length-put, length, nat_le, leb-false)

-- ---- a removal

none-removed : (key : DeclKey) (kind : Kind) (name : List ℕ) (ds : List Decl) → AllByRecursion (λ k. same_key key k ≡ false) (keys_in ds)
    → AllByRecursion (λ k. same_key key k ≡ false) (keys_in (remove_from kind name ds))
none-removed key kind name [] h = tt
none-removed key kind name (d ∷ ds) h = grind (arith, none-removed key kind name ds h.1, h.1, h.0)

distinct-removed : (kind : Kind) (name : List ℕ) (ds : List Decl) → IsDistinct same_key (keys_in ds)
    → IsDistinct same_key (keys_in (remove_from kind name ds))
unfolding IsDistinct
distinct-removed kind name [] distinct = distinct
distinct-removed kind name (d ∷ ds) distinct = elim (cases_Bool (same_key (record { kind = kind; name = name }) (key_of d))) [
  | inl same ↦ rw same distinct.1
  | inr other ↦ rw other (none-removed (key_of d) kind name ds distinct.0, distinct-removed kind name ds distinct.1)
]

length-removed : (kind : Kind) (name : List ℕ) (ds : List Decl) → length (remove_from kind name ds) ≤ length ds
length-removed kind name [] = omega arith
length-removed kind name (d ∷ ds) = grind (arith, length-removed kind name ds)

pub listed-removed : (kind : Kind) (name : List ℕ) (ds : List Decl) → AreListed ds → AreListed (remove_from kind name ds)
listed-removed kind name ds listed = grind (arith, listed.distinct, listed.count, distinct-removed, length-removed)

-- ---- one after another

-- a declaration whose key none of those before it has is put last
pub put-last : (d : Decl) (ds rest : List Decl) → IsDistinct same_key (keys_in (ds ++ d ∷ rest)) → put_in ds d ≡ ds ++ d ∷ []
unfolding IsDistinct
put-last d [] rest distinct = refl
put-last d (e ∷ es) rest distinct = elim (cases_Bool (same_key (key_of d) (key_of e))) [
  | inl same ↦ absurd (both_ways (same_key (key_of e) (key_of d)) (other es distinct.0) (same_key_equiv.symm (key_of e) (key_of d) ∙ same))
  | inr other ↦ rw other (ap (λ l. e ∷ l) (put-last d es rest distinct.1))
]
  where
    other : (fs : List Decl) → AllByRecursion (λ k. same_key (key_of e) k ≡ false) (keys_in (fs ++ d ∷ rest))
        → same_key (key_of e) (key_of d) ≡ false
    other [] all = all.0
    other (f ∷ fs) all = other fs all.1

pub listed-nil : AreListed []
unfolding IsDistinct
listed-nil = record { distinct = tt; count = omega arith }
