-- Declarations that replaced others at their places.
use Rattle.cdi_model.proofs.Common.{◌≡◌, ◌≢◌, ◌<◌, ℕ, zero, suc, nat_eq, Bool, true, false, List, [], ◌∷◌, ◌++◌, length, map, Some, None}
use Rattle.cdi_model.proofs.Common.{refl, sym, ap, ◌∙◌, subst, slice_get, slice_set, arith, AllByRecursion, eqb-true, length-set, is_marked}
use Rattle.cdi_model.proofs.Common.{key_of, changed_by, is_at, keys_in, AreMarked, Decl, Replaced}
use Rattle.std.proofs.lemmas.{Bool.eqb-false, List.set-set, List.set_comm}
use Rattle.cdi_model.proofs.EntryLemmas.{key_exact}
use Rattle.cdi_model.proofs.KeptLemmas.{has_key}
use Rattle.cdi_model.proofs.PlaceLemmas.{First, Nowhere}

pub get-set_same : {X : Type 0} (xs : List X) (p : ℕ) (x : X) → p < length xs → slice_get (slice_set xs p x) p ≡ Some x
get-set_same [] p x within = absurd (omega arith)
get-set_same (y ∷ xs) zero x within = refl
get-set_same (y ∷ xs) (suc p) x within = get-set_same xs p x (omega arith)

pub get-set_other : {X : Type 0} (xs : List X) (q p : ℕ) (x : X) → q ≢ p → slice_get (slice_set xs q x) p ≡ slice_get xs p
get-set_other [] q p x other = refl
get-set_other (y ∷ xs) zero zero x other = absurd (other refl)
get-set_other (y ∷ xs) zero (suc p) x other = refl
get-set_other (y ∷ xs) (suc q) zero x other = refl
get-set_other (y ∷ xs) (suc q) (suc p) x other = get-set_other xs q p x (λ e. other (ap suc e))

pub length-changed : (rs : List Replaced) (ds : List Decl) → length (changed_by rs ds) ≡ length ds
length-changed [] ds = refl
length-changed (r ∷ rs) ds = length-set (changed_by rs ds) r.place r.decl.value ∙ length-changed rs ds

-- ---- what stands at a place

pub replaced_first : (rs : List Replaced) (ds : List Decl) (p i : ℕ) (r : Replaced) → First (is_at p) i rs → slice_get rs i ≡ Some r
    → p < length ds → slice_get (changed_by rs ds) p ≡ Some r.decl.value
replaced_first [] ds p i r at found within = absurd at
replaced_first (s ∷ rs) ds p zero r at found within =
    grind (arith, s.place, s.decl.value, eqb-true, length-changed, slice_get, slice_set, get-set_same)
replaced_first (s ∷ rs) ds p (suc i) r at found within =
    get-set_other (changed_by rs ds) s.place p s.decl.value (eqb-false s.place p at.0) ∙ replaced_first rs ds p i r at.1 found within

pub replaced_nowhere : (rs : List Replaced) (ds : List Decl) (p : ℕ) → Nowhere (is_at p) rs
    → slice_get (changed_by rs ds) p ≡ slice_get ds p
replaced_nowhere [] ds p none = refl
replaced_nowhere (s ∷ rs) ds p none =
    get-set_other (changed_by rs ds) s.place p s.decl.value (eqb-false s.place p none.0) ∙ replaced_nowhere rs ds p none.1

-- past the end
pub replaced_past : (rs : List Replaced) (ds : List Decl) (p : ℕ) → slice_get ds p ≡ None → slice_get (changed_by rs ds) p ≡ None
replaced_past [] ds p h = h
replaced_past (s ∷ rs) ds p h = past-set (changed_by rs ds) s.place p s.decl.value (replaced_past rs ds p h)
  where
    past-set : (xs : List Decl) (q p : ℕ) (x : Decl) → slice_get xs p ≡ None → slice_get (slice_set xs q x) p ≡ None
    past-set [] q p x h = h
    past-set (y ∷ xs) q zero x h = absurd (cc)
    past-set (y ∷ xs) zero (suc p) x h = h
    past-set (y ∷ xs) (suc q) (suc p) x h = past-set xs q p x h

-- ---- one more is replaced

-- at a place at which one was
pub replaced_again : (rs : List Replaced) (ds : List Decl) (i : ℕ) (r : Replaced) → First (is_at r.place) i rs
    → changed_by (slice_set rs i r) ds ≡ slice_set (changed_by rs ds) r.place r.decl.value
replaced_again [] ds i r at = absurd at
replaced_again (s ∷ rs) ds zero r at = grind (arith, r.place, s.decl.value, r.decl.value, s.place, set-set, slice_set, eqb-true)
replaced_again (s ∷ rs) ds (suc i) r at =
    ap (λ ds. slice_set ds s.place s.decl.value) (replaced_again rs ds i r at.1)
    ∙ set_comm (changed_by rs ds) r.place s.place r.decl.value s.decl.value (λ e. eqb-false s.place r.place at.0 (sym e))

-- at a place at which none was
pub replaced_more : (rs : List Replaced) (ds : List Decl) (r : Replaced) → Nowhere (is_at r.place) rs
    → changed_by (rs ++ r ∷ []) ds ≡ slice_set (changed_by rs ds) r.place r.decl.value
replaced_more [] ds r none = refl
replaced_more (s ∷ rs) ds r none =
    ap (λ ds. slice_set ds s.place s.decl.value) (replaced_more rs ds r none.1)
    ∙ set_comm (changed_by rs ds) r.place s.place r.decl.value s.decl.value (λ e. eqb-false s.place r.place none.0 (sym e))

-- a declaration of the key at the place leaves the keys
pub keys-set : (d : Decl) (ds : List Decl) (p : ℕ) → First (has_key (key_of d)) p ds → keys_in (slice_set ds p d) ≡ keys_in ds
keys-set d [] p at = absurd at
keys-set d (e ∷ es) zero at = ap (λ k. k ∷ keys_in es) (key_exact (key_of d) (key_of e) at)
keys-set d (e ∷ es) (suc p) at = ap (λ ks. key_of e ∷ ks) (keys-set d es p at.1)

-- ---- marks of the places

marked-still : (marks : List Bool) (p q : ℕ) → is_marked marks q ≡ true → is_marked (slice_set marks p true) q ≡ true
marked-still [] p q m = m
marked-still (n ∷ ns) zero zero m = refl
marked-still (n ∷ ns) zero (suc q) m = m
marked-still (n ∷ ns) (suc p) zero m = m
marked-still (n ∷ ns) (suc p) (suc q) m = marked-still ns p q m

pub marked-set : (marks : List Bool) (rs : List Replaced) (p : ℕ) → AreMarked marks rs → AreMarked (slice_set marks p true) rs
marked-set marks [] p all = tt
marked-set marks (s ∷ rs) p all = (marked-still marks p s.place all.0, marked-set marks rs p all.1)

-- none is replaced at a place that is not marked
pub unmarked-nowhere : (marks : List Bool) (rs : List Replaced) (p : ℕ) → AreMarked marks rs → is_marked marks p ≡ false
    → Nowhere (is_at p) rs
unmarked-nowhere marks [] p all m = tt
unmarked-nowhere marks (s ∷ rs) p all m = grind (arith, unmarked-nowhere marks rs p all.1 m, s.place, all.1, all.0, nat_eq, eqb-true)

-- ---- copies

-- a place, and what stands there
abbrev pub pair_of : Replaced → ℕ × Decl
pair_of r = (r.place, r.decl.value)

by-pairs : List (ℕ × Decl) → List Decl → List Decl
by-pairs [] ds = ds
by-pairs (r ∷ rs) ds = slice_set (by-pairs rs ds) r.0 r.1

changed-pairs : (rs : List Replaced) (ds : List Decl) → changed_by rs ds ≡ by-pairs (map pair_of rs) ds
unfolding by-pairs
changed-pairs [] ds = refl
changed-pairs (r ∷ rs) ds = ap (λ ds. slice_set ds r.place r.decl.value) (changed-pairs rs ds)

-- where places and declarations are the same, so is what stands
pub same-changed : (rs ss : List Replaced) → map pair_of rs ≡ map pair_of ss → (ds : List Decl) → changed_by rs ds ≡ changed_by ss ds
same-changed rs ss same ds = changed-pairs rs ds ∙ ap (λ ps. by-pairs ps ds) same ∙ sym (changed-pairs ss ds)

pub same-marked : (rs ss : List Replaced) → map pair_of rs ≡ map pair_of ss → (marks : List Bool) → AreMarked marks ss → AreMarked marks rs
same-marked rs ss same marks all = back rs (subst (AllByRecursion (λ p. is_marked marks p.0 ≡ true)) (sym same) (forth ss all))
  where
    forth : (rs : List Replaced) → AreMarked marks rs → AllByRecursion (λ p. is_marked marks p.0 ≡ true) (map pair_of rs)
    forth [] h = tt
    forth (r ∷ rs) h = (h.0, forth rs h.1)

    back : (rs : List Replaced) → AllByRecursion (λ p. is_marked marks p.0 ≡ true) (map pair_of rs) → AreMarked marks rs
    back [] h = tt
    back (r ∷ rs) h = (h.0, back rs h.1)
