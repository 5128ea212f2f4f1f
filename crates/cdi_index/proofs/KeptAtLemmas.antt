-- What is kept of declarations is at its slot, before a commit and after it.
use Rattle.cdi_index.proofs.Common.{list_any, ◌≡◌, ℕ, Bool, true, false, List, [], ◌∷◌, Option, Some, None, option_map, refl, sym, ap, ◌∙◌}
use Rattle.cdi_index.proofs.Common.{DeclKey, same_key, is_among, same_key_equiv, kept_of, or_parts, suc, zero, ◌+◌, ◌-◌, ◌<◌}
use Rattle.cdi_index.proofs.Common.{cond, slice_get, Change, Kept, Shelf, kept_at, stored, slot_of, stored_at, Stored, IsShelf, IsDistinct}
use Rattle.cdi_index.proofs.Common.{AllByRecursion, subst, applied, stored_as, keys_changed, nat_lt, arith}
use Rattle.std.proofs.lemmas.Bool.{ltb-false}
use Rattle.std.proofs.Math.Nat.{add-zero}
use Rattle.cdi_index.proofs.ChangeLemmas.{among-turned, comes, key-of, slide, Anew, Before, StoredBy}
use Rattle.cdi_index.proofs.ShelfLemmas.{found}
use Rattle.cdi_index.specs.Kept.{IsFreeFrom}
use Rattle.cdi_index.specs.Slots.{kept_after, kept_of_one, unless_among, AreAtSlots}

pub shelf-at : (shelf : Shelf) → IsShelf shelf → AreAtSlots (stored shelf) (kept_at shelf)
shelf-at shelf is = record {
  there = λ k s e at. let it = found (slot_of shelf) (kept_at shelf) is.owns k s e at in (it.there, it.key);
  owned = λ s e at. ap (stored_at (kept_at shelf)) (is.owned s e at) ∙ ap (option_map {U = Stored} (λ x. (s, x))) at;
}

-- ---- after changes

-- of what is not changed it is kept what was
other : (n : ℕ) (cs : List Change) (m : StoredBy) (k : DeclKey) → is_among (keys_changed cs) k ≡ false → applied n cs m k ≡ m k
other n [] m k none = refl
other n (c ∷ cs) m k none =
    let parts = or_parts (same_key c.key k) (is_among (keys_changed cs) k) none in
    ap (λ b. cond b (stored_as n c) (applied (suc n) cs m k)) parts.0 ∙ other (suc n) cs m k parts.1

-- a key that is apart from all is not that of one
apart-from : (k : DeclKey) (cs : List Change) (i : ℕ) (c : Change) → AllByRecursion (λ l. same_key k l ≡ false) (keys_changed cs)
    → slice_get cs i ≡ Some c → same_key k c.key ≡ false
apart-from k [] i c all at = absurd (let none : None ≡ Some c = at in cc)
apart-from k (d ∷ cs) zero c all at = let one : Some d ≡ Some c = at in let same : d ≡ c = cc in ap (λ (x : Change). same_key k x.key) (sym same) ∙ all.0
apart-from k (d ∷ cs) (suc i) c all at = apart-from k cs i c all.1 at

-- of a changed declaration it is what the change made, at the slot of that
own : (n : ℕ) (cs : List Change) (m : StoredBy) (i : ℕ) (c : Change) → IsDistinct same_key (keys_changed cs) → slice_get cs i ≡ Some c
    → applied n cs m c.key ≡ stored_as (n + i) c
unfolding IsDistinct
own n [] m i c distinct at = absurd (let none : None ≡ Some c = at in cc)
own n (d ∷ cs) m zero c distinct at =
    let one : Some d ≡ Some c = at in
    let same : d ≡ c = cc in
    ap (λ (x : Change). cond (same_key x.key c.key) (stored_as n x) (applied (suc n) cs m c.key)) same
    ∙ ap (λ b. cond b (stored_as n c) (applied (suc n) cs m c.key)) (same_key_equiv.refl c.key)
    ∙ ap (λ x. stored_as x c) (sym (add-zero n))
own n (d ∷ cs) m (suc i) c distinct at =
    ap (λ b. cond b (stored_as n d) (applied (suc n) cs m c.key)) (apart-from d.key cs i c distinct.0 at)
    ∙ own (suc n) cs m i c distinct.1 at ∙ ap (λ x. stored_as x c) (slide n i)

module _ (shelf : Shelf) (n : ℕ) (cs : List Change) (keys : List DeclKey) (is : IsShelf shelf) (free : IsFreeFrom n shelf)
    (are : keys_changed cs ≡ keys) (once : IsDistinct same_key keys) where
  abbrev kept : ℕ → Option Kept
  kept s = kept_after n cs keys (kept_at shelf) s

  before-at : (s : ℕ) → s < n → kept s ≡ unless_among keys (kept_at shelf s)
  before-at s less = grind (arith, less)

  after-at : (s i : ℕ) → s ≡ n + i → kept s ≡ kept_of_one (slice_get cs i)
  after-at s i at = grind (arith, at)

  there : (k : DeclKey) (s : ℕ) (e : Kept) → applied n cs (stored shelf) k ≡ Some (s, e) → (kept s ≡ Some e) × (e.key ≡ k)
  there k s e h = elim (comes n cs (stored shelf) k s e h) [
    | Anew i c at slot key was ↦ (after-at s i slot ∙ ap kept_of_one at ∙ was, key-of c e was ∙ key)
    | Before none was ↦
        let at = (shelf-at shelf is).there k s e was in (
          before-at s (free s e at.0) ∙ ap (unless_among keys) at.0
              ∙ ap (λ b. cond b None (Some e))
              (among-turned keys e.key ∙ ap (is_among keys) at.1 ∙ ap (λ ks. is_among ks k) (sym are) ∙ none),
          at.1,
        )
  ]

  owned : (s : ℕ) (e : Kept) → kept s ≡ Some e → applied n cs (stored shelf) e.key ≡ Some (s, e)
  owned s e at = by (nat_lt s n) refl
    where
      still : (o : Option Kept) → kept_at shelf s ≡ o → unless_among keys o ≡ Some e → applied n cs (stored shelf) e.key ≡ Some (s, e)
      still None there-is f = absurd (let none : None ≡ Some e = f in cc)
      still (Some x) there-is f = among (list_any (same_key x.key) keys) refl f
        where
          among : (b : Bool) → list_any (same_key x.key) keys ≡ b → cond b None (Some x) ≡ Some e → applied n cs (stored shelf) e.key ≡ Some (s, e)
          among true g h = absurd (let none : None ≡ Some e = h in cc)
          among false g h =
              let one : Some x ≡ Some e = h in
              let same : x ≡ e = cc in
              ◌∙◌ {b = stored shelf e.key}
              (other n cs (stored shelf) e.key (ap (λ ks. is_among ks e.key) are ∙ ap (λ (y : Kept). is_among keys y.key) (sym same) ∙ sym (among-turned keys x.key) ∙ g))
              ((shelf-at shelf is).owned s e (there-is ∙ ap Some same))

      anew : (i : ℕ) → s ≡ n + i → (o : Option Change) → slice_get cs i ≡ o → kept_of_one o ≡ Some e
          → applied n cs (stored shelf) e.key ≡ Some (s, e)
      anew i slot None there-is f = absurd (let none : None ≡ Some e = f in cc)
      anew i slot (Some c) there-is f =
          let there : applied n cs (stored shelf) c.key ≡ option_map {U = Stored} (λ y. (n + i, y)) (kept_of c) =
          own n cs (stored shelf) i c (subst (IsDistinct same_key) (sym are) once) there-is in
          ap (applied n cs (stored shelf)) (key-of c e f) ∙ there
          ∙ ap (option_map {U = Stored} (λ y. (n + i, y))) f ∙ ap {B = Option Stored} (λ x. Some (x, e)) (sym slot)

      by : (b : Bool) → nat_lt s n ≡ b → applied n cs (stored shelf) e.key ≡ Some (s, e)
      by true less = still (kept_at shelf s) refl (grind (arith, less, at))
      by false more = anew (s - n) (omega (arith, ltb-false s n more)) (slice_get cs (s - n)) refl (grind (arith, more, at))

  pub next-at : AreAtSlots (applied n cs (stored shelf)) kept
  next-at = record { there = there; owned = owned }
