-- Changes that are taken over one after another, from the last on.
use Rattle.cdi_index.proofs.Common.{◌≡◌, ℕ, Bool, true, false, List, [], ◌∷◌, Option, Some, None, option_map, refl, sym, ap, ◌∙◌, DeclKey}
use Rattle.cdi_index.proofs.Common.{same_key, kept_of, ◌++◌, false≢true, inl, inr, Word, Listing, Kept, Shelf, kept_at, stored, IsShelf}
use Rattle.cdi_index.proofs.Common.{IsSound, suc, ◌+◌, cond, length, same_key_equiv, Change, Stored, applied, stored_as, ◌≢◌, ◌<◌, arith}
use Rattle.cdi_index.proofs.Common.{◌≤◌, ◌⊎◌, length-append, is_listed, slot_of}
use Rattle.cdi_index.proofs.ChangeLemmas.{applied-next, one-stored, StoredBy}
use Rattle.cdi_index.proofs.ShelfLemmas.{found, Found}

-- what is kept is at slots below n, or at those that so many of the changes, the last ones, were given
abbrev pub IsFreeBetween : ℕ → ℕ → ℕ → Shelf → Type 0
IsFreeBetween n left all shelf = (s : ℕ) (e : Kept) → kept_at shelf s ≡ Some e → (s < n) ⊎ ((n + left ≤ s) × (s < n + all))

-- what is kept after changes is at the slot of one, or was there
applied-from : (n : ℕ) (cs : List Change) (m : StoredBy) (k : DeclKey) (s : ℕ) (e : Kept) → applied n cs m k ≡ Some (s, e)
    → ((n ≤ s) × (s < n + length cs)) ⊎ (m k ≡ Some (s, e))
applied-from n [] m k s e at = inr at
applied-from n (c ∷ cs) m k s e at = grind (arith, applied-from (suc n) cs m k s e, c.key, kept_of c, one-stored)

module _ (n all : ℕ) (cs rest : List Change) (c : Change) (is : cs ≡ rest ++ c ∷ []) (shelf : Shelf)
    (free : IsFreeBetween n (length cs) all shelf) where
  abbrev slot : ℕ
  slot = n + length rest

  longer : length cs ≡ length rest + 1
  longer = ap length is ∙ length-append rest (c ∷ [])

  apart : (e : Kept) → kept_at shelf slot ≡ Some e → ⊥
  apart e there = grind (arith, longer)

  module _ (new : Shelf) (few : length cs ≤ all)
      (others : (s : ℕ) (e : Kept) → kept_at new s ≡ Some e → (s ≡ slot) ⊎ (kept_at shelf s ≡ Some e)) where
    -- those of the changes before it stay free
    pub free-left : IsFreeBetween n (length rest) all new
    free-left s e there = elim (others s e there) [
      | inl at ↦ inr (omega (arith, at), omega (arith, at, few, longer))
      | inr was ↦ elim (free s e was) [
        | inl below ↦ inl below
        | inr between ↦ inr (omega (arith, between.0, longer), between.1)
      ]
    ]

  module _ (new : Shelf) (shelved : IsShelf shelf) (old more : List Listing)
      (made : (k : DeclKey) → stored new k ≡ cond (same_key c.key k) (stored_as slot c) (stored shelf k))
      (sound : IsSound (applied n cs (stored shelf)) old)
      (listed : (w : Word) (s : ℕ) → option_map (λ m. m.0) (stored shelf c.key) ≢ Some s → is_listed old w s ≡ true
      → is_listed more w s ≡ true) where
    -- what remains kept is not at the slot that the changed declaration had
    other-slot : (k : DeclKey) (s : ℕ) (m : Kept) → applied n rest (stored new) k ≡ Some (s, m)
        → option_map (λ x. x.0) (stored shelf c.key) ≡ Some s → ⊥
    other-slot k s m at had = by (stored shelf c.key) refl had
      where
        old-one : (x : Kept) → stored shelf c.key ≡ Some (s, x) → ⊥
        old-one x was =
            let there = found (slot_of shelf) (kept_at shelf) shelved.owns c.key s x was in
            elim (applied-from n rest (stored new) k s m at) [
              | inl between ↦ elim (free s x there.there) [
                | inl below ↦ omega (arith, below, between.0)
                | inr above ↦ omega (arith, above.0, between.1, longer)
              ]
              | inr kept ↦ here (same_key c.key k) refl (sym (made k) ∙ kept)
            ]
          where
            it-is : Found (slot_of shelf) (kept_at shelf) c.key s x
            it-is = found (slot_of shelf) (kept_at shelf) shelved.owns c.key s x was

            at_slot : (o : Option Kept) → option_map {U = Stored} (λ y. (slot, y)) o ≡ Some (s, m) → slot ≡ s
            at_slot None f = absurd (let none : None ≡ Some (s, m) = f in cc)
            at_slot (Some y) f = (one-stored slot s y m f).0

            here : (b : Bool) → same_key c.key k ≡ b → cond b (stored_as slot c) (stored shelf k) ≡ Some (s, m) → ⊥
            here true e f = apart x (ap (kept_at shelf) (at_slot (kept_of c) f) ∙ it-is.there)
            here false e f =
                let it = found (slot_of shelf) (kept_at shelf) shelved.owns k s m f in
                let one : Some x ≡ Some m = sym it-is.there ∙ it.there in
                let same : x ≡ m = cc in
                let keys : c.key ≡ k = sym it-is.key ∙ ap (λ (y : Kept). y.key) same ∙ it.key in
                false≢true (sym e ∙ ap (same_key c.key) (sym keys) ∙ same_key_equiv.refl c.key)

        by : (o : Option Stored) → stored shelf c.key ≡ o → option_map (λ x. x.0) o ≡ Some s → ⊥
        by None was f = absurd (let none : None ≡ Some s = f in cc)
        by (Some x) was f =
            let one : Some x.0 ≡ Some s = f in
            let same : x.0 ≡ s = cc in
            old-one x.1 (was ∙ ap (λ i. Some (i, x.1)) same)

    pub sound-left : IsSound (applied n rest (stored new)) more
    sound-left w k s m at has = listed w s (other-slot k s m at)
        (sound w k s m (sym (applied-next n cs rest c (stored shelf) (stored new) is made k) ∙ at) has)
