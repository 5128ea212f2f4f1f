-- What is kept at slots, where one is taken out or put in.
use Rattle.cdi_index.proofs.Common.{◌≡◌, ℕ, Bool, true, false, Option, Some, None, option_map, refl, sym, ap, ◌∙◌, DeclKey, same_key}
use Rattle.cdi_index.proofs.Common.{key_exact, false≢true, Kept, cond, same_key_equiv, Stored, nat_eq, eqb-true, stored_at, Result}
use Rattle.cdi_index.proofs.Common.{Ok, Err, OnOk, nat_eq-refl, arith}
use Rattle.std.specs.Result.{IsOk}
use Rattle.cdi_index.proofs.ChangeLemmas.{one-stored}
use Rattle.cdi_index.specs.Kept.{IsOwned, Owns}

abbrev pub Slots : Type 0
Slots = DeclKey → Option ℕ

abbrev pub Entries : Type 0
Entries = ℕ → Option Kept

-- what is found of a declaration
pub record Found (f : Slots) (g : Entries) (k : DeclKey) (s : ℕ) (e : Kept) : Type 0 where
  pub slot : f k ≡ Some s
  pub there : g s ≡ Some e
  pub key : e.key ≡ k

some-key : (e : Kept) (k : DeclKey) → Some e.key ≡ Some k → e.key ≡ k
some-key e k h = cc

module _ (f : Slots) (g : Entries) (owns : Owns f g) where
  -- what stands at the slot of a declaration is of it
  pub own-key : (k : DeclKey) (s : ℕ) (e : Kept) → f k ≡ Some s → g s ≡ Some e → e.key ≡ k
  own-key k s e at there = some-key e k (ap (option_map (λ (x : Kept). x.key)) (sym there) ∙ owns k s at)

  pub found : (k : DeclKey) (s : ℕ) (e : Kept) → stored_at g (f k) ≡ Some (s, e) → Found f g k s e
  found k s e h = by (f k) refl h
    where
      there : (t : ℕ) → f k ≡ Some t → (o : Option Kept) → g t ≡ o → option_map {U = Stored} (λ x. (t, x)) o ≡ Some (s, e)
          → Found f g k s e
      there t at None is x = absurd (let none : None ≡ Some (s, e) = x in cc)
      there t at (Some entry) is x =
          let one = one-stored t s entry e x in
          let here : g s ≡ Some e = ap g (sym one.0) ∙ is ∙ ap Some one.1 in
          record {
            slot = at ∙ ap Some one.0;
            there = here;
            key = own-key k s e (at ∙ ap Some one.0) here;
          }

      by : (o : Option ℕ) → f k ≡ o → stored_at g o ≡ Some (s, e) → Found f g k s e
      by None at x = absurd (let none : None ≡ Some (s, e) = x in cc)
      by (Some t) at x = there t at (g t) refl x

  -- two declarations have no slot in common
  pub one-slot : (k l : DeclKey) (s : ℕ) (e : Kept) → f k ≡ Some s → f l ≡ Some s → g s ≡ Some e → k ≡ l
  one-slot k l s e at other there = sym (own-key k s e at there) ∙ own-key l s e other there

  -- a slot that leads to nothing is that of no declaration
  pub never-free : (k : DeclKey) (s : ℕ) → f k ≡ Some s → g s ≡ None → ⊥
  never-free k s at none =
      let no : None ≡ Some k = ap (option_map (λ (x : Kept). x.key)) (sym none) ∙ owns k s at in absurd cc

-- ---- taken out

module _ (f f' : Slots) (g g' : Entries) (key : DeclKey) (slot : ℕ) (entry : Kept) (owns : Owns f g) (owned : IsOwned f g)
    (at : f key ≡ Some slot) (there : g slot ≡ Some entry)
    (taken : (k : DeclKey) → f' k ≡ cond (same_key key k) None (f k))
    (left : (s : ℕ) → g' s ≡ cond (nat_eq slot s) None (g s)) where
  other-slot : (k : DeclKey) (s : ℕ) → same_key key k ≡ false → f k ≡ Some s → nat_eq slot s ≡ false
  other-slot k s apart found = by (nat_eq slot s) refl
    where
      by : (b : Bool) → nat_eq slot s ≡ b → b ≡ false
      by true e =
          let one : key ≡ k = one-slot f g owns key k slot entry at (found ∙ ap Some (sym (eqb-true slot s e))) there in
          absurd (false≢true (sym apart ∙ ap (same_key key) (sym one) ∙ same_key_equiv.refl key))
      by false e = refl

  pub take-stored : (k : DeclKey) → stored_at g' (f' k) ≡ cond (same_key key k) None (stored_at g (f k))
  take-stored k = grind (arith, other-slot)

  pub take-owns : Owns f' g'
  take-owns k s h = grind (arith, other-slot)

  pub take-owned : IsOwned f' g'
  take-owned s e h = grind (arith, e.key, key_exact, false≢true, nat_eq-refl)

-- ---- put in

module _ (f f' : Slots) (g g' : Entries) (slot : ℕ) (entry : Kept) (owns : Owns f g) (owned : IsOwned f g)
    (absent : f entry.key ≡ None) (free : g slot ≡ None)
    (put : (k : DeclKey) → f' k ≡ cond (same_key entry.key k) (Some slot) (f k))
    (kept : (s : ℕ) → g' s ≡ cond (nat_eq slot s) (Some entry) (g s)) where
  there-now : g' slot ≡ Some entry
  there-now = kept slot ∙ ap (λ b. cond b (Some entry) (g slot)) (nat_eq-refl slot)

  stays-at : (k : DeclKey) (s : ℕ) → f k ≡ Some s → g' s ≡ g s
  stays-at k s at = by (nat_eq slot s) refl
    where
      by : (b : Bool) → nat_eq slot s ≡ b → g' s ≡ g s
      by true e = absurd (never-free f g owns k s at (ap g (sym (eqb-true slot s e)) ∙ free))
      by false e = kept s ∙ ap (λ b. cond b (Some entry) (g s)) e

  pub put-stored : (k : DeclKey) → stored_at g' (f' k) ≡ cond (same_key entry.key k) (Some (slot, entry)) (stored_at g (f k))
  put-stored k = grind (arith, entry.key, stays-at, there-now)

  pub put-owns : Owns f' g'
  put-owns k s h = grind (arith, entry.key, there-now, key_exact, stays-at)

  pub put-owned : IsOwned f' g'
  put-owned s e h = grind (arith, e.key, entry.key, same_key_equiv.refl, eqb-true, key_exact)

-- what is told of a success
pub on-ok : {T E P : Type 0} (r : Result T E) → IsOk r → OnOk r P → P
on-ok (Ok x) is p = p
on-ok (Err e) is p = absurd (false≢true is)
