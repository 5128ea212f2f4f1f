-- Changes that are taken over one after another, and those that are made of declarations.
use Rattle.cdi_index.proofs.Common.{◌≡◌, ℕ, Bool, true, false, ◌&&◌, ◌||◌, List, [], ◌∷◌, map, Option, Some, None, option_map, refl, sym}
use Rattle.cdi_index.proofs.Common.{ap, ◌∙◌, list_any, Decl, Kind, DeclKey, same_key, keys_changed, is_among, key_exact, Made, made_of, ◌++◌, false≢true}
use Rattle.cdi_index.proofs.Common.{suc, ◌+◌, cond, length, filter, is_some, slice_get, same_key_equiv, Change, is_of_kind, Stored, made_in}
use Rattle.cdi_index.proofs.Common.{applied, change_of, kept_of, Kept, is_made, stored_as, any-same, arith}
use Rattle.std.proofs.Math.Nat.{add-zero, add-suc, suc-add}

abbrev pub StoredBy : Type 0
StoredBy = DeclKey → Option Stored

-- one slot and one thing made are kept where one thing is
slot-or : ℕ → Option Stored → ℕ
slot-or slot None = slot
slot-or slot (Some stored) = stored.0

kept-or : Kept → Option Stored → Kept
kept-or kept None = kept
kept-or kept (Some stored) = stored.1

abbrev stored_as_one : ℕ → Kept → Option Stored
stored_as_one n kept = Some (n, kept)

pub one-stored : (n s : ℕ) (x y : Kept) → stored_as_one n x ≡ stored_as_one s y → (n ≡ s) × (x ≡ y)
unfolding slot-or kept-or
one-stored n s x y e = (ap (slot-or n) e, ap (kept-or x) e)

pub slide : (n m : ℕ) → suc n + m ≡ n + suc m
slide n m = suc-add n m ∙ sym (add-suc n m)

applied-push : (n : ℕ) (cs : List Change) (c : Change) (m : StoredBy) (k : DeclKey)
    → applied n (cs ++ c ∷ []) m k ≡ applied n cs (λ l. cond (same_key c.key l) (stored_as (n + length cs) c) (m l)) k
applied-push n [] c m k = ap (λ i. cond (same_key c.key k) (stored_as i c) (m k)) (sym (add-zero n))
applied-push n (d ∷ cs) c m k = grind (arith, applied-push (suc n) cs c m k, d.key, c.key, slide)

pub applied-same : (n : ℕ) (cs : List Change) (m o : StoredBy) → ((k : DeclKey) → m k ≡ o k) → (k : DeclKey)
    → applied n cs m k ≡ applied n cs o k
applied-same n [] m o h k = h k
applied-same n (c ∷ cs) m o h k = ap (λ x. cond (same_key c.key k) (stored_as n c) x) (applied-same (suc n) cs m o h k)

-- the last change is taken over, at its slot
pub applied-next : (n : ℕ) (cs rest : List Change) (c : Change) (m o : StoredBy) → cs ≡ rest ++ c ∷ []
    → ((k : DeclKey) → o k ≡ cond (same_key c.key k) (stored_as (n + length rest) c) (m k))
    → (k : DeclKey) → applied n rest o k ≡ applied n cs m k
applied-next n cs rest c m o is made k = grind (arith, c.key, applied-same, applied-push)

-- what is kept of a declaration is at the slot of a change, or where it was
pub data Comes (n : ℕ) (cs : List Change) (m : StoredBy) (k : DeclKey) (s : ℕ) (kept : Kept) : Type 0 where
  Anew : (i : ℕ) (c : Change) → slice_get cs i ≡ Some c → s ≡ n + i → c.key ≡ k → kept_of c ≡ Some kept → Comes n cs m k s kept
  Before : is_among (keys_changed cs) k ≡ false → m k ≡ Some (s, kept) → Comes n cs m k s kept

pub comes : (n : ℕ) (cs : List Change) (m : StoredBy) (k : DeclKey) (s : ℕ) (kept : Kept) → applied n cs m k ≡ Some (s, kept)
    → Comes n cs m k s kept
comes n [] m k s kept e = Before refl e
comes n (c ∷ cs) m k s kept e = by (same_key c.key k) refl e (comes (suc n) cs m k s kept)
  where
    here : (o : Option Kept) → kept_of c ≡ o → same_key c.key k ≡ true → option_map {U = Stored} (λ x. (n, x)) o ≡ Some (s, kept)
        → Comes n (c ∷ cs) m k s kept
    here None is one f = absurd (let none : None ≡ Some (s, kept) = f in cc)
    here (Some x) is one f =
        let at = one-stored n s x kept f in
        Anew 0 c refl (sym at.0 ∙ sym (add-zero n)) (key_exact c.key k one) (is ∙ ap Some at.1)

    by : (b : Bool) → same_key c.key k ≡ b → cond b (stored_as n c) (applied (suc n) cs m k) ≡ Some (s, kept)
        → (applied (suc n) cs m k ≡ Some (s, kept) → Comes (suc n) cs m k s kept) → Comes n (c ∷ cs) m k s kept
    by true is f more = here (kept_of c) refl is f
    by false is f more = elim (more f) [
      | Anew i d at slot key was ↦ Anew (suc i) d at (slot ∙ slide n i) key was
      | Before none was ↦ Before (ap (λ b. b || is_among (keys_changed cs) k) is ∙ none) was
    ]

-- what is kept of a change
abbrev kept_by : Change → Made → Kept
kept_by c made = record { key = c.key; number = c.number; made = made }

kept-of : (c : Change) (e : Kept) → kept_of c ≡ Some e → (made : Made) × (c.made ≡ Some made) × (kept_by c made ≡ e)
kept-of c e at = by c.made refl
  where
    by : (o : Option Made) → c.made ≡ o → (made : Made) × (c.made ≡ Some made) × (kept_by c made ≡ e)
    by None none = absurd (let no : None ≡ Some e = sym (ap (option_map (kept_by c)) none) ∙ at in cc)
    by (Some x) is =
        let one : Some (kept_by c x) ≡ Some e = sym (ap (option_map (kept_by c)) is) ∙ at in
        (x, is, (let same : kept_by c x ≡ e = cc in same))

pub made-of : (c : Change) (e : Kept) → kept_of c ≡ Some e → c.made ≡ Some e.made
made-of c e at = let it = kept-of c e at in it.1 ∙ ap (λ (x : Kept). Some x.made) it.2

pub key-of : (c : Change) (e : Kept) → kept_of c ≡ Some e → e.key ≡ c.key
key-of c e at = ap (λ (x : Kept). x.key) (sym (kept-of c e at).2)

pub number-of : (c : Change) (e : Kept) → kept_of c ≡ Some e → e.number ≡ c.number
number-of c e at = ap (λ (x : Kept). x.number) (sym (kept-of c e at).2)

-- ---- changes that are made of the declarations of some keys

made-as : (n : ℕ) (c : Change) → made_in (stored_as n c) ≡ c.made
made-as n c = grind (arith, c.made)

-- what is kept after them is what is made, and of other declarations what was kept
pub applied-made : (n : ℕ) (es : List Decl) (numbers : DeclKey → ℕ) (ks : List DeclKey) (m : StoredBy) (k : DeclKey)
    → made_in (applied n (map (change_of es numbers) ks) m k) ≡ cond (is_among ks k) (made_of es k) (made_in (m k))
applied-made n es numbers [] m k = refl
applied-made n es numbers (l ∷ ks) m k = by (same_key l k) refl (applied-made (suc n) es numbers ks m k)
  where
    by : (b : Bool) → same_key l k ≡ b
        → made_in (applied (suc n) (map (change_of es numbers) ks) m k) ≡ cond (is_among ks k) (made_of es k) (made_in (m k))
        → made_in (cond b (stored_as n (change_of es numbers l)) (applied (suc n) (map (change_of es numbers) ks) m k))
        ≡ cond (b || is_among ks k) (made_of es k) (made_in (m k))
    by true e more = made-as n (change_of es numbers l) ∙ ap (made_of es) (key_exact l k e)
    by false e more = more

pub count-made : (kind : Kind) (es : List Decl) (numbers : DeclKey → ℕ) (ks : List DeclKey)
    → length (filter (is_made kind) (map (change_of es numbers) ks))
    ≡ length (filter (λ k. is_of_kind kind k && is_some (made_of es k)) ks)
count-made kind es numbers [] = refl
count-made kind es numbers (k ∷ ks) = grind (arith, count-made kind es numbers ks)

-- ---- keys among others

pub among-turned : (ks : List DeclKey) (k : DeclKey) → list_any (same_key k) ks ≡ is_among ks k
among-turned ks k = any-same (same_key k) (λ l. same_key l k) ks (λ l. same_key_equiv.symm k l)

-- what no key of some has none among them has
pub none-of : (p : DeclKey → Bool) (keys : List DeclKey) (key : DeclKey) → list_any p keys ≡ false → is_among keys key ≡ true
    → p key ≡ false
none-of p [] key none among = absurd (false≢true among)
none-of p (l ∷ keys) key none among = by (same_key l key) refl (p l) refl (none-of p keys key)
  where
    by : (b : Bool) → same_key l key ≡ b → (c : Bool) → p l ≡ c
        → (list_any p keys ≡ false → is_among keys key ≡ true → p key ≡ false) → p key ≡ false
    by true e true f more = absurd (false≢true (sym none ∙ ap (λ x. x || list_any p keys) f))
    by true e false f more = ap p (sym (key_exact l key e)) ∙ f
    by false e true f more = absurd (false≢true (sym none ∙ ap (λ x. x || list_any p keys) f))
    by false e false f more = more (sym (ap (λ x. x || list_any p keys) f) ∙ none)
        (sym (ap (λ x. x || is_among keys key) e) ∙ among)

pub any-of : (p : DeclKey → Bool) (keys : List DeclKey) (key : DeclKey) → p key ≡ true → is_among keys key ≡ true → list_any p keys ≡ true
any-of p [] key passes among = absurd (false≢true among)
any-of p (l ∷ keys) key passes among = grind (arith, any-of p keys key passes, key_exact)
