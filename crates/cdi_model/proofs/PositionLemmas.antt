-- Where the declaration of a kind and name stands.
use Rattle.cdi_model.proofs.Common.{◌≡◌, ℕ, zero, suc, Bool, true, false, cond, List, [], ◌∷◌, Option, Some, None, is_some, option_map}
use Rattle.cdi_model.proofs.Common.{refl, sym, ap, ◌∙◌, slice_get, position, keys_of, position-cons, Decl, Kind, DeclKey, key_of}
use Rattle.cdi_model.proofs.Common.{name_of_decl, same_key, key_at, find_decl, is_of, Entry, decls_of, AreKeyed}
use Rattle.cdi_model.proofs.EntryLemmas.{key_exact}

-- by the keys of the map
pub position-keys : (key : DeclKey) (es : List Entry) → AreKeyed es
    → position (same_key key) (keys_of es) ≡ position (is_of key.kind key.name) (decls_of es)
position-keys key [] h = refl
position-keys key (e ∷ es) h =
    position-cons (same_key key) e.0 (keys_of es)
    ∙ ap (λ k. cond (same_key key k) (Some 0) (option_map suc (position (same_key key) (keys_of es)))) h.0
    ∙ ap (λ o. cond (same_key key (key_of e.1.value)) (Some 0) (option_map suc o)) (position-keys key es h.1)
    ∙ sym (position-cons (is_of key.kind key.name) e.1.value (decls_of es))

-- the declaration that is found stands there
pub position-there : (kind : Kind) (name : List ℕ) (ds : List Decl) (i : ℕ) → position (is_of kind name) ds ≡ Some i
    → slice_get ds i ≡ find_decl kind name ds
position-there kind name [] i h = absurd (cc)
position-there kind name (d ∷ ds) i h = by (is_of kind name d) refl (position (is_of kind name) ds) refl i
    (sym (position-cons (is_of kind name) d ds) ∙ h) (position-there kind name ds)
  where
    by : (b : Bool) → is_of kind name d ≡ b → (o : Option ℕ) → position (is_of kind name) ds ≡ o → (i : ℕ)
        → cond (is_of kind name d) (Some 0) (option_map suc (position (is_of kind name) ds)) ≡ Some i
        → ((j : ℕ) → position (is_of kind name) ds ≡ Some j → slice_get ds j ≡ find_decl kind name ds)
        → slice_get (d ∷ ds) i ≡ find_decl kind name (d ∷ ds)
    by true e o f zero g more = rw e refl
    by true e o f (suc i) g more = absurd (let no : Some 0 ≡ Some (suc i) = rw e at g in cc)
    by false e None f i g more = absurd (let no : None ≡ Some i = rw (e, f) at g in cc)
    by false e (Some j) f zero g more = absurd (let no : Some (suc j) ≡ Some zero = rw (e, f) at g in cc)
    by false e (Some j) f (suc i) g more =
        let same : Some (suc j) ≡ Some (suc i) = rw (e, f) at g in
        let one : j ≡ i = cc in
        rw e (more i (f ∙ ap Some one))

-- one is found just where there is a place
pub position-found : (kind : Kind) (name : List ℕ) (ds : List Decl)
    → is_some (position (is_of kind name) ds) ≡ is_some (find_decl kind name ds)
position-found kind name [] = refl
position-found kind name (d ∷ ds) = by (is_of kind name d) refl (position (is_of kind name) ds) refl (position-found kind name ds)
  where
    by : (b : Bool) → is_of kind name d ≡ b → (o : Option ℕ) → position (is_of kind name) ds ≡ o
        → is_some (position (is_of kind name) ds) ≡ is_some (find_decl kind name ds)
        → is_some (position (is_of kind name) (d ∷ ds)) ≡ is_some (find_decl kind name (d ∷ ds))
    by true e o f more = rw (position-cons (is_of kind name) d ds, e) refl
    by false e None f more = rw (position-cons (is_of kind name) d ds, e, f) (ap is_some (sym f) ∙ more)
    by false e (Some j) f more = rw (position-cons (is_of kind name) d ds, e, f) (ap is_some (sym f) ∙ more)

-- a declaration that is found has the name
pub name-found : (kind : Kind) (name : List ℕ) (ds : List Decl) (d : Decl) → find_decl kind name ds ≡ Some d → name_of_decl d ≡ name
name-found kind name [] d h = absurd (cc)
name-found kind name (e ∷ es) d h = by (is_of kind name e) refl (name-found kind name es d)
  where
    by : (b : Bool) → is_of kind name e ≡ b → (find_decl kind name es ≡ Some d → name_of_decl d ≡ name) → name_of_decl d ≡ name
    by true same more =
        let one : e ≡ d = (let found : Some e ≡ Some d = rw same at h in cc) in
        ap name_of_decl (sym one) ∙ sym (ap (λ (k : DeclKey). k.name) (key_exact (key_at kind name) (key_of e) same))
    by false other more = more (rw other at h)

-- no two names have one position
pub one_position : (kind : Kind) (name other : List ℕ) (ds : List Decl) (i : ℕ) → position (is_of kind name) ds ≡ Some i
    → position (is_of kind other) ds ≡ Some i → name ≡ other
one_position kind name other ds i p q = by (find_decl kind name ds) refl
  where
    by : (o : Option Decl) → find_decl kind name ds ≡ o → name ≡ other
    by None e = absurd (let no : true ≡ false = ap is_some (sym p) ∙ position-found kind name ds ∙ ap is_some e in cc)
    by (Some d) e =
        let same : find_decl kind other ds ≡ Some d = sym (position-there kind other ds i q) ∙ position-there kind name ds i p ∙ e in
        sym (name-found kind name ds d e) ∙ name-found kind other ds d same

-- none is found where there is no place
pub position-absent : (kind : Kind) (name : List ℕ) (ds : List Decl) → position (is_of kind name) ds ≡ None → find_decl kind name ds ≡ None
position-absent kind name ds h = by (find_decl kind name ds) refl
  where
    by : (o : Option Decl) → find_decl kind name ds ≡ o → find_decl kind name ds ≡ None
    by None e = e
    by (Some d) e = absurd (let bad : true ≡ false = sym (ap is_some e) ∙ sym (position-found kind name ds) ∙ ap is_some h in cc)
