-- What is found by the place of a key.
use Rattle.cdi_index.proofs.Common.{◌≡◌, ℕ, false, List, [], ◌∷◌, map, Option, Some, refl, sym, ap, ◌∙◌, list_any, or_parts, DeclKey}
use Rattle.cdi_index.proofs.Common.{same_key, Effective, Made, suc, cond, same_key_equiv, Change, zero, get_or, position, Turn}
use Rattle.cdi_index.proofs.Common.{keys_changed, keys_turned, made_after, turned}
use Rattle.base_lists.proofs.Places.{position-map}
use Rattle.cdi_model.proofs.PlaceLemmas.{First, First-position}

-- the place of a key is that of the first one that has it
pub place-of : {X : Type 0} (key : X → DeclKey) (xs : List X) (ks : List DeclKey) (k : DeclKey) (i : ℕ) → map key xs ≡ ks
    → Some i ≡ position (same_key k) ks → First (λ x. same_key k (key x)) i xs
place-of key xs ks k i keyed at = First-position (λ x. same_key k (key x)) xs i
    (sym (position-map key (same_key k) xs) ∙ ap (position (same_key k)) keyed ∙ sym at)

-- those that are made of keys, and have them
pub keys-made : {X : Type 0} (key : X → DeclKey) (make : DeclKey → X) → ((k : DeclKey) → key (make k) ≡ k) → (ks : List DeclKey)
    → map key (map make ks) ≡ ks
keys-made key make have [] = refl
keys-made key make have (k ∷ ks) = λ i. have k i ∷ keys-made key make have ks i

-- ---- changes

pub made-at : (cs : List Change) (before : Option Made) (k : DeclKey) (i : ℕ) (c : Change) → First (λ d. same_key k d.key) i cs
    → (get_or cs i c).made ≡ made_after cs before k
made-at [] before k i c first = absurd first
made-at (d ∷ cs) before k zero c first =
    ap (λ b. cond b d.made (made_after cs before k)) (sym (same_key_equiv.symm d.key k ∙ first))
made-at (d ∷ cs) before k (suc i) c first =
    made-at cs before k i c first.1
    ∙ ap (λ b. cond b d.made (made_after cs before k)) (sym (same_key_equiv.symm d.key k ∙ first.0))

pub made-apart : (cs : List Change) (before : Option Made) (k : DeclKey) → list_any (same_key k) (keys_changed cs) ≡ false
    → before ≡ made_after cs before k
made-apart [] before k none = refl
made-apart (d ∷ cs) before k none =
    let parts = or_parts (same_key k d.key) (list_any (same_key k) (keys_changed cs)) none in
    made-apart cs before k parts.1
    ∙ ap (λ b. cond b d.made (made_after cs before k)) (sym (same_key_equiv.symm d.key k ∙ parts.0))

-- ---- turns

pub turned-at : (ts : List Turn) (records : DeclKey → Option (List Effective)) (k : DeclKey) (i : ℕ) (t : Turn)
    → First (λ u. same_key k u.key) i ts → (get_or ts i t).records ≡ turned ts records k
turned-at [] records k i t first = absurd first
turned-at (u ∷ ts) records k zero t first =
    ap (λ b. cond b u.records (turned ts records k)) (sym (same_key_equiv.symm u.key k ∙ first))
turned-at (u ∷ ts) records k (suc i) t first =
    turned-at ts records k i t first.1
    ∙ ap (λ b. cond b u.records (turned ts records k)) (sym (same_key_equiv.symm u.key k ∙ first.0))

pub turned-apart : (ts : List Turn) (records : DeclKey → Option (List Effective)) (k : DeclKey)
    → list_any (same_key k) (keys_turned ts) ≡ false → records k ≡ turned ts records k
turned-apart [] records k none = refl
turned-apart (u ∷ ts) records k none =
    let parts = or_parts (same_key k u.key) (list_any (same_key k) (keys_turned ts)) none in
    turned-apart ts records k parts.1
    ∙ ap (λ b. cond b u.records (turned ts records k)) (sym (same_key_equiv.symm u.key k ∙ parts.0))
