-- Uses whose declarations are not edited, and names among others.
use Rattle.cdi_seen.proofs.Common.{◌≡◌, ℕ, List, [], ◌∷◌, map, Option, refl, ap, ◌∙◌, bytes_eq, key_at, edited_all, Avoid, name_of_use}
use Rattle.cdi_seen.proofs.Common.{Decl, Edit, Qual, edits_keep_decl, avoid-head, avoid-second, has, uses_one, DeclKey, ◌||◌, find_decl}
use Rattle.cdi_seen.proofs.Common.{Kind}
use Rattle.base_numbers.proofs.Texts.{bytes_eq-turned}

-- ---- uses by the declarations of what is used

abbrev kind_keys : Kind → List Qual → List DeclKey
kind_keys kind us = map (λ u. key_at kind u.name) us

-- whatever is read of each use and of its declaration
pub read_same : {A : Type 0} (edits : List Edit) (ds : List Decl) (kind : Kind) (read : Option Decl → Qual → A) (us : List Qual)
    → Avoid (kind_keys kind us) edits
    → map (λ u. read (find_decl kind u.name (edited_all ds edits)) u) us ≡ map (λ u. read (find_decl kind u.name ds) u) us
read_same edits ds kind read [] avoid = refl
read_same {A = A} edits ds kind read (u ∷ us) avoid =
    let own = key_at kind u.name in
    let more : List DeclKey = kind_keys kind us in
    ap (λ (o : Option Decl). read o u ∷ map (λ v. read (find_decl kind v.name (edited_all ds edits)) v) us)
    (edits_keep_decl edits ds kind u.name (avoid-head edits own more avoid))
    ∙ ap (λ (rest : List A). read (find_decl kind u.name ds) u ∷ rest)
    (read_same edits ds kind read us (avoid-second edits (own ∷ []) more avoid))

-- ---- names of uses

pub uses_by_name : (us : List Qual) (x : List ℕ) → uses_one us x ≡ has (map name_of_use us) x
uses_by_name [] x = refl
uses_by_name (u ∷ us) x = ap (λ b. b || uses_one us x) (bytes_eq-turned x u.name) ∙ ap (λ b. bytes_eq u.name x || b) (uses_by_name us x)
