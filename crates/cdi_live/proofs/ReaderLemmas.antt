-- The declarations that read another one are those of the list of its readers.
use Rattle.cdi_live.proofs.Common.{same-bool, ◌≡◌, Bool, true, ◌&&◌, List, [], ◌∷◌, refl, sym, ap, ◌∙◌, list_any, and_from, and_parts}
use Rattle.cdi_live.proofs.Common.{false≢true, Decl, ℕ, Option, Some, None, DeclKey, key_of, find_decl, AreDistinct, is_among, IsPresent}
use Rattle.cdi_live.proofs.Common.{all_present, found_any, witness, option_map, key_at, as_binding, as_bean, made_of, made_of_bean}
use Rattle.cdi_live.proofs.Common.{made_of_binding, made_of_interceptor, reads, key-found, made_of_type, Kind, arith}
use Rattle.cdi_model.specs.DeclKey.{same_key_equiv}
use Rattle.cdi_model.specs.declared.decl.Kind.TheVariants as kinds
use Rattle.cdi_live.proofs.AskedLemmas.{any-among}

-- what read something is made of a declaration that is there
is-declared : (ds : List Decl) (k key : DeclKey) → reads (made_of ds k) key ≡ true → (d : Decl) × (find_decl k.kind k.name ds ≡ Some d)
is-declared ds k key read = by k.kind k.name read
  where
    found : (kind : Kind) (name : List ℕ) (o : Option Decl) → find_decl kind name ds ≡ o → (o ≡ None → ⊥)
        → (d : Decl) × (find_decl kind name ds ≡ Some d)
    found kind name None at none = absurd (none refl)
    found kind name (Some d) at none = (d, at)

    by : (kind : Kind) (name : List ℕ) → reads (made_of ds (key_at kind name)) key ≡ true → (d : Decl) × (find_decl kind name ds ≡ Some d)
    by kinds.Type name h = found kinds.Type name (find_decl kinds.Type name ds) refl
        (λ none. false≢true (ap (λ o. reads (option_map (λ d. made_of_type ds name) o) key) (sym none) ∙ h))
    by kinds.Bean name h = found kinds.Bean name (find_decl kinds.Bean name ds) refl
        (λ none. false≢true (ap (λ o. reads (option_map (made_of_bean ds) (as_bean o)) key) (sym none) ∙ h))
    by kinds.Interceptor name h = found kinds.Interceptor name (find_decl kinds.Interceptor name ds) refl
        (λ none. false≢true (ap (λ o. reads (option_map made_of_interceptor o) key) (sym none) ∙ h))
    by kinds.Binding name h = found kinds.Binding name (find_decl kinds.Binding name ds) refl
        (λ none. false≢true (ap (λ o. reads (option_map (made_of_binding ds) (as_binding o)) key) (sym none) ∙ h))
    by other name h = absurd (false≢true h)

-- a test that is true of some key among others is true of one
member : (p : DeclKey → Bool) (keys : List DeclKey) → list_any p keys ≡ true → (k : DeclKey) × (is_among keys k ≡ true) × (p k ≡ true)
member p [] h = absurd (false≢true h)
member p (k ∷ keys) h = grind (arith, member p keys, same_key_equiv.refl)

pub of-readers : (ds : List Decl) → AreDistinct ds → (key : DeclKey) (list : List DeclKey) (p : DeclKey → Bool)
    → ((k : DeclKey) → is_among list k ≡ reads (made_of ds k) key)
    → list_any p list ≡ list_any (λ d. reads (made_of ds (key_of d)) key && p (key_of d)) ds
of-readers ds distinct key list p are = same-bool (list_any p list) (list_any test ds) there back
  where
    test : Decl → Bool
    test d = reads (made_of ds (key_of d)) key && p (key_of d)

    there : list_any p list ≡ true → list_any test ds ≡ true
    there h =
        let it = member p list h in
        let read : reads (made_of ds it.0) key ≡ true = sym (are it.0) ∙ it.1 in
        let d = is-declared ds it.0 key read in
        let one : key_of d.0 ≡ it.0 = sym (key-found it.0.kind it.0.name ds d.0 d.1) in
        found_any it.0.kind it.0.name ds d.0 test d.1
        (and_from (reads (made_of ds (key_of d.0)) key) (p (key_of d.0)) (ap (λ k. reads (made_of ds k) key) one ∙ read) (ap p one ∙ it.2))

    back : list_any test ds ≡ true → list_any p list ≡ true
    back h =
        let it = witness (IsPresent ds) test ds (all_present ds distinct) h in
        let parts = and_parts (reads (made_of ds (key_of it.0)) key) (p (key_of it.0)) it.2 in
        any-among p list (key_of it.0) (are (key_of it.0) ∙ parts.0) parts.1
