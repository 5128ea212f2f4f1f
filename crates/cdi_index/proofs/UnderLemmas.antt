-- What is kept is of a declaration which has its words.
use Rattle.cdi_index.proofs.Common.{◌≡◌, ℕ, Bool, true, false, ◌||◌, List, [], ◌∷◌, Option, Some, None, option_map, refl, sym, ap, ◌∙◌}
use Rattle.cdi_index.proofs.Common.{list_any, BeanDecl, Decl, Kind, DeclKey, key_at, same_key, find_decl, key_exact, as_bean, Made, made_of}
use Rattle.cdi_index.proofs.Common.{made_of_bean, made_of_interceptor, option_map_or, false≢true, or_right, key_of}
use Rattle.cdi_index.proofs.Common.{AreDistinct, Word, Listing, under, Kept, IsExact, IsSound, words_have}
use Rattle.cdi_index.proofs.Common.{words_by, same_key_equiv, Stored, made_in, nat_eq, arith, position}
use Rattle.cdi_index.proofs.Common.{classes_have, keys_have, eqb-true, is_of, records_in, position-there, made_by}
use Rattle.cdi_index.proofs.Common.{slice_get, any-more}
use Rattle.cdi_model.specs.declared.decl.Decl.TheVariants as decls
use Rattle.cdi_model.specs.declared.decl.Kind.TheVariants as kinds
use Rattle.cdi_effective.specs.Beans.{effective}
use Rattle.cdi_effective.specs.{Bindings.class_bindings, Disposers.find_bean, Records.records_declared}
use Rattle.cdi_index.specs.{Slots.AreAtSlots, Under.bindings_in, Under.first_bindings}

-- the bindings of the first record of a declaration are those of its class
pub records_bound : (ds : List Decl) (class : List ℕ) → first_bindings (records_in ds class) ≡ bindings_in ds class
unfolding records_in effective
records_bound ds class = by (find_bean class ds)
  where
    by : (o : Option BeanDecl) → first_bindings (records_declared ds o) ≡ option_map_or (class_bindings ds) o []
    by None = refl
    by (Some b) = refl

-- a declaration that is found has the key
pub key-found : (kind : Kind) (name : List ℕ) (ds : List Decl) (d : Decl) → find_decl kind name ds ≡ Some d → key_at kind name ≡ key_of d
key-found kind name [] d e = absurd (let no : None ≡ Some d = e in cc)
key-found kind name (x ∷ ds) d e = grind (arith, key-found kind name ds d, key_exact)

-- ---- what is listed

-- what is made has a word, so it is of a declaration which has that
abbrev pub OfDecl : List Decl → List Word → ℕ → Type 0
OfDecl ds words p = (d : Decl) × (slice_get ds p ≡ Some d) × (words_by ds d ≡ words)

pub some-made : (a b : Made) → Some a ≡ Some b → a ≡ b
some-made a b h = cc

pub of-decl : (ds : List Decl) (kind : Kind) (name : List ℕ) (made : Made) (w : Word) (p : ℕ) → made_by kind name ds ≡ Some made
    → words_have made.words w ≡ true → position (is_of kind name) ds ≡ Some p → OfDecl ds made.words p
of-decl ds kinds.Type name made w p is has at = grind (arith, false≢true, some-made)
of-decl ds kinds.Bean name made w p is has at = by (find_decl kinds.Bean name ds) refl is
  where
    none : (o : Option Made) → o ≡ None → o ≡ Some made → OfDecl ds made.words p
    none o e f = absurd (let no : None ≡ Some made = sym e ∙ f in cc)

    by : (o : Option Decl) → find_decl kinds.Bean name ds ≡ o → option_map (made_of_bean ds) (as_bean o) ≡ Some made
        → OfDecl ds made.words p
    by None e f = none None refl f
    by (Some (decls.Bean b)) e f = (
      decls.Bean b,
      position-there kinds.Bean name ds p at ∙ e,
      ap (λ (m : Made). m.words) (some-made (made_of_bean ds b) made f),
    )
    by (Some (decls.Type d)) e f = none None refl f
    by (Some (decls.Qualifier d)) e f = none None refl f
    by (Some (decls.Binding d)) e f = none None refl f
    by (Some (decls.Stereotype d)) e f = none None refl f
    by (Some (decls.Interceptor d)) e f = none None refl f
of-decl ds kinds.Qualifier name made w p is has at = absurd (let no : None ≡ Some made = is in cc)
of-decl ds kinds.Binding name made w p is has at = grind (arith, false≢true, some-made)
of-decl ds kinds.Stereotype name made w p is has at = absurd (let no : None ≡ Some made = is in cc)
of-decl ds kinds.Interceptor name made w p is has at = by (find_decl kinds.Interceptor name ds) refl is
  where
    other : (d : Decl) → same_key (key_at kinds.Interceptor name) (key_of d) ≡ false
        → find_decl kinds.Interceptor name ds ≡ Some d → OfDecl ds made.words p
    other d apart e = absurd (false≢true (sym apart
        ∙ ap (same_key (key_at kinds.Interceptor name)) (sym (key-found kinds.Interceptor name ds d e))
        ∙ same_key_equiv.refl (key_at kinds.Interceptor name)))

    by : (o : Option Decl) → find_decl kinds.Interceptor name ds ≡ o → option_map made_of_interceptor o ≡ Some made → OfDecl ds made.words p
    by None e f = absurd (let no : None ≡ Some made = f in cc)
    by (Some (decls.Interceptor i)) e f = (
      decls.Interceptor i,
      position-there kinds.Interceptor name ds p at ∙ e,
      ap (λ (m : Made). m.words) (some-made (made_of_interceptor (decls.Interceptor i)) made f),
    )
    by (Some (decls.Bean d)) e f = other (decls.Bean d) refl e
    by (Some (decls.Type d)) e f = other (decls.Type d) refl e
    by (Some (decls.Qualifier d)) e f = other (decls.Qualifier d) refl e
    by (Some (decls.Binding d)) e f = other (decls.Binding d) refl e
    by (Some (decls.Stereotype d)) e f = other (decls.Stereotype d) refl e

module _ (ds : List Decl) (m : DeclKey → Option Stored) (kept : ℕ → Option Kept) (listings : List Listing) (at_slots : AreAtSlots m kept)
    (exact : IsExact ds m) (sound : IsSound m listings) (distinct : AreDistinct ds) where
  pub made-at : (s : ℕ) (e : Kept) → kept s ≡ Some e → made_of ds e.key ≡ Some e.made
  made-at s e there = sym (exact e.key) ∙ ap made_in (at_slots.owned s e there)

  -- what is made of a declaration has a word, so a test that says so of its slot is true of one that is listed
  pub listed-at : (w : Word) (k : DeclKey) (x : Made) (test : ℕ → Bool) → made_of ds k ≡ Some x → words_have x.words w ≡ true
      → ((s : ℕ) (e : Kept) → kept s ≡ Some e → e.key ≡ k → e.made ≡ x → test s ≡ true) → list_any test (under listings w) ≡ true
  listed-at w k x test is has says = by (m k) refl (exact k ∙ is)
    where
      by : (o : Option Stored) → m k ≡ o → made_in o ≡ Some x → list_any test (under listings w) ≡ true
      by None here none = absurd (let no : None ≡ Some x = none in cc)
      by (Some (s, e)) here one =
          let same : e.made ≡ x = some-made e.made x one in
          let words : words_have e.made.words w ≡ true = ap (λ (y : Made). words_have y.words w) same ∙ has in
          let there = at_slots.there k s e here in
          any-more (nat_eq s) test (under listings w)
          (λ t equal. ap test (sym (eqb-true s t equal)) ∙ says s e there.0 there.1 same)
          (sound w k s e here
          (or_right (keys_have e.made.reads w) (classes_have e.made.replaces w || words_have e.made.words w)
          (or_right (classes_have e.made.replaces w) (words_have e.made.words w) words)))
