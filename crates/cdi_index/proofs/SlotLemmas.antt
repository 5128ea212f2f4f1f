-- The records that are lent of what is kept are those of its declaration.
use Rattle.cdi_index.proofs.Common.{◌≡◌, ℕ, true, false, List, [], Option, Some, None, option_map, refl, sym, ap, ◌∙◌}
use Rattle.cdi_index.proofs.Common.{Decl, Kind, key_at, same_key, find_decl, as_bean, Made, made_of_bean, made_of_interceptor, made_of_type}
use Rattle.cdi_index.proofs.Common.{option_map_or, false≢true, key_of, AreDistinct, Word, words_have, is_some, same_key_equiv, arith, position}
use Rattle.cdi_index.proofs.Common.{is_of, records_in, lent, replaced_records, position-there, entries, made_by, slice_get, Effective, BeanDecl}
use Rattle.cdi_model.proofs.PositionLemmas.{name-found, position-found}
use Rattle.cdi_model.specs.declared.decl.Decl.TheVariants as decls
use Rattle.cdi_model.specs.declared.decl.Kind.TheVariants as kinds
use Rattle.cdi_effective.proofs.PlaceLemmas.{own-place, place-found}
use Rattle.cdi_index.proofs.ReplacedLemmas.{lent-of}
use Rattle.cdi_index.proofs.UnderLemmas.{key-found, some-made}

-- ---- the records at a place

abbrev pub records_at : List Decl → ℕ → List Effective
records_at ds p = option_map_or (entries ds) (slice_get ds p) []

records-of-bean : (ds : List Decl) (p : ℕ) (bean : BeanDecl) → AreDistinct ds → slice_get ds p ≡ Some (decls.Bean bean)
    → records_in ds bean.name ≡ records_at ds p
unfolding records_in
records-of-bean ds p bean distinct at = grind (arith, place-found, own-place)

-- ---- what is made of a declaration is of one that is there

made-none : (kind : Kind) (name : List ℕ) (ds : List Decl) → find_decl kind name ds ≡ None → made_by kind name ds ≡ None
made-none kinds.Type name ds none = ap (option_map (λ d. made_of_type ds name)) none
made-none kinds.Bean name ds none = ap (λ o. option_map (made_of_bean ds) (as_bean o)) none
made-none kinds.Qualifier name ds none = refl
made-none kinds.Binding name ds none = grind (arith, none)
made-none kinds.Stereotype name ds none = refl
made-none kinds.Interceptor name ds none = ap (option_map made_of_interceptor) none

-- so it has a place
pub has-place : (kind : Kind) (name : List ℕ) (ds : List Decl) (made : Made) → made_by kind name ds ≡ Some made
    → position (is_of kind name) ds ≡ None → ⊥
has-place kind name ds made is none = by (find_decl kind name ds) refl
  where
    by : (o : Option Decl) → find_decl kind name ds ≡ o → ⊥
    by None e = let no : None ≡ Some made = sym (made-none kind name ds e) ∙ is in cc
    by (Some d) e = false≢true (sym (ap is_some none) ∙ position-found kind name ds ∙ ap is_some e)

-- ---- the records that are lent are those at its place

module _ (ds : List Decl) (distinct : AreDistinct ds) (w : Word) (p : ℕ) where
  pub lent-there : (kind : Kind) (name : List ℕ) (made : Made) → made_by kind name ds ≡ Some made → words_have made.words w ≡ true
      → position (is_of kind name) ds ≡ Some p → lent (replaced_records ds (key_at kind name)) (Some made) ≡ records_at ds p
  lent-there kinds.Type name made is has at = grind (arith, false≢true, some-made)
  lent-there kinds.Bean name made is has at = by (find_decl kinds.Bean name ds) refl is
    where
      lends : lent (replaced_records ds (key_at kinds.Bean name)) (Some made) ≡ records_in ds name
      lends = lent-of ds name (replaced_records ds (key_at kinds.Bean name)) (Some made) refl (sym is)

      none : (o : Option Made) → o ≡ None → o ≡ Some made
          → lent (replaced_records ds (key_at kinds.Bean name)) (Some made) ≡ records_at ds p
      none o e f = absurd (let no : None ≡ Some made = sym e ∙ f in cc)

      by : (o : Option Decl) → find_decl kinds.Bean name ds ≡ o → option_map (made_of_bean ds) (as_bean o) ≡ Some made
          → lent (replaced_records ds (key_at kinds.Bean name)) (Some made) ≡ records_at ds p
      by None e f = none None refl f
      by (Some (decls.Bean b)) e f =
          lends ∙ ap (records_in ds) (sym (name-found kinds.Bean name ds (decls.Bean b) e))
          ∙ records-of-bean ds p b distinct (position-there kinds.Bean name ds p at ∙ e)
      by (Some (decls.Type d)) e f = none None refl f
      by (Some (decls.Qualifier d)) e f = none None refl f
      by (Some (decls.Binding d)) e f = none None refl f
      by (Some (decls.Stereotype d)) e f = none None refl f
      by (Some (decls.Interceptor d)) e f = none None refl f
  lent-there kinds.Qualifier name made is has at = absurd (let no : None ≡ Some made = is in cc)
  lent-there kinds.Binding name made is has at = grind (arith, false≢true, some-made)
  lent-there kinds.Stereotype name made is has at = absurd (let no : None ≡ Some made = is in cc)
  lent-there kinds.Interceptor name made is has at = by (find_decl kinds.Interceptor name ds) refl is
    where
      other : (d : Decl) → same_key (key_at kinds.Interceptor name) (key_of d) ≡ false → find_decl kinds.Interceptor name ds ≡ Some d
          → lent (replaced_records ds (key_at kinds.Interceptor name)) (Some made) ≡ records_at ds p
      other d apart e = absurd (false≢true (sym apart
          ∙ ap (same_key (key_at kinds.Interceptor name)) (sym (key-found kinds.Interceptor name ds d e))
          ∙ same_key_equiv.refl (key_at kinds.Interceptor name)))

      by : (o : Option Decl) → find_decl kinds.Interceptor name ds ≡ o → option_map made_of_interceptor o ≡ Some made
          → lent (replaced_records ds (key_at kinds.Interceptor name)) (Some made) ≡ records_at ds p
      by None e f = absurd (let no : None ≡ Some made = f in cc)
      by (Some (decls.Interceptor i)) e f =
          ap (λ m. lent (replaced_records ds (key_at kinds.Interceptor name)) (Some m))
          (sym (some-made (made_of_interceptor (decls.Interceptor i)) made f))
          ∙ sym (ap (λ o. option_map_or (entries ds) o []) (position-there kinds.Interceptor name ds p at ∙ e))
      by (Some (decls.Bean d)) e f = other (decls.Bean d) refl e
      by (Some (decls.Type d)) e f = other (decls.Type d) refl e
      by (Some (decls.Qualifier d)) e f = other (decls.Qualifier d) refl e
      by (Some (decls.Binding d)) e f = other (decls.Binding d) refl e
      by (Some (decls.Stereotype d)) e f = other (decls.Stereotype d) refl e
