-- What is not to be looked at again writes no edited name.
use Rattle.cdi_report.proofs.Common.{all-append, ◌≡◌, ℕ, Bool, true, false, List, [], ◌∷◌, ◌++◌, map, flat_map, Some, option_map, refl, sym}
use Rattle.cdi_report.proofs.Common.{ap, ◌∙◌, inl, inr, AllByRecursion, option_to_list, cases_Bool, false≢true, or_left, or_parts, or_right}
use Rattle.cdi_report.proofs.Common.{list_any-append, key_at, same_key, find_decl, edited_all, edited_keys, is_among, mentions, Mention}
use Rattle.cdi_report.proofs.Common.{UseOf, name_of_use, Decl, Edit, DeclKey, Qual, Word, same_word, word_at, reads_in, words_have}
use Rattle.cdi_report.proofs.Common.{words_written_in, Tells, ◌||◌, PointOf, StereotypeOf, TypeIn, BindingDecl, StereotypeDecl, TypeDecl}
use Rattle.cdi_report.proofs.Common.{list_any, bytes_eq, types_brought, has, as_binding, brings_type_decides, types_brought-has, same_text}
use Rattle.cdi_report.proofs.Common.{suc, Kind, key_exact, supers_of, types_of, is_type_decides, types_of-has, or_cases, made_of_binding}
use Rattle.cdi_report.proofs.Common.{made_of_type, IsNotEdited, named_in, words_writing, among-names, arith}
use Rattle.cdi_model.specs.Decl.{declared_as}
use Rattle.cdi_model.specs.declared.decl.Decl.TheVariants as decls
use Rattle.cdi_model.specs.declared.decl.Kind.TheVariants as kinds
use Rattle.cdi_model.specs.declared.decl.UseKind.TheVariants as uses
use Rattle.cdi_model.specs.declared.mention.TypePlace.TheVariants as places
use Rattle.cdi_postings.specs.declared.word.Reason.TheVariants as reasons
use Rattle.cdi_report.proofs.ApartLemmas.{first-has}

-- ---- names of which each is not edited

-- what is named in one place is not among some keys
abbrev pub IsWrittenApart : List DeclKey → Mention → Type 0
IsWrittenApart keys m = IsNotEdited keys (named_in m)

each-name : (keys : List DeclKey) (at : List ℕ → Mention) (names : List (List ℕ))
    → ((n : List ℕ) → has names n ≡ true → IsWrittenApart keys (at n)) → AllByRecursion (IsWrittenApart keys) (map at names)
each-name keys at [] apart = tt
each-name keys at (x ∷ names) apart = (
  apart x (or_left (bytes_eq x x) (has names x) (same_text x x refl)),
  each-name keys at names (λ n among. apart n (or_right (bytes_eq x n) (has names n) among)),
)

each-use : (keys : List DeclKey) (us : List Qual)
    → ((n : List ℕ) → has (map name_of_use us) n ≡ true → is_among keys (key_at kinds.Binding n) ≡ false)
    → AllByRecursion (IsWrittenApart keys) (map (UseOf uses.Binding) us)
each-use keys [] apart = tt
each-use keys (u ∷ us) apart = (
  apart u.name (or_left (bytes_eq u.name u.name) (has (map name_of_use us) u.name) (same_text u.name u.name refl)),
  each-use keys us (λ n among. apart n (or_right (bytes_eq u.name n) (has (map name_of_use us) n) among)),
)

-- ---- by words

-- a test that fails for the word of each of some keys fails for that of one among them
none-written : (test : Word → Bool) (keys : List DeclKey) (kind : Kind) (n : List ℕ) → list_any test (words_writing keys) ≡ false
    → is_among keys (key_at kind n) ≡ true → test (word_at (reasons.Writes kind) n) ≡ false
none-written test [] kind n none among = absurd (false≢true among)
none-written test (k ∷ keys) kind n none among =
    let parts = or_parts (test (word_at (reasons.Writes k.kind) k.name)) (list_any test (words_writing keys)) none in
    elim (or_cases (same_key k (key_at kind n)) (is_among keys (key_at kind n)) among) [
      | inl here ↦ ap (λ (x : DeclKey). test (word_at (reasons.Writes x.kind) x.name)) (sym (key_exact k (key_at kind n) here)) ∙ parts.0
      | inr later ↦ none-written test keys kind n parts.1 later
    ]

module _ (keys : List DeclKey) (had : Word → Bool) (none : list_any had (words_writing keys) ≡ false) where
  apart-at : (kind : Kind) (n : List ℕ) → had (word_at (reasons.Writes kind) n) ≡ true → is_among keys (key_at kind n) ≡ false
  apart-at kind n has = grind (arith, false≢true, none-written)

  -- what has the words of all that it writes, and none of an edited name, writes no edited name
  pub written-apart : (ms : List Mention) → ((w : Word) → words_have (flat_map words_written_in ms) w ≡ true → had w ≡ true)
      → AllByRecursion (IsWrittenApart keys) ms
  written-apart [] has = tt
  written-apart (m ∷ ms) has =
      let rest : List Word = flat_map words_written_in ms in
      let either : (w : Word) → (words_have (words_written_in m) w || words_have rest w) ≡ true → had w ≡ true = λ w h.
      has w (list_any-append (λ v. same_word v w) (words_written_in m) rest ∙ h) in (
        by m (λ w h. either w (or_left (words_have (words_written_in m) w) (words_have rest w) h)),
        written-apart ms (λ w h. either w (or_right (words_have (words_written_in m) w) (words_have rest w) h)),
      )
    where
      by : (m : Mention) → ((w : Word) → words_have (words_written_in m) w ≡ true → had w ≡ true) → IsWrittenApart keys m
      by (TypeIn place t) has = apart-at kinds.Type t
          (has (word_at (reasons.Writes kinds.Type) t) (first-has (word_at (reasons.Writes kinds.Type) t) []))
      by (UseOf kind u) has = apart-at (declared_as kind) u.name
          (has (word_at (reasons.Writes (declared_as kind)) u.name) (first-has (word_at (reasons.Writes (declared_as kind)) u.name) []))
      by (StereotypeOf s) has = apart-at kinds.Stereotype s
          (has (word_at (reasons.Writes kinds.Stereotype) s) (first-has (word_at (reasons.Writes kinds.Stereotype) s) []))
      by (PointOf place p) has = apart-at kinds.Type p.required_type
          (has (word_at (reasons.Writes kinds.Type) p.required_type) (first-has (word_at (reasons.Writes kinds.Type) p.required_type) []))
      by other has = tt

-- ---- by what is told

module _ (edits : List Edit) (ds : List Decl) (told : List DeclKey) (tells : Tells ds (edited_all ds edits) (edited_keys edits) told) where
  abbrev keys : List DeclKey
  keys = edited_keys edits

  -- a type that is not told extends and implements no edited one, since the closure of its types reads it
  super-apart : (t : TypeDecl) (s : List ℕ) → find_decl kinds.Type t.name ds ≡ Some (decls.Type t)
      → is_among told (key_at kinds.Type t.name) ≡ false → has (option_to_list t.extends ++ t.implements) s ≡ true
      → is_among keys (key_at kinds.Type s) ≡ false
  super-apart t s found spared listed = elim (cases_Bool (is_among keys (key_at kinds.Type s))) [
    | inl among ↦ absurd (false≢true (sym (tells.apart (key_at kinds.Type t.name) spared (key_at kinds.Type s) among)
        ∙ ap (λ o. is_among (reads_in (option_map (λ d. made_of_type ds t.name) o)) (key_at kinds.Type s)) found
        ∙ among-names kinds.Type (types_of ds t.name) s ∙ types_of-has ds t.name s
        ∙ (is_type_decides ds t.name s).1 (inr (suc 0, (s, ap (λ o. has (supers_of o) s) found ∙ listed, refl)))))
    | inr apart ↦ apart
  ]

  pub supers-apart : (t : TypeDecl) → find_decl kinds.Type t.name ds ≡ Some (decls.Type t)
      → is_among told (key_at kinds.Type t.name) ≡ false
      → AllByRecursion (IsWrittenApart keys) (mentions (decls.Type t))
  unfolding mentions
  supers-apart t found spared =
      let first = option_to_list t.extends in
      all-append (IsWrittenApart keys) (map (TypeIn places.Extends) first) (map (TypeIn places.Implements) t.implements)
      (each-name keys (TypeIn places.Extends) first (λ n among. super-apart t n found spared
      (list_any-append (λ x. bytes_eq x n) first t.implements ∙ or_left (has first n) (has t.implements n) among)))
      (each-name keys (TypeIn places.Implements) t.implements (λ n among. super-apart t n found spared
      (list_any-append (λ x. bytes_eq x n) first t.implements ∙ or_right (has first n) (has t.implements n) among)))

  -- a binding type that is not told declares no edited one
  declared-apart : (b : BindingDecl) (n : List ℕ) → find_decl kinds.Binding b.name ds ≡ Some (decls.Binding b)
      → is_among told (key_at kinds.Binding b.name) ≡ false → has (map name_of_use b.declares) n ≡ true
      → is_among keys (key_at kinds.Binding n) ≡ false
  declared-apart b n found spared listed = elim (cases_Bool (is_among keys (key_at kinds.Binding n))) [
    | inl among ↦ absurd (false≢true (sym (tells.apart (key_at kinds.Binding b.name) spared (key_at kinds.Binding n) among)
        ∙ ap (λ o. is_among (reads_in (option_map (made_of_binding ds) (as_binding o))) (key_at kinds.Binding n)) found
        ∙ among-names kinds.Binding (types_brought ds (map name_of_use b.declares)) n
        ∙ types_brought-has ds (map name_of_use b.declares) n
        ∙ (brings_type_decides ds (map name_of_use b.declares) n).1 (n, listed, (0, refl))))
    | inr apart ↦ apart
  ]

  pub declares-apart : (b : BindingDecl) → find_decl kinds.Binding b.name ds ≡ Some (decls.Binding b)
      → is_among told (key_at kinds.Binding b.name) ≡ false → AllByRecursion (IsWrittenApart keys) (mentions (decls.Binding b))
  unfolding mentions
  declares-apart b found spared = each-use keys b.declares (λ n among. declared-apart b n found spared among)

-- ---- stereotypes

-- where no stereotype and no binding type is edited
pub inherits-apart : (keys : List DeclKey) (s : StereotypeDecl)
    → ((n : List ℕ) → (is_among keys (key_at kinds.Stereotype n) ≡ false) × (is_among keys (key_at kinds.Binding n) ≡ false))
    → AllByRecursion (IsWrittenApart keys) (mentions (decls.Stereotype s))
unfolding mentions
inherits-apart keys s apart =
    all-append (IsWrittenApart keys) (map StereotypeOf s.stereotypes) (map (UseOf uses.Binding) s.bindings)
    (each-name keys StereotypeOf s.stereotypes (λ n among. (apart n).0)) (each-use keys s.bindings (λ n among. (apart n).1))
