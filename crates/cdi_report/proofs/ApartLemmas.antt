-- What has no word of what is edited or affected is spared.
use Rattle.cdi_report.proofs.Common.{◌≡◌, ℕ, Bool, true, false, cond, List, [], ◌∷◌, ◌++◌, map, flat_map, Option, Some, None, IfSome}
use Rattle.cdi_report.proofs.Common.{option_map, refl, sym, ap, subst, ◌∙◌, inl, inr, AllByRecursion, option_to_list, cases_Bool}
use Rattle.cdi_report.proofs.Common.{false≢true, or_left, or_parts, or_right, list_any-append, kind_of, name_of_decl, key_at, same_key}
use Rattle.cdi_report.proofs.Common.{same_key_equiv, find_decl, edited_all, edited_keys, is_among, mentions, Mention, UseOf, name_of_use}
use Rattle.cdi_report.proofs.Common.{BeanDecl, Decl, Edit, DeclKey, Qual, entries, own_records, as_bean, bean_keys, bean_reads, chain_reads}
use Rattle.cdi_report.proofs.Common.{class_reads, link_reads, product_reads, record_reads, specialized_reads, bean_named, behind, extended}
use Rattle.cdi_report.proofs.Common.{specialized, Effective, BeanId, PointDecl, One, Word, same_word, word_at, made_of_bean, reads_in}
use Rattle.cdi_report.proofs.Common.{words_have, words_named, words_named_in, words_of_observer, words_of_record, words_of_uses}
use Rattle.cdi_report.proofs.Common.{words_written_in, Tells, answer_to, points_of, IsApart, IsStill, AreQualifiersSpared, IsBindingSpared}
use Rattle.cdi_report.proofs.Common.{IsSpared, found-name}
use Rattle.cdi_model.specs.declared.decl.Decl.TheVariants as decls
use Rattle.cdi_model.specs.declared.decl.Kind.TheVariants as kinds
use Rattle.cdi_model.specs.declared.decl.UseKind.TheVariants as uses
use Rattle.cdi_effective.specs.{Beans.unless_replaced, Specialized.is_replaced}
use Rattle.cdi_effective.proofs.RecordLemmas.{records_are_own}
use Rattle.cdi_postings.specs.Words.{same_word_equiv}
use Rattle.cdi_postings.specs.declared.word.Reason.TheVariants as reasons
use Rattle.cdi_index.specs.Made.{words_as_alternative, words_of_bean, words_of_bindings}
use Rattle.cdi_subjects.specs.Rests.{IsAnsweredAlike}
use Rattle.cdi_report.proofs.BeanLemmas.{bean-alike}
use Rattle.cdi_report.specs.Spared.{AreBindingsSpared, IsSpecializedSpared}

-- ---- words

-- what has not a word among all has it among none of the parts
words-front : (w : Word) (xs ys : List Word) → words_have (xs ++ ys) w ≡ false → words_have xs w ≡ false
words-front w xs ys none = (or_parts (words_have xs w) (words_have ys w) (sym (list_any-append (λ v. same_word v w) xs ys) ∙ none)).0

words-back : (w : Word) (xs ys : List Word) → words_have (xs ++ ys) w ≡ false → words_have ys w ≡ false
words-back w xs ys none = (or_parts (words_have xs w) (words_have ys w) (sym (list_any-append (λ v. same_word v w) xs ys) ∙ none)).1

-- a word is among those that begin with it
pub first-has : (w : Word) (ws : List Word) → words_have (w ∷ ws) w ≡ true
first-has w ws = or_left (same_word w w) (words_have ws w) (same_word_equiv.refl w)

-- ---- the bean that a bean specializes

-- its key is read
specialized-read : (ds : List Decl) (d s : BeanDecl) → specialized ds d ≡ Some s
    → is_among (record_reads ds d) (key_at kinds.Bean s.name) ≡ true
specialized-read ds d s is =
    list_any-append (λ k. same_key k key) with-products (chain_reads ds d)
    ∙ or_right (is_among with-products key) (is_among (chain_reads ds d) key)
    (list_any-append (λ k. same_key k key) (specialized_reads ds d) (flat_map (link_reads ds) (behind ds d))
    ∙ or_left (is_among (specialized_reads ds d) key) (is_among (flat_map (link_reads ds) (behind ds d)) key) (by d.specializes is))
  where
    key : DeclKey
    key = key_at kinds.Bean s.name

    with-products : List DeclKey
    with-products = key_at kinds.Bean d.name ∷ bean_reads ds d.name d.attributes.stereotypes ++ class_reads ds d
        ++ product_reads ds d.producers

    named : (o : Option (List ℕ)) → bean_named ds o ≡ Some s → is_among (bean_keys o) (key_at kinds.Bean s.name) ≡ true
    named None e = absurd (let no : None ≡ Some s = e in cc)
    named (Some class) e = or_left (same_key (key_at kinds.Bean class) (key_at kinds.Bean s.name)) false
        (ap (λ n. same_key (key_at kinds.Bean class) (key_at kinds.Bean n)) (found-name ds class s e)
        ∙ same_key_equiv.refl (key_at kinds.Bean class))

    by : (b : Bool) → cond b (bean_named ds (extended (find_decl kinds.Type d.name ds))) None ≡ Some s
        → is_among (cond b (bean_keys (extended (find_decl kinds.Type d.name ds))) []) (key_at kinds.Bean s.name) ≡ true
    by false e = absurd (let no : None ≡ Some s = e in cc)
    by true e = named (extended (find_decl kinds.Type d.name ds)) e

-- ---- a declaration

module _ (edits : List Edit) (told : List DeclKey) where
  abbrev keys : List DeclKey
  keys = edited_keys edits

  binding-spared : (m : Mention)
      → ((b : List ℕ) → is_among told (key_at kinds.Binding b) ≡ true → words_have (words_named_in m) (word_at reasons.Binds b) ≡ false)
      → IsBindingSpared told m
  binding-spared (UseOf uses.Binding u) none = elim (cases_Bool (is_among told (key_at kinds.Binding (name_of_use u)))) [
    | inl among ↦ absurd (false≢true (sym (none (name_of_use u) among) ∙ first-has (word_at reasons.Binds (name_of_use u)) []))
    | inr apart ↦ apart
  ]
  binding-spared _ none = tt

  bindings-spared : (ms : List Mention)
      → ((b : List ℕ) → is_among told (key_at kinds.Binding b) ≡ true
      → words_have (flat_map words_named_in ms) (word_at reasons.Binds b) ≡ false)
      → AllByRecursion (IsBindingSpared told) ms
  bindings-spared [] none = tt
  bindings-spared (m ∷ ms) none = (
    binding-spared m (λ b among. words-front (word_at reasons.Binds b) (words_named_in m) (flat_map words_named_in ms) (none b among)),
    bindings-spared ms (λ b among. words-back (word_at reasons.Binds b) (words_named_in m) (flat_map words_named_in ms) (none b among)),
  )

  uses-spared : (us : List Qual)
      → ((q : List ℕ) → is_among keys (key_at kinds.Qualifier q) ≡ true
      → words_have (words_of_uses us) (word_at reasons.Qualifies q) ≡ false)
      → AllByRecursion (λ u. is_among keys (key_at kinds.Qualifier u.name) ≡ false) us
  uses-spared [] none = tt
  uses-spared (u ∷ us) none = (
    elim (cases_Bool (is_among keys (key_at kinds.Qualifier u.name))) [
      | inl among ↦ absurd (false≢true (sym (none u.name among) ∙ first-has (word_at reasons.Qualifies u.name) (words_of_uses us)))
      | inr apart ↦ apart
    ],
    uses-spared us (λ q among. words-back (word_at reasons.Qualifies q) (word_at reasons.Qualifies u.name ∷ []) (words_of_uses us)
        (none q among)),
  )

  record-spared : (b : Effective)
      → ((q : List ℕ) → is_among keys (key_at kinds.Qualifier q) ≡ true
      → words_have (words_of_record b) (word_at reasons.Qualifies q) ≡ false)
      → AreQualifiersSpared keys b
  record-spared b none = uses-spared b.qualifiers (λ q among.
      let w = word_at reasons.Qualifies q in
      let types = map (word_at reasons.HasType) b.types in
      let name = map (word_at reasons.HasName) (option_to_list b.name) in
      let used = words_of_uses b.qualifiers in
      let bound = words_of_bindings b.bindings ++ words_as_alternative b in
      words-front w used bound (words-back w name (used ++ bound) (words-back w types (name ++ (used ++ bound)) (none q among))))

  records-spared : (bs : List Effective) (r : Bool)
      → ((q : List ℕ) → is_among keys (key_at kinds.Qualifier q) ≡ true
      → words_have (flat_map words_of_record bs) (word_at reasons.Qualifies q) ≡ false)
      → AllByRecursion (AreQualifiersSpared keys) (map (unless_replaced r) bs)
  records-spared [] r none = tt
  records-spared (b ∷ bs) r none = (
    record-spared b (λ q among.
        words-front (word_at reasons.Qualifies q) (words_of_record b) (flat_map words_of_record bs) (none q among)),
    records-spared bs r (λ q among.
        words-back (word_at reasons.Qualifies q) (words_of_record b) (flat_map words_of_record bs) (none q among)),
  )

  module _ (ds : List Decl) where
    -- the words of the records of a bean, and those of what it names
    own-words : (w : Word) (d : BeanDecl) → words_have (words_of_bean ds d) w ≡ false
        → words_have (flat_map words_of_record (own_records ds d)) w ≡ false
    own-words w d none =
        let own = flat_map words_of_record (own_records ds d) in
        let observed = flat_map words_of_observer d.observers in
        words-front w own observed (words-front w (own ++ observed) (words_named (decls.Bean d)) none)

    named-words : (w : Word) (d : BeanDecl) → words_have (words_of_bean ds d) w ≡ false
        → words_have (flat_map words_named_in (mentions (decls.Bean d))) w ≡ false
    unfolding words_named
    named-words w d none =
        let own = flat_map words_of_record (own_records ds d) in
        let observed = flat_map words_of_observer d.observers in
        words-front w (flat_map words_named_in (mentions (decls.Bean d))) (flat_map words_written_in (mentions (decls.Bean d)))
        (words-back w (own ++ observed) (words_named (decls.Bean d)) none)

    qualifiers-apart : (d : Decl) → IsApart ds edits told d → AllByRecursion (AreQualifiersSpared keys) (entries ds d)
    qualifiers-apart (decls.Bean d) apart = subst (AllByRecursion (AreQualifiersSpared keys)) (sym (records_are_own ds d))
        (records-spared (own_records ds d) (is_replaced ds d.name)
        (λ q among. own-words (word_at reasons.Qualifies q) d (apart.qualifiers q among)))
    qualifiers-apart (decls.Type d) apart = tt
    qualifiers-apart other apart = tt

    bindings-apart : (d : Decl) → IsApart ds edits told d → AreBindingsSpared told d
    bindings-apart (decls.Bean d) apart = bindings-spared (mentions (decls.Bean d))
        (λ b among. named-words (word_at reasons.Binds b) d (apart.bindings b among))
    bindings-apart (decls.Type d) apart = tt
    bindings-apart other apart = tt

    specialized-apart : (d : Decl) → find_decl (kind_of d) (name_of_decl d) ds ≡ Some d → IsApart ds edits told d
        → IsSpecializedSpared ds told d
    specialized-apart (decls.Bean d) found apart = by (specialized ds d) refl
      where
        by : (o : Option BeanDecl) → specialized ds d ≡ o → IfSome o (λ s. is_among told (key_at kinds.Bean s.name) ≡ false)
        by None e = tt
        by (Some s) e = elim (cases_Bool (is_among told (key_at kinds.Bean s.name))) [
          | inl among ↦ absurd (false≢true (sym (apart.beans s.name among)
              ∙ ap (λ o. is_among (reads_in (option_map (made_of_bean ds) (as_bean o))) (key_at kinds.Bean s.name)) found
              ∙ specialized-read ds d s e))
          | inr spared ↦ spared
        ]
    specialized-apart (decls.Type d) found apart = tt
    specialized-apart other found apart = tt

    -- points that are answered alike, by a bean that stays still
    points-apart : (ps : List PointDecl) → Tells ds (edited_all ds edits) (edited_keys edits) told
        → AllByRecursion (λ p. answer_to ds p ≡ answer_to (edited_all ds edits) p) ps
        → AllByRecursion (λ p. (id : BeanId) → answer_to ds p ≡ One id → IsStill ds edits told id.class) ps
        → AllByRecursion (IsAnsweredAlike ds (edited_all ds edits)) ps
    points-apart [] tells answers chosen = tt
    points-apart (p ∷ ps) tells answers chosen = (
      record {
        answer = answers.0;
        bean = λ id one. let still = chosen.0 id one in bean-alike edits ds told tells id still.unaffected still.chains;
      },
      points-apart ps tells answers.1 chosen.1,
    )

    pub apart-spared : (d : Decl) → find_decl (kind_of d) (name_of_decl d) ds ≡ Some d
        → Tells ds (edited_all ds edits) (edited_keys edits) told → IsApart ds edits told d → IsSpared ds edits told d
    apart-spared d found tells apart = record {
      unedited = apart.unedited;
      unaffected = apart.unaffected;
      names = apart.names;
      bindings = bindings-apart d apart;
      qualifiers = qualifiers-apart d apart;
      specialized = specialized-apart d found apart;
      inherited = apart.inherited;
      answers = points-apart (points_of d) tells apart.answers apart.chosen;
    }
