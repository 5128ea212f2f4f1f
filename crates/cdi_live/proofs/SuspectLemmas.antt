-- Choices for types that are not suspect see the same after edits.
use Rattle.cdi_live.proofs.Common.{◌≡◌, Bool, true, false, cond, ◌&&◌, List, [], ◌∷◌, map, filter, refl, sym, ap, ◌∙◌, inl, inr, list_all}
use Rattle.cdi_live.proofs.Common.{list_any, bytes_eq, and_from, and_parts, false≢true, or_cases, or_left, or_right, Decl, Qual, ℕ, ◌||◌}
use Rattle.cdi_live.proofs.Common.{flat_map, list_any-append, Edit, DeclKey, key_of, bytes_eq-turned, AreDistinct}
use Rattle.cdi_live.proofs.Common.{edited_all, edited_keys, is_among, mentions, Mention, PointOf, TypeIn, edits_keep_decl, key_exact}
use Rattle.cdi_live.proofs.Common.{asks_for, asks_in, IsPresent, all_present, witness, ◌++◌, option_to_list, BeanDecl, has}
use Rattle.cdi_live.proofs.Common.{own_records, Effective, Word, same_word, word_at, words_have, words_named, words_named_in}
use Rattle.cdi_live.proofs.Common.{words_as_alternative, words_of_bindings, words_of_observer, words_of_record, words_of_uses, words_by, among-named, Tells}
use Rattle.cdi_live.proofs.Common.{or_parts, key_at, Avoid, as_bean, each_all, holds, same_quals, same_quals-decides}
use Rattle.cdi_live.proofs.Common.{records, records_declared, records_in, same_word_equiv, words-of-asker, required, are_alike, suspects}
use Rattle.cdi_live.proofs.Common.{offers, see_same_beans, asked_in, asked_types, concerned, types_of_key}
use Rattle.cdi_live.proofs.Common.{types_of_records, words-append, same_key}
use Rattle.cdi_model.specs.declared.decl.Decl.TheVariants as decls
use Rattle.cdi_model.specs.declared.decl.Kind.TheVariants as kinds
use Rattle.cdi_effective.specs.Reads.{qualifier_reads}
use Rattle.cdi_postings.specs.declared.word.Reason.TheVariants as reasons
use Rattle.cdi_index.specs.declared.asked.Question.TheVariants as questions
use Rattle.cdi_resolve.specs.Sees.{seen_bean}
use Rattle.cdi_seen.specs.{Contribution.contribution, Contribution.seen_of, Touched.declare_alike}
use Rattle.cdi_seen.proofs.{ContributionLemmas.seen_same, TouchedLemmas.edits_keep_declared, TouchedLemmas.edits_keep_seen}
use Rattle.cdi_seen.proofs.GatherLemmas.{quals_are_own}
use Rattle.cdi_live.proofs.ListedLemmas.{holds-append}
use Rattle.cdi_live.proofs.UserLemmas.{IsUsed, used, user-has, word}
use Rattle.cdi_live.specs.{Suspects.types_given, Users.users_of_edited}

-- ---- lists of names

-- what is among no name of some keys is among none of one of them
of-key : (f : DeclKey → List (List ℕ)) (keys : List DeclKey) (k : DeclKey) (t : List ℕ) → holds (flat_map f keys) t ≡ false
    → is_among keys k ≡ true → holds (f k) t ≡ false
of-key f [] k t none among = absurd (false≢true among)
of-key f (l ∷ keys) k t none among =
    let parts = or_parts (holds (f l) t) (holds (flat_map f keys) t) (sym (holds-append (f l) (flat_map f keys) t) ∙ none) in
    elim (or_cases (same_key l k) (is_among keys k) among) [
      | inl here ↦ ap (λ x. holds (f x) t) (sym (key_exact l k here)) ∙ parts.0
      | inr there ↦ of-key f keys k t parts.1 there
    ]

-- records of which none has a type are seen by no choice for it
none-seen : (list : List Decl) (t : List ℕ) (rs : List Effective) → holds (types_of_records rs) t ≡ false → seen_of list t rs ≡ []
none-seen list t [] none = refl
none-seen list t (r ∷ rs) none =
    let parts = or_parts (holds r.types t) (holds (types_of_records rs) t) (sym (holds-append r.types (types_of_records rs) t) ∙ none) in
    by r.is_enabled (has r.types t) parts.0 (none-seen list t rs parts.1)
  where
    by : (e h : Bool) → h ≡ false → seen_of list t rs ≡ []
        → map (seen_bean list) (cond (e && h) (r ∷ filter (offers t) rs) (filter (offers t) rs)) ≡ []
    by true true is more = absurd (false≢true (sym is))
    by true false is more = more
    by false h is more = more

-- ---- the qualifiers of records

among-append : (xs ys : List DeclKey) (key : DeclKey) → is_among (xs ++ ys) key ≡ (is_among xs key || is_among ys key)
among-append xs ys key = list_any-append (λ k. same_key k key) xs ys

used-by : (rs : List Effective) (key : DeclKey) → is_among (qualifier_reads rs) key ≡ true → IsUsed key (flat_map words_of_record rs)
used-by [] key h = absurd (false≢true h)
used-by (r ∷ rs) key h =
    let own = map (λ u. key_at kinds.Qualifier u.name) r.qualifiers in
    elim (or_cases (is_among own key) (is_among (qualifier_reads rs) key) (sym (among-append own (qualifier_reads rs) key) ∙ h)) [
      | inl here ↦
          let it = used r.qualifiers key here in
          let types : List Word = map (word_at reasons.HasType) r.types in
          let names : List Word = map (word_at reasons.HasName) (option_to_list r.name) in
          let quals : List Word = words_of_uses r.qualifiers in
          let bindings : List Word = words_of_bindings r.bindings ++ words_as_alternative r in
          let uses : List Word = quals ++ bindings in
          let rest : List Word = flat_map words_of_record rs in
          record {
            name = it.name;
            is = it.is;
            has = words-append (word it.name) (words_of_record r) rest
                ∙ or_left (words_have (words_of_record r) (word it.name)) (words_have rest (word it.name))
                (words-append (word it.name) types (names ++ uses)
                ∙ or_right (words_have types (word it.name)) (words_have (names ++ uses) (word it.name))
                (words-append (word it.name) names uses
                ∙ or_right (words_have names (word it.name)) (words_have uses (word it.name))
                (words-append (word it.name) quals bindings
                ∙ or_left (words_have quals (word it.name)) (words_have bindings (word it.name)) it.has)));
          }
      | inr there ↦
          let it = used-by rs key there in
          record {
            name = it.name;
            is = it.is;
            has = words-append (word it.name) (words_of_record r) (flat_map words_of_record rs)
                ∙ or_right (words_have (words_of_record r) (word it.name)) (words_have (flat_map words_of_record rs) (word it.name)) it.has;
          }
    ]

-- ---- edits

module _ (edits : List Edit) (ds : List Decl) (told : List DeclKey) (distinct : AreDistinct ds) (apart : AreDistinct (edited_all ds edits))
    (tells : Tells ds (edited_all ds edits) (edited_keys edits) told) (t : List ℕ)
    (clear : holds (suspects ds (edited_all ds edits) (edited_keys edits) told) t ≡ false) where
  abbrev es : List Decl
  es = edited_all ds edits

  abbrev keys : List DeclKey
  keys = edited_keys edits

  abbrev by_uses : List (List ℕ)
  by_uses = flat_map (concerned ds) (users_of_edited ds keys)

  both : (holds (flat_map (types_of_key ds es) told) t ≡ false) × (holds by_uses t ≡ false)
  both = or_parts (holds (flat_map (types_of_key ds es) told) t) (holds by_uses t)
      (sym (holds-append (flat_map (types_of_key ds es) told) by_uses t) ∙ clear)

  -- the beans of a told declaration have another type, before and after
  told-clear : (class : List ℕ) → is_among told (key_at kinds.Bean class) ≡ true
      → (holds (types_of_records (records_in ds class)) t ≡ false) × (holds (types_of_records (records_in es class)) t ≡ false)
  told-clear class among = or_parts (holds (types_of_records (records_in ds class)) t) (holds (types_of_records (records_in es class)) t)
      (sym (holds-append (types_of_records (records_in ds class)) (types_of_records (records_in es class)) t)
      ∙ of-key (types_of_key ds es) told (key_at kinds.Bean class) t both.0 among)

  -- a declaration that uses an edited qualifier concerns another type
  qualified-clear : (q : List ℕ) (d : Decl) → IsPresent ds d → is_among keys (key_at kinds.Qualifier q) ≡ true
      → words_have (words_by ds d) (word q) ≡ true → holds (concerned ds d) t ≡ false
  qualified-clear q d there edited has = by (holds (concerned ds d) t) refl
    where
      by : (b : Bool) → holds (concerned ds d) t ≡ b → b ≡ false
      by false e = refl
      by true e = absurd (false≢true (sym both.1 ∙ user-has ds keys (concerned ds) d q t there edited has e))

  in-records : (list : List Decl) (b : BeanDecl) → IsPresent list (decls.Bean b) → records_in list b.name ≡ records list b
  unfolding records_in
  in-records list b there = ap (λ o. records_declared list (as_bean o)) there

  nothing-told : (list : List Decl) (b : BeanDecl) → IsPresent list (decls.Bean b)
      → holds (types_of_records (records_in list b.name)) t ≡ false → contribution list t (decls.Bean b) ≡ []
  nothing-told list b there none = none-seen list t (records list b)
      (ap (λ rs. holds (types_of_records rs) t) (sym (in-records list b there)) ∙ none)

  -- the beans of a declaration that uses an edited qualifier have another type
  bean-clear : (b : BeanDecl) → IsPresent ds (decls.Bean b) → holds (types_of_records (records ds b)) t ≡ true
      → Avoid (qualifier_reads (records ds b)) edits
  bean-clear b there has key edited = by (is_among (qualifier_reads (records ds b)) key) refl
    where
      concerns : holds (concerned ds (decls.Bean b)) t ≡ true
      concerns = holds-append (types_given ds (decls.Bean b)) (asked_types (decls.Bean b)) t
          ∙ or_left (holds (types_given ds (decls.Bean b)) t) (holds (asked_types (decls.Bean b)) t)
          (ap (λ rs. holds (types_of_records rs) t) (in-records ds b there) ∙ has)

      by : (c : Bool) → is_among (qualifier_reads (records ds b)) key ≡ c → c ≡ false
      by false e = refl
      by true e =
          let it = used-by (own_records ds b) key (ap (λ ks. is_among ks key) (sym (quals_are_own ds b)) ∙ e) in
          let own : List Word = flat_map words_of_record (own_records ds b) in
          let more : List Word = flat_map words_of_observer b.observers in
          let named : List Word = words_named (decls.Bean b) in
          absurd (false≢true (sym (qualified-clear it.name (decls.Bean b) there (ap (is_among keys) (sym it.is) ∙ edited)
          (words-append (word it.name) (own ++ more) named
          ∙ or_left (words_have (own ++ more) (word it.name)) (words_have named (word it.name))
          (words-append (word it.name) own more
          ∙ or_left (words_have own (word it.name)) (words_have more (word it.name)) it.has)))
          ∙ concerns))

  -- ---- what each declaration adds

  before : (d : Decl) → IsPresent ds d → is_among keys (key_of d) ≡ true → contribution ds t d ≡ []
  before (decls.Bean b) there edited = nothing-told ds b there (told-clear b.name (tells.edited (key_at kinds.Bean b.name) refl edited)).0
  before other there edited = refl

  after : (d : Decl) → IsPresent es d → is_among keys (key_of d) ≡ true → contribution es t d ≡ []
  after (decls.Bean b) there edited = nothing-told es b there (told-clear b.name (tells.edited (key_at kinds.Bean b.name) refl edited)).1
  after other there edited = refl

  others : (d : Decl) → IsPresent ds d → is_among keys (key_of d) ≡ false → contribution ds t d ≡ contribution es t d
  others (decls.Bean b) there none = by (is_among told (key_at kinds.Bean b.name)) refl
    where
      now : IsPresent es (decls.Bean b)
      now = edits_keep_decl edits ds kinds.Bean b.name none ∙ there

      same : is_among told (key_at kinds.Bean b.name) ≡ false → records es b ≡ records ds b
      same untold = sym (in-records es b now) ∙ tells.records b.name untold ∙ in-records ds b there

      at : (c : Bool) → holds (types_of_records (records ds b)) t ≡ c → is_among told (key_at kinds.Bean b.name) ≡ false
          → contribution ds t (decls.Bean b) ≡ contribution es t (decls.Bean b)
      at true e untold = sym (seen_same edits ds t (records ds b) (bean-clear b there e)) ∙ ap (seen_of es t) (sym (same untold))
      at false e untold = none-seen ds t (records ds b) e
          ∙ sym (none-seen es t (records es b) (ap (λ rs. holds (types_of_records rs) t) (same untold) ∙ e))

      by : (c : Bool) → is_among told (key_at kinds.Bean b.name) ≡ c → contribution ds t (decls.Bean b) ≡ contribution es t (decls.Bean b)
      by true among = let none = told-clear b.name among in nothing-told ds b there none.0 ∙ sym (nothing-told es b now none.1)
      by false untold = at (holds (types_of_records (records ds b)) t) refl untold
  others (decls.Type d) there none = refl
  others other there none = refl

  pub beans-same : see_same_beans ds es t ≡ true
  beans-same = edits_keep_seen edits ds t (record {
    before = each_all before ds (all_present ds distinct);
    after = each_all after es (all_present es apart);
    others = each_all others ds (all_present ds distinct);
  })

  -- ---- its qualifiers

  module _ (us : List Qual) (wanted : list_any (asks_for questions.Choice t us) ds ≡ true) where
    uses-exact : (vs : List Qual) → same_quals us vs ≡ true → us ≡ vs
    uses-exact vs h = (same_quals-decides us vs).0 h

    required-twice : (qs : List Qual) → required (required qs) ≡ required qs
    required-twice [] = refl
    required-twice (q ∷ qs) = refl

    -- what asks has the words of the uses, and asks for the type
    record Asks (ms : List Mention) (w : Word) : Type 0 where
      words : words_have (words_of_uses (required us)) w ≡ true → words_have (flat_map words_named_in ms) w ≡ true
      types : holds (flat_map asked_in ms) t ≡ true

    asks-named : (ms : List Mention) (w : Word) → list_any (asks_in questions.Choice t us) ms ≡ true → Asks ms w
    asks-named [] w h = absurd (false≢true h)
    asks-named (m ∷ ms) w h = elim (or_cases (asks_in questions.Choice t us m) (list_any (asks_in questions.Choice t us) ms) h) [
      | inl here ↦
          let it = at m here in
          record {
            words = λ has. words-append w (words_named_in m) (flat_map words_named_in ms)
                ∙ or_left (words_have (words_named_in m) w) (words_have (flat_map words_named_in ms) w) (it.0 has);
            types = holds-append (asked_in m) (flat_map asked_in ms) t
                ∙ or_left (holds (asked_in m) t) (holds (flat_map asked_in ms) t) it.1;
          }
      | inr there ↦
          let it = asks-named ms w there in
          record {
            words = λ has. words-append w (words_named_in m) (flat_map words_named_in ms)
                ∙ or_right (words_have (words_named_in m) w) (words_have (flat_map words_named_in ms) w) (it.words has);
            types = holds-append (asked_in m) (flat_map asked_in ms) t
                ∙ or_right (holds (asked_in m) t) (holds (flat_map asked_in ms) t) it.types;
          }
    ]
      where
        at : (m : Mention) → asks_in questions.Choice t us m ≡ true
            → (words_have (words_of_uses (required us)) w ≡ true → words_have (words_named_in m) w ≡ true) × (holds (asked_in m) t ≡ true)
        at (PointOf place point) h =
            let parts = and_parts (bytes_eq t point.required_type) (same_quals us (required point.qualifiers)) h in
            let one : us ≡ required point.qualifiers = uses-exact (required point.qualifiers) parts.1 in
            let same : required us ≡ required point.qualifiers = ap required one ∙ required-twice point.qualifiers in (
              λ has. or_right (same_word (word_at reasons.Asks point.required_type) w)
                  (words_have (words_of_uses (required point.qualifiers)) w)
                  (ap (λ qs. words_have (words_of_uses qs) w) (sym same) ∙ has),
              or_left (bytes_eq point.required_type t) false (bytes_eq-turned point.required_type t ∙ parts.0),
            )
        at (TypeIn place x) h = absurd (false≢true h)
        at other h = absurd (false≢true h)

    -- no qualifier that is asked for is edited
    unedited : (q : List ℕ) → is_among keys (key_at kinds.Qualifier q) ≡ true → words_have (words_of_uses (required us)) (word q) ≡ false
    unfolding asks_for asked_types
    unedited q edited = by (words_have (words_of_uses (required us)) (word q)) refl
      where
        by : (b : Bool) → words_have (words_of_uses (required us)) (word q) ≡ b → b ≡ false
        by false e = refl
        by true e =
            let it = witness (IsPresent ds) (asks_for questions.Choice t us) ds (all_present ds distinct) wanted in
            let asks = asks-named (mentions it.0) (word q) it.2 in
            absurd (false≢true (sym (qualified-clear q it.0 it.1 edited
            (words-of-asker questions.Choice t us ds it.0 (word q) it.2 (among-named it.0 (word q) (asks.words e))))
            ∙ holds-append (types_given ds it.0) (asked_types it.0) t
            ∙ or_right (holds (types_given ds it.0) t) (holds (asked_types it.0) t) asks.types))

    alike : (vs : List Qual) → ((q : List ℕ) → is_among keys (key_at kinds.Qualifier q) ≡ true
        → words_have (words_of_uses vs) (word q) ≡ false)
        → list_all (λ u. declare_alike ds es u.name) vs ≡ true
    alike [] none = refl
    alike (v ∷ vs) none = and_from (declare_alike ds es v.name) (list_all (λ u. declare_alike ds es u.name) vs)
        (by (is_among keys (key_at kinds.Qualifier v.name)) refl)
        (alike vs (λ q edited. (or_parts (same_word (word v.name) (word q)) (words_have (words_of_uses vs) (word q)) (none q edited)).1))
      where
        by : (b : Bool) → is_among keys (key_at kinds.Qualifier v.name) ≡ b → declare_alike ds es v.name ≡ true
        by false e = edits_keep_declared edits ds v.name e
        by true e = absurd (false≢true (sym (or_parts (same_word (word v.name) (word v.name)) (words_have (words_of_uses vs) (word v.name))
            (none v.name e)).0 ∙ same_word_equiv.refl (word v.name)))

    pub uses-alike : are_alike ds es us ≡ true
    uses-alike = alike (required us) unedited
