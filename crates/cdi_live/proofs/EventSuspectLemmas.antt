-- Events of types that are not suspect see the same after edits.
use Rattle.cdi_live.proofs.Common.{◌≡◌, Bool, true, false, cond, not, ◌&&◌, List, [], ◌∷◌, map, filter, refl, sym, ap, ◌∙◌, inl, inr}
use Rattle.cdi_live.proofs.Common.{list_any, bytes_eq, and_from, and_parts, false≢true, or_cases, or_left, or_right, Decl, Qual, same_text}
use Rattle.cdi_live.proofs.Common.{ℕ, ◌||◌, flat_map, Option, Some, None, option_map_or, Edit, DeclKey, bytes_eq-turned}
use Rattle.cdi_live.proofs.Common.{key_of, find_decl, AreDistinct, edited_all, edited_keys, is_among, mentions}
use Rattle.cdi_live.proofs.Common.{Mention, EventOf, PointOf, edits_keep_decl, key_exact, asks_for, asks_in, IsPresent, all_present}
use Rattle.cdi_live.proofs.Common.{witness, ◌++◌, unwrap_or, option_map, BeanDecl, ObserverDecl, has, own_records, Word}
use Rattle.cdi_live.proofs.Common.{same_word, word_at, words_have, words_named, words_named_in, words_of_observer, words_of_record}
use Rattle.cdi_live.proofs.Common.{words_of_uses, words_by, among-named, Tells, is_touched, or_parts, key_at, Avoid, Chain, as_bean}
use Rattle.cdi_live.proofs.Common.{find_bean, made_of, reads, reads_in, touched_where_seen_differs, each_all, holds}
use Rattle.cdi_live.proofs.Common.{arith, beans, EventKey, types_of, sorted_by, Observer, declared_by, observers}
use Rattle.cdi_live.proofs.Common.{observes, observing, same_quals, same_quals-decides, is_suspect, records, records_declared, records_in}
use Rattle.cdi_live.proofs.Common.{same_word_equiv, made_of_type, words-of-asker, event_sees, ByEvent, event_types}
use Rattle.cdi_live.proofs.Common.{fired_in, fired_types, may_have, observed_by_key, same-bool, words-append}
use Rattle.cdi_live.proofs.Common.{same_key}
use Rattle.std.proofs.Common.{ℤ}
use Rattle.cdi_model.proofs.{EditLemmas.edits_keep_others, GivingLemmas.edits_keep_given}
use Rattle.cdi_model.specs.declared.decl.Decl.TheVariants as decls
use Rattle.cdi_model.specs.declared.decl.Kind.TheVariants as kinds
use Rattle.cdi_model.specs.declared.decl.UseKind.TheVariants as uses
use Rattle.cdi_match.specs.Types.{is_super, is_type, object}
use Rattle.cdi_match.proofs.TypeLemmas.{is_type_decides, types_of-has, types_of-is, types_of-rises}
use Rattle.cdi_match.specs.{Filled.FilledUse, Filled.filled, Filled.filled_by, Filling.as_qualifier, Filling.find_qualifier}
use Rattle.cdi_match.proofs.{LocalityLemmas.edits_keep_closure, LocalityLemmas.same_types_apart, Names.any_chosen, Names.chosen}
use Rattle.cdi_effective.specs.Beans.{managed}
use Rattle.cdi_postings.specs.declared.word.Reason.TheVariants as reasons
use Rattle.cdi_index.proofs.ReadLemmas.{among-types}
use Rattle.cdi_index.specs.declared.asked.Question.TheVariants as questions
use Rattle.cdi_observe.specs.{Observers.observer_id, Observers.priority_of, Sees.seen_observer, Sees.SeenObserver, Lent.observer_in}
use Rattle.cdi_seen.specs.Gives.{is_before_observer, observer_given, ranked_observer, unranked}
use Rattle.cdi_seen.specs.{Rests.use_reads, Words.names_under, Words.types_observed}
use Rattle.cdi_seen.proofs.{EventLemmas.event_by_words, EventLemmas.observers_by_declaration, EventLemmas.observers_of, UseLemmas.read_same}
use Rattle.cdi_live.proofs.ListedLemmas.{holds-append}
use Rattle.cdi_live.proofs.UserLemmas.{used, user-has, word}
use Rattle.cdi_live.specs.{EventSuspects.concerned_types, EventSuspects.is_fired, EventSuspects.may_have_one, EventSuspects.observed_of}
use Rattle.cdi_live.specs.Users.{users_of_edited}

-- ---- lists of names

-- what is a name of one of some keys is a name of them
in-keys : (f : DeclKey → List (List ℕ)) (keys : List DeclKey) (k : DeclKey) (x : List ℕ) → is_among keys k ≡ true
    → holds (f k) x ≡ true → holds (flat_map f keys) x ≡ true
in-keys f [] k x among h = absurd (false≢true among)
in-keys f (l ∷ keys) k x among h =
    holds-append (f l) (flat_map f keys) x
    ∙ elim (or_cases (same_key l k) (is_among keys k) among) [
      | inl here ↦ or_left (holds (f l) x) (holds (flat_map f keys) x) (ap (λ j. holds (f j) x) (key_exact l k here) ∙ h)
      | inr there ↦ or_right (holds (f l) x) (holds (flat_map f keys) x) (in-keys f keys k x there h)
    ]

-- a name among some is among others that have the same
pub is-held : (xs : List (List ℕ)) (x : List ℕ) → list_any (bytes_eq x) xs ≡ has xs x
is-held [] x = refl
is-held (y ∷ ys) x = λ i. bytes_eq-turned x y i || is-held ys x i

-- lists with the same names pass the same tests
same-passing : (p : List ℕ → Bool) (xs ys : List (List ℕ)) → ((x : List ℕ) → list_any (bytes_eq x) xs ≡ has ys x)
    → list_any p xs ≡ list_any p ys
same-passing p xs ys same = same-bool (list_any p xs) (list_any p ys)
    (λ h. let it = chosen p xs h in any_chosen p ys it.0 (sym (same it.0) ∙ is-held xs it.0 ∙ it.1) it.2)
    (λ h. let it = chosen p ys h in any_chosen p xs it.0 (sym (is-held xs it.0) ∙ same it.0 ∙ it.1) it.2)

-- ---- what is computed are the suspects

pub suspects-are : (ds es : List Decl) (edited affected : List DeclKey) (kept : List (List ℕ)) (users : List Decl) (names : List (List ℕ))
    (t : List ℕ) → users ≡ users_of_edited ds edited
    → ((x : List ℕ) → list_any (bytes_eq x) names
    ≡ (holds (flat_map (observed_by_key ds es) affected) x || holds (flat_map types_observed users) x))
    → ((is_among affected (key_at kinds.Type t) || holds (flat_map fired_types users) t) || list_any (λ x. may_have ds kept x t) names)
    ≡ is_suspect ds es edited affected kept t
suspects-are ds es edited affected kept users names t are same =
    let by_key : List (List ℕ) = flat_map (observed_by_key ds es) affected in
    let all : (x : List ℕ) → list_any (bytes_eq x) names ≡ has (concerned_types ds es edited affected) x =
    λ x. same x ∙ ap (λ us. holds by_key x || holds (flat_map types_observed us) x) are
    ∙ sym (holds-append by_key (flat_map types_observed (users_of_edited ds edited)) x) in
    λ i. (is_among affected (key_at kinds.Type t) || holds (flat_map fired_types (are i)) t)
    || same-passing (λ x. may_have ds kept x t) names (concerned_types ds es edited affected) all i

-- ---- the types of an event

-- a type that is not declared leads to itself alone
alone : (ds : List Decl) (t s : List ℕ) → find_decl kinds.Type t ds ≡ None → Chain (is_super ds) t s → t ≡ s
alone ds t s none c = grind (arith, c.0, c.1, false≢true)

-- what an event of a kept type may have
has-may : (ds : List Decl) (kept : List (List ℕ)) (t x : List ℕ) → holds kept t ≡ true → has (types_of ds t) x ≡ true
    → may_have ds kept x t ≡ true
has-may ds kept t x named h = by (find_decl kinds.Type t ds) refl
  where
    readers : Bool
    readers = reads (made_of ds (key_at kinds.Type t)) (key_at kinds.Type x)

    by : (o : Option Decl) → find_decl kinds.Type t ds ≡ o → may_have ds kept x t ≡ true
    by (Some d) there = or_right (bytes_eq x t) (readers || (bytes_eq x object && holds kept t))
        (or_left readers (bytes_eq x object && holds kept t)
        (ap (λ o. reads (option_map (λ (d : Decl). made_of_type ds t) o) (key_at kinds.Type x)) there ∙ among-types (types_of ds t) x ∙ h))
    by None none = elim ((is_type_decides ds t x).0 (sym (types_of-has ds t x) ∙ h)) [
      | inl all ↦ or_right (bytes_eq x t) (readers || (bytes_eq x object && holds kept t))
          (or_right readers (bytes_eq x object && holds kept t)
          (and_from (bytes_eq x object) (holds kept t) (same_text x object all) named))
      | inr chain ↦ or_left (bytes_eq x t) (readers || (bytes_eq x object && holds kept t)) (same_text x t (sym (alone ds t x none chain)))
    ]

-- ---- observer methods

abbrev read_filled : Option Decl → Qual → FilledUse
read_filled o u = filled_by (unwrap_or (option_map (λ d. d.members) (as_qualifier o)) []) u

-- edits of none of its qualifiers leave one as it is seen
keep-method : (edits : List Edit) (ds : List Decl) (b : BeanDecl) (m : ObserverDecl) → Avoid (use_reads uses.Qualifier m.qualifiers) edits
    → ranked_observer (edited_all ds edits) (observer_in b m) ≡ ranked_observer ds (observer_in b m)
keep-method edits ds b m avoid =
    let same : map (filled (edited_all ds edits) uses.Qualifier) m.qualifiers ≡ map (filled ds uses.Qualifier) m.qualifiers =
    read_same edits ds kinds.Qualifier read_filled m.qualifiers avoid in
    let seen : seen_observer (edited_all ds edits) (observer_in b m) ≡ seen_observer ds (observer_in b m) =
    λ j. record { id = observer_id (observer_in b m); qualifiers = same j } in
    λ j. (priority_of m, seen j)

-- ---- edits

module _ (edits : List Edit) (ds : List Decl) (told : List DeclKey) (distinct : AreDistinct ds) (apart : AreDistinct (edited_all ds edits))
    (tells : Tells ds (edited_all ds edits) (edited_keys edits) told) (kept : List (List ℕ)) (t : List ℕ) (named : holds kept t ≡ true)
    (clear : is_suspect ds (edited_all ds edits) (edited_keys edits) told kept t ≡ false) where
  abbrev es : List Decl
  es = edited_all ds edits

  abbrev keys : List DeclKey
  keys = edited_keys edits

  abbrev types : List (List ℕ)
  types = types_of ds t

  abbrev by_keys : List (List ℕ)
  by_keys = flat_map (observed_by_key ds es) told

  abbrev by_uses : List (List ℕ)
  by_uses = flat_map types_observed (users_of_edited ds keys)

  parts : ((is_among told (key_at kinds.Type t) || is_fired ds keys t) ≡ false)
      × (may_have_one ds kept (concerned_types ds es keys told) t ≡ false)
  parts = or_parts (is_among told (key_at kinds.Type t) || is_fired ds keys t)
      (may_have_one ds kept (concerned_types ds es keys told) t) clear

  first : (is_among told (key_at kinds.Type t) ≡ false) × (is_fired ds keys t ≡ false)
  first = or_parts (is_among told (key_at kinds.Type t)) (is_fired ds keys t) parts.0

  -- ---- its types

  unedited : is_among keys (key_at kinds.Type t) ≡ false
  unedited = grind (arith, false≢true, first.0)

  types-same : types_of es t ≡ types_of ds t
  types-same = by (find_decl kinds.Type t ds) refl
    where
      by : (o : Option Decl) → find_decl kinds.Type t ds ≡ o → types_of es t ≡ types_of ds t
      by (Some d) there = edits_keep_closure edits ds t (λ key edited.
          sym (ap (λ o. is_among (reads_in (option_map (λ (d : Decl). made_of_type ds t) o)) key) there)
          ∙ tells.apart (key_at kinds.Type t) first.0 key edited)
      by None none =
          let keep : (s : List ℕ) → is_type es t s ≡ is_type ds t s =
          same_types_apart keys ds es t (edits_keep_others edits ds)
          (λ s edited chain. false≢true (sym unedited ∙ ap (λ n. is_among keys (key_at kinds.Type n)) (alone ds t s none chain)
          ∙ edited)) in
          sym (types_of-is es t (types_of ds t) (types_of-rises ds t) (λ s. types_of-has ds t s ∙ sym (keep s)))

  -- what is observed by what is concerned is none of them
  other-types : (x : List ℕ) → holds (concerned_types ds es keys told) x ≡ true → has types x ≡ false
  other-types x concerned = grind (arith, false≢true, parts.1, any_chosen, has-may)

  told-types : (k : DeclKey) (x : List ℕ) → is_among told k ≡ true → holds (observed_by_key ds es k) x ≡ true → has types x ≡ false
  told-types k x among h = other-types x
      (holds-append by_keys by_uses x ∙ or_left (holds by_keys x) (holds by_uses x) (in-keys (observed_by_key ds es) told k x among h))

  -- ---- its qualifiers

  used-types : (d : Decl) (q x : List ℕ) → IsPresent ds d → is_among keys (key_at kinds.Qualifier q) ≡ true
      → words_have (words_by ds d) (word q) ≡ true → holds (types_observed d) x ≡ true → has types x ≡ false
  used-types d q x there edited has h = other-types x
      (holds-append by_keys by_uses x ∙ or_right (holds by_keys x) (holds by_uses x)
      (user-has ds keys types_observed d q x there edited has h))

  -- ---- what each declaration gives

  abbrev given : List Decl → Decl → List (ℤ × SeenObserver)
  given list d = observer_given types list d

  -- a told declaration gives nothing, before and after
  nothing-before : (b : BeanDecl) → IsPresent ds (decls.Bean b) → is_among told (key_at kinds.Bean b.name) ≡ true
      → given ds (decls.Bean b) ≡ []
  unfolding names_under
  nothing-before b there among = event_by_words types ds (decls.Bean b) there (λ x h.
      let k = key_at kinds.Bean b.name in
      told-types k x among
      (holds-append (observed_of ds k) (observed_of es k) x
      ∙ or_left (holds (observed_of ds k) x) (holds (observed_of es k) x)
      (ap (λ o. holds (option_map_or types_observed o []) x) there ∙ h)))

  nothing-after : (b : BeanDecl) → IsPresent es (decls.Bean b) → is_among told (key_at kinds.Bean b.name) ≡ true
      → given es (decls.Bean b) ≡ []
  unfolding names_under
  nothing-after b there among = event_by_words types es (decls.Bean b) there (λ x h.
      let k = key_at kinds.Bean b.name in
      told-types k x among
      (holds-append (observed_of ds k) (observed_of es k) x
      ∙ or_right (holds (observed_of ds k) x) (holds (observed_of es k) x)
      (ap (λ o. holds (option_map_or types_observed o []) x) there ∙ h)))

  before : (d : Decl) → IsPresent ds d → is_among keys (key_of d) ≡ true → given ds d ≡ []
  before (decls.Bean b) there edited = nothing-before b there (tells.edited (key_at kinds.Bean b.name) refl edited)
  before other there edited = refl

  after : (d : Decl) → IsPresent es d → is_among keys (key_of d) ≡ true → given es d ≡ []
  after (decls.Bean b) there edited = nothing-after b there (tells.edited (key_at kinds.Bean b.name) refl edited)
  after other there edited = refl

  -- ---- what another gives

  module _ (b : BeanDecl) (there : IsPresent ds (decls.Bean b)) where
    abbrev of_bean : ObserverDecl → Observer
    of_bean m = observer_in b m

    -- an observer method of one of the types rests on no edited qualifier
    unaffected : (m : ObserverDecl)
        → ((w : Word) → words_have (words_of_uses m.qualifiers) w ≡ true → words_have (words_by ds (decls.Bean b)) w ≡ true)
        → holds (types_observed (decls.Bean b)) m.event_type ≡ true → has types m.event_type ≡ true
        → Avoid (use_reads uses.Qualifier m.qualifiers) edits
    unaffected m words own observed key edited = by (is_among (use_reads uses.Qualifier m.qualifiers) key) refl
      where
        by : (c : Bool) → is_among (use_reads uses.Qualifier m.qualifiers) key ≡ c → c ≡ false
        by false e = refl
        by true e =
            let it = used m.qualifiers key e in
            absurd (false≢true (sym (used-types (decls.Bean b) it.name m.event_type there (ap (is_among keys) (sym it.is) ∙ edited)
            (words (word it.name) it.has) own) ∙ observed))

    keep-methods : (ms : List ObserverDecl)
        → ((w : Word) → words_have (flat_map words_of_observer ms) w ≡ true → words_have (words_by ds (decls.Bean b)) w ≡ true)
        → ((x : List ℕ) → holds (event_types ms) x ≡ true → holds (types_observed (decls.Bean b)) x ≡ true)
        → map (ranked_observer es) (filter (observes types) (map of_bean ms))
        ≡ map (ranked_observer ds) (filter (observes types) (map of_bean ms))
    keep-methods [] words own = refl
    keep-methods (m ∷ ms) words own =
        by (has types m.event_type) refl
        (keep-methods ms
        (λ w has. words w (words-append w (words_of_observer m) (flat_map words_of_observer ms)
        ∙ or_right (words_have (words_of_observer m) w) (words_have (flat_map words_of_observer ms) w) has))
        (λ x h. own x (or_right (bytes_eq m.event_type x) (holds (event_types ms) x) h)))
      where
        left : List Observer
        left = filter (observes types) (map of_bean ms)

        own_words : (w : Word) → words_have (words_of_uses m.qualifiers) w ≡ true → words_have (words_by ds (decls.Bean b)) w ≡ true
        own_words w has = words w (words-append w (words_of_observer m) (flat_map words_of_observer ms)
            ∙ or_left (words_have (words_of_observer m) w) (words_have (flat_map words_of_observer ms) w)
            (or_right (same_word (word_at reasons.Observes m.event_type) w) (words_have (words_of_uses m.qualifiers) w) has))

        by : (c : Bool) → has types m.event_type ≡ c → map (ranked_observer es) left ≡ map (ranked_observer ds) left
            → map (ranked_observer es) (cond c (of_bean m ∷ left) left) ≡ map (ranked_observer ds) (cond c (of_bean m ∷ left) left)
        by true e rest =
            ap (λ o. o ∷ map (ranked_observer es) left)
            (keep-method edits ds b m (unaffected m own_words
            (own m.event_type (or_left (bytes_eq m.event_type m.event_type) (holds (event_types ms) m.event_type)
            (same_text m.event_type m.event_type refl))) e))
            ∙ ap (λ more. ranked_observer ds (of_bean m) ∷ more) rest
        by false e rest = rest

    keep-found : (enabled : Bool)
        → map (ranked_observer es) (filter (observes types) (declared_by (cond enabled (Some b) None)))
        ≡ map (ranked_observer ds) (filter (observes types) (declared_by (cond enabled (Some b) None)))
    keep-found true = keep-methods b.observers
        (λ w has.
        let own : List Word = flat_map words_of_record (own_records ds b) in
        let more : List Word = flat_map words_of_observer b.observers in
        let named : List Word = words_named (decls.Bean b) in
        words-append w (own ++ more) named
        ∙ or_left (words_have (own ++ more) w) (words_have named w)
        (words-append w own more ∙ or_right (words_have own w) (words_have more w) has))
        (λ x h. h)
    keep-found false = refl

    -- of a bean that is neither edited nor told
    same-given : is_among keys (key_at kinds.Bean b.name) ≡ false → is_among told (key_at kinds.Bean b.name) ≡ false
        → given ds (decls.Bean b) ≡ given es (decls.Bean b)
    unfolding records_in
    same-given none untold =
        let now : IsPresent es (decls.Bean b) = edits_keep_decl edits ds kinds.Bean b.name none ∙ there in
        let found : find_bean b.name ds ≡ Some b = ap as_bean there in
        let found' : find_bean b.name es ≡ Some b = ap as_bean now in
        let enabled : Bool = (managed ds b).is_enabled in
        let own : List Observer = declared_by (cond enabled (Some b) None) in
        let kept_records : records es b ≡ records ds b =
        sym (ap (records_declared es) found') ∙ tells.records b.name untold ∙ ap (records_declared ds) found in
        let olds : observers ds (records ds b) ≡ own =
        observers_of ds ds b ∙ ap (λ (f : Option BeanDecl). declared_by (cond enabled f None)) found in
        let news : observers es (records es b) ≡ own =
        ap (observers es) kept_records ∙ observers_of ds es b ∙ ap (λ (f : Option BeanDecl). declared_by (cond enabled f None)) found' in
        ap (λ (os : List Observer). map (ranked_observer ds) (filter (observes types) os)) olds
        ∙ sym (keep-found enabled)
        ∙ sym (ap (λ (os : List Observer). map (ranked_observer es) (filter (observes types) os)) news)

  others : (d : Decl) → IsPresent ds d → is_among keys (key_of d) ≡ false → given ds d ≡ given es d
  others (decls.Bean b) there none = by (is_among told (key_at kinds.Bean b.name)) refl
    where
      now : IsPresent es (decls.Bean b)
      now = edits_keep_decl edits ds kinds.Bean b.name none ∙ there

      by : (c : Bool) → is_among told (key_at kinds.Bean b.name) ≡ c → given ds (decls.Bean b) ≡ given es (decls.Bean b)
      by true among = nothing-before b there among ∙ sym (nothing-after b now among)
      by false untold = same-given b there none untold
  others (decls.Type d) there none = refl
  others other there none = refl

  -- all give the same, so the same observer methods are seen
  observers-same : map (seen_observer ds) (observing ds (beans ds) t) ≡ map (seen_observer es) (observing es (beans es) t)
  observers-same =
      let same : flat_map (given es) es ≡ flat_map (given ds) ds = edits_keep_given (λ list. observer_given types list) edits ds (record {
        before = each_all before ds (all_present ds distinct);
        after = each_all after es (all_present es apart);
        others = each_all others ds (all_present ds distinct);
      }) in
      observers_by_declaration ds t
      ∙ ap (λ list. unranked (sorted_by is_before_observer list)) (sym same)
      ∙ ap (λ names. unranked (sorted_by is_before_observer (flat_map (observer_given names es) es))) (sym types-same)
      ∙ sym (observers_by_declaration es t)

  -- ---- the qualifiers of the event

  module _ (us : List Qual) (wanted : list_any (asks_for questions.Event t us) ds ≡ true) where
    -- what fires it has the words of its qualifiers, and fires an event of its type
    record Fires (ms : List Mention) (w : Word) : Type 0 where
      words : words_have (words_of_uses us) w ≡ true → words_have (flat_map words_named_in ms) w ≡ true
      fires : holds (flat_map fired_in ms) t ≡ true

    fires-named : (ms : List Mention) (w : Word) → list_any (asks_in questions.Event t us) ms ≡ true → Fires ms w
    fires-named [] w h = absurd (false≢true h)
    fires-named (m ∷ ms) w h = elim (or_cases (asks_in questions.Event t us m) (list_any (asks_in questions.Event t us) ms) h) [
      | inl here ↦
          let it = at m here in
          record {
            words = λ has. words-append w (words_named_in m) (flat_map words_named_in ms)
                ∙ or_left (words_have (words_named_in m) w) (words_have (flat_map words_named_in ms) w) (it.0 has);
            fires = holds-append (fired_in m) (flat_map fired_in ms) t
                ∙ or_left (holds (fired_in m) t) (holds (flat_map fired_in ms) t) it.1;
          }
      | inr there ↦
          let it = fires-named ms w there in
          record {
            words = λ has. words-append w (words_named_in m) (flat_map words_named_in ms)
                ∙ or_right (words_have (words_named_in m) w) (words_have (flat_map words_named_in ms) w) (it.words has);
            fires = holds-append (fired_in m) (flat_map fired_in ms) t
                ∙ or_right (holds (fired_in m) t) (holds (flat_map fired_in ms) t) it.fires;
          }
    ]
      where
        at : (m : Mention) → asks_in questions.Event t us m ≡ true
            → (words_have (words_of_uses us) w ≡ true → words_have (words_named_in m) w ≡ true) × (holds (fired_in m) t ≡ true)
        at (EventOf e) h =
            let both = and_parts (bytes_eq t e.event_type) (same_quals us e.qualifiers) h in
            let one : us ≡ e.qualifiers = (same_quals-decides us e.qualifiers).0 both.1 in (
              λ has. or_right (same_word (word_at reasons.Fires e.event_type) w) (words_have (words_of_uses e.qualifiers) w)
                  (ap (λ qs. words_have (words_of_uses qs) w) (sym one) ∙ has),
              or_left (bytes_eq e.event_type t) false (bytes_eq-turned e.event_type t ∙ both.0),
            )
        at (PointOf place point) h = absurd (false≢true h)
        at other h = absurd (false≢true h)

    -- none of them is edited
    unedited-use : (q : List ℕ) → is_among keys (key_at kinds.Qualifier q) ≡ true → words_have (words_of_uses us) (word q) ≡ false
    unfolding asks_for fired_types
    unedited-use q edited = by (words_have (words_of_uses us) (word q)) refl
      where
        by : (b : Bool) → words_have (words_of_uses us) (word q) ≡ b → b ≡ false
        by false e = refl
        by true e =
            let it = witness (IsPresent ds) (asks_for questions.Event t us) ds (all_present ds distinct) wanted in
            let fires = fires-named (mentions it.0) (word q) it.2 in
            absurd (false≢true (sym first.1 ∙ user-has ds keys fired_types it.0 q t it.1 edited
            (words-of-asker questions.Event t us ds it.0 (word q) it.2 (among-named it.0 (word q) (fires.words e))) fires.fires))

    declared-same : (vs : List Qual)
        → ((q : List ℕ) → is_among keys (key_at kinds.Qualifier q) ≡ true → words_have (words_of_uses vs) (word q) ≡ false)
        → map (λ u. find_qualifier u.name ds) vs ≡ map (λ u. find_qualifier u.name es) vs
    declared-same [] none = refl
    declared-same (v ∷ vs) none =
        ap (λ o. as_qualifier o ∷ map (λ u. find_qualifier u.name ds) vs)
        (sym (edits_keep_decl edits ds kinds.Qualifier v.name (own (is_among keys (key_at kinds.Qualifier v.name)) refl)))
        ∙ ap (λ rest. find_qualifier v.name es ∷ rest)
        (declared-same vs (λ q edited. (or_parts (same_word (word v.name) (word q)) (words_have (words_of_uses vs) (word q))
        (none q edited)).1))
      where
        own : (b : Bool) → is_among keys (key_at kinds.Qualifier v.name) ≡ b → b ≡ false
        own false e = refl
        own true e = absurd (false≢true (sym (or_parts (same_word (word v.name) (word v.name)) (words_have (words_of_uses vs) (word v.name))
            (none v.name e)).0 ∙ same_word_equiv.refl (word v.name)))

    is-false : (b : Bool) → not b ≡ true → b ≡ false
    is-false true h = absurd (false≢true h)
    is-false false h = refl

    -- so it is not touched
    pub untouched : is_touched ds es (EventKey t us) ≡ false
    untouched =
        let same : event_sees ds (beans ds) t us ≡ event_sees es (beans es) t us =
        λ j. record { observers = observers-same j; declared = declared-same us unedited-use j } in
        is-false (is_touched ds es (EventKey t us)) ((touched_where_seen_differs ds es (EventKey t us)).1 (ap ByEvent same))
