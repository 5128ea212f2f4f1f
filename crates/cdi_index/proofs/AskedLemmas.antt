-- The declarations that ask for a bean of a type, or for who observes an event of it, are found by its word.
use Rattle.cdi_index.proofs.Common.{◌≡◌, ℕ, Bool, true, false, ◌||◌, List, [], ◌∷◌, map, Option, Some, None, option_map, refl, sym}
use Rattle.cdi_index.proofs.Common.{ap, ◌∙◌, list_any, Decl, DeclKey, key_at, find_decl, Qual, as_bean, made_of_bean}
use Rattle.cdi_index.proofs.Common.{made_of_interceptor, ◌++◌, flat_map, option_map_or, option_to_list, bytes_eq, and_parts}
use Rattle.cdi_index.proofs.Common.{false≢true, or_cases, or_left, or_right, list_any-append, inl, inr, key_of, kind_of, name_of_decl}
use Rattle.cdi_index.proofs.Common.{AreDistinct, mentions, Mention, BodyOf, CallOf, EventOf, MethodOf, PointOf, StereotypeOf, TypeIn, UseOf}
use Rattle.cdi_index.proofs.Common.{required, Word, Listing, under, same_word, word_at, asks_for, asks_in, is_asked, bytes_eq-turned}
use Rattle.cdi_index.proofs.Common.{is_asker, Asked, Kept, Stored, IsExact, IsSound, words_have, words_named}
use Rattle.cdi_index.proofs.Common.{words_named_in, words_of_uses, words_by, same-bool, arith}
use Rattle.std.specs.Cmp.Lexicographic.{pointwise}
use Rattle.cdi_model.specs.declared.{decl.TypeDecl.TypeDecl, decl.UseKind.UseKind, mention.TypePlace.TypePlace}
use Rattle.cdi_model.specs.{SameUse.same_qual, Mentions.of_bindings}
use Rattle.cdi_model.specs.declared.decl.Decl.TheVariants as decls
use Rattle.cdi_model.specs.declared.decl.Kind.TheVariants as kinds
use Rattle.cdi_model.specs.declared.mention.TypePlace.TheVariants as places
use Rattle.cdi_model.specs.declared.decl.UseKind.TheVariants as uses
use Rattle.cdi_postings.specs.declared.word.Reason.TheVariants as reasons
use Rattle.cdi_index.proofs.CountLemmas.{keys-distinct}
use Rattle.cdi_index.proofs.NamedLemmas.{among-interceptor, among-named}
use Rattle.cdi_index.proofs.NextLemmas.{any-elim}
use Rattle.cdi_index.proofs.ReplacedLemmas.{any-at, passing}
use Rattle.cdi_index.proofs.UnderLemmas.{listed-at}
use Rattle.cdi_index.specs.{Slots.AreAtSlots, AskedAt.reason_of, declared.asked.Question.Question}
use Rattle.cdi_index.specs.declared.asked.Question.TheVariants as questions

module _ (q : Question) (t : List ℕ) (us : List Qual) where
  abbrev word : Word
  word = word_at (reason_of q) t

  -- what asks in one place has the word there
  asked-in : (m : Mention) → asks_in q t us m ≡ true → words_have (words_named_in m) word ≡ true
  asked-in m h = by q m h
    where
      by : (q : Question) (m : Mention) → asks_in q t us m ≡ true → words_have (words_named_in m) (word_at (reason_of q) t) ≡ true
      by questions.Choice (PointOf place point) h =
          let parts = and_parts (bytes_eq t point.required_type) (pointwise same_qual us (required point.qualifiers)) h in
          or_left (bytes_eq point.required_type t) (words_have (words_of_uses (required point.qualifiers)) (word_at reasons.Asks t))
          (bytes_eq-turned point.required_type t ∙ parts.0)
      by questions.Choice (TypeIn place x) h = absurd (false≢true h)
      by questions.Choice (UseOf kind u) h = absurd (false≢true h)
      by questions.Choice (StereotypeOf s) h = absurd (false≢true h)
      by questions.Choice (MethodOf m) h = absurd (false≢true h)
      by questions.Choice (BodyOf place body) h = absurd (false≢true h)
      by questions.Choice (CallOf place params call) h = absurd (false≢true h)
      by questions.Choice (EventOf e) h = absurd (false≢true h)
      by questions.Event (EventOf e) h =
          let parts = and_parts (bytes_eq t e.event_type) (pointwise same_qual us e.qualifiers) h in
          or_left (bytes_eq e.event_type t) (words_have (words_of_uses e.qualifiers) (word_at reasons.Fires t))
          (bytes_eq-turned e.event_type t ∙ parts.0)
      by questions.Event (PointOf place point) h = absurd (false≢true h)
      by questions.Event other h = absurd (false≢true h)

  asked-among : (ms : List Mention) → list_any (asks_in q t us) ms ≡ true → words_have (flat_map words_named_in ms) word ≡ true
  asked-among [] h = absurd (false≢true h)
  asked-among (m ∷ ms) h =
      list_any-append (λ v. same_word v word) (words_named_in m) (flat_map words_named_in ms)
      ∙ elim (or_cases (asks_in q t us m) (list_any (asks_in q t us) ms) h) [
        | inl here ↦ or_left (words_have (words_named_in m) word) (words_have (flat_map words_named_in ms) word) (asked-in m here)
        | inr later ↦ or_right (words_have (words_named_in m) word) (words_have (flat_map words_named_in ms) word) (asked-among ms later)
      ]

  named : (d : Decl) → asks_for q t us d ≡ true → words_have (words_named d) word ≡ true
  unfolding asks_for
  named d h = among-named d word (asked-among (mentions d) h)

  -- declarations without points ask for nothing
  no-type : (place : TypePlace) (xs : List (List ℕ)) → list_any (asks_in q t us) (map (TypeIn place) xs) ≡ false
  no-type place [] = refl
  no-type place (x ∷ xs) = ap (λ b. b || list_any (asks_in q t us) (map (TypeIn place) xs)) (by q) ∙ no-type place xs
    where
      by : (q : Question) → asks_in q t us (TypeIn place x) ≡ false
      by questions.Choice = refl
      by questions.Event = refl

  no-use : (kind : UseKind) (xs : List Qual) → list_any (asks_in q t us) (map (UseOf kind) xs) ≡ false
  no-use kind [] = refl
  no-use kind (x ∷ xs) = ap (λ b. b || list_any (asks_in q t us) (map (UseOf kind) xs)) (by q) ∙ no-use kind xs
    where
      by : (q : Question) → asks_in q t us (UseOf kind x) ≡ false
      by questions.Choice = refl
      by questions.Event = refl

  no-stereotype : (xs : List (List ℕ)) → list_any (asks_in q t us) (map StereotypeOf xs) ≡ false
  no-stereotype [] = refl
  no-stereotype (x ∷ xs) = ap (λ b. b || list_any (asks_in q t us) (map StereotypeOf xs)) (by q) ∙ no-stereotype xs
    where
      by : (q : Question) → asks_in q t us (StereotypeOf x) ≡ false
      by questions.Choice = refl
      by questions.Event = refl

  neither : (xs ys : List Mention) → list_any (asks_in q t us) xs ≡ false → list_any (asks_in q t us) ys ≡ false
      → list_any (asks_in q t us) (xs ++ ys) ≡ false
  neither xs ys none more = list_any-append (asks_in q t us) xs ys ∙ ap (λ b. b || list_any (asks_in q t us) ys) none ∙ more

  abbrev extends : TypeDecl → List Mention
  extends d = map (TypeIn places.Extends) (option_to_list d.extends)

  -- so the words of what a declaration that asks names are words of it
  pub words-of-asker : (ds : List Decl) (d : Decl) (w : Word) → asks_for q t us d ≡ true → words_have (words_named d) w ≡ true
      → words_have (words_by ds d) w ≡ true
  unfolding asks_for mentions
  words-of-asker ds (decls.Bean b) w asking has = grind (arith, b.observers, list_any-append)
  words-of-asker ds (decls.Interceptor i) w asking has = among-interceptor (decls.Interceptor i) w has
  words-of-asker ds (decls.Type d) w asking has = absurd (false≢true (sym (neither (extends d) (map (TypeIn places.Implements) d.implements)
      (no-type places.Extends (option_to_list d.extends)) (no-type places.Implements d.implements)) ∙ asking))
  words-of-asker ds (decls.Qualifier d) w asking has = absurd (false≢true asking)
  words-of-asker ds (decls.Binding d) w asking has = absurd (false≢true (sym (no-use uses.Binding d.declares) ∙ asking))
  words-of-asker ds (decls.Stereotype d) w asking has = absurd
      (false≢true (sym (neither (map StereotypeOf d.stereotypes) (of_bindings d.bindings)
      (no-stereotype d.stereotypes) (no-use uses.Binding d.bindings)) ∙ asking))

  module _ (ds : List Decl) (m : DeclKey → Option Stored) (kept : ℕ → Option Kept) (listings : List Listing) (at_slots : AreAtSlots m kept)
      (exact : IsExact ds m) (sound : IsSound m listings) (distinct : AreDistinct ds) (asked : Asked)
      (same_question : asked.question ≡ q) (same_name : asked.name.now ≡ t) (same_uses : asked.uses.now ≡ us) where
    abbrev asks : Decl → Bool
    asks d = asks_for asked.question asked.name.now asked.uses.now d

    asks-same : (d : Decl) → asks d ≡ asks_for q t us d
    asks-same d = ap (λ x. asks_for x asked.name.now asked.uses.now d) same_question
        ∙ ap (λ x. asks_for q x asked.uses.now d) same_name ∙ ap (λ x. asks_for q t x d) same_uses

    abbrev asks_at : ℕ → Bool
    asks_at s = is_asker ds asked (kept s)

    -- one that asks is there
    only : list_any asks_at (under listings word) ≡ true → is_asked ds q t us ≡ true
    only h = any-elim asks_at (under listings word) h (λ s asker. by (kept s) asker)
      where
        at : (e : Kept) (o : Option Decl) → find_decl e.key.kind e.key.name ds ≡ o → option_map_or asks o false ≡ true
            → is_asked ds q t us ≡ true
        at e None is none = absurd (false≢true none)
        at e (Some d) is found = any-at (asks_for q t us) e.key.kind e.key.name ds d is (sym (asks-same d) ∙ found)

        by : (o : Option Kept) → is_asker ds asked o ≡ true → is_asked ds q t us ≡ true
        by None none = absurd (false≢true none)
        by (Some e) asker = at e (find_decl e.key.kind e.key.name ds) refl asker

    -- and one that is there is listed
    back : is_asked ds q t us ≡ true → list_any asks_at (under listings word) ≡ true
    back h =
        let it = passing (asks_for q t us) ds (keys-distinct ds distinct) h in
        by it.one it.there it.passes (words-of-asker ds it.one word it.passes (named it.one it.passes))
      where
        slot : (d : Decl) → find_decl (kind_of d) (name_of_decl d) ds ≡ Some d → asks_for q t us d ≡ true → (s : ℕ) (e : Kept)
            → kept s ≡ Some e → e.key ≡ key_of d → asks_at s ≡ true
        slot d there asking s e at key =
            ap (is_asker ds asked) at
            ∙ ap (λ (k : DeclKey). option_map_or asks (find_decl k.kind k.name ds) false) key
            ∙ ap (λ o. option_map_or asks o false) there ∙ asks-same d ∙ asking

        -- what is made of a declaration that has words
        by : (d : Decl) → find_decl (kind_of d) (name_of_decl d) ds ≡ Some d → asks_for q t us d ≡ true
            → words_have (words_by ds d) word ≡ true → list_any asks_at (under listings word) ≡ true
        by (decls.Bean b) there asking has = listed-at ds m kept listings at_slots exact sound distinct word (key_at kinds.Bean b.name)
            (made_of_bean ds b) asks_at (ap (λ o. option_map (made_of_bean ds) (as_bean o)) there) has
            (λ s e at key made. slot (decls.Bean b) there asking s e at key)
        by (decls.Interceptor i) there asking has = listed-at ds m kept listings at_slots exact sound distinct word
            (key_at kinds.Interceptor i.name) (made_of_interceptor (decls.Interceptor i)) asks_at
            (ap (option_map made_of_interceptor) there) has
            (λ s e at key made. slot (decls.Interceptor i) there asking s e at key)
        by other there asking has = absurd (false≢true has)

    pub askers-are : list_any asks_at (under listings word) ≡ is_asked ds q t us
    askers-are = same-bool (list_any asks_at (under listings word)) (is_asked ds q t us) only back
