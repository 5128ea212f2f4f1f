-- The beans that are sought are among those of the declarations that have the words.
use Rattle.cdi_index.proofs.Common.{◌≡◌, ℕ, Bool, true, false, ◌&&◌, ◌||◌, List, [], ◌∷◌, map, Option, Some, None, refl, sym, ap, ◌∙◌, list_any}
use Rattle.cdi_index.proofs.Common.{name_of_use, or_parts, BeanDecl, Decl, Qual, own_records, Effective, ◌++◌, flat_map, option_to_list, bytes_eq}
use Rattle.cdi_index.proofs.Common.{list_any-append, Mention, BodyOf, CallOf, EventOf, MethodOf, PointOf, StereotypeOf, TypeIn, UseOf}
use Rattle.cdi_index.proofs.Common.{required, Word, same_word, word_at, words_have, words_named, words_named_in, bytes_eq-turned}
use Rattle.cdi_index.proofs.Common.{words_of_observer, words_of_record, words_of_uses, suc, cond, filter, slice_get, words_written_in, has}
use Rattle.cdi_index.proofs.Common.{unless_replaced, records_are_own, entries, beans_under, has_one, beans, has_name, observes_one}
use Rattle.cdi_index.proofs.Common.{or-false, any-same, any-or, arith}
use Rattle.std.specs.Prelude.{if◌then◌else◌}
use Rattle.std.proofs.lemmas.List.Elements.{filter-append}
use Rattle.base_lists.proofs.{Any.any-none, Filters.filter-each, Filters.filter-same}
use Rattle.cdi_model.specs.declared.decl.ObserverDecl.{ObserverDecl}
use Rattle.cdi_model.specs.declared.decl.Decl.TheVariants as decls
use Rattle.cdi_model.specs.declared.decl.UseKind.TheVariants as uses
use Rattle.cdi_postings.specs.declared.word.Reason.TheVariants as reasons
use Rattle.cdi_index.specs.Made.{serves_as_alternative, words_as_alternative, words_of_bean, words_of_bindings, words_of_interceptor}

-- ---- where others give nothing that is sought

pub filter-under : {X Y : Type 0} (f : X → List Y) (test : X → Bool) (q : Y → Bool) (xs : List X)
    → ((i : ℕ) (x : X) → slice_get xs i ≡ Some x → test x ≡ false → filter q (f x) ≡ [])
    → filter q (flat_map f (filter test xs)) ≡ filter q (flat_map f xs)
filter-under f test q [] gives = refl
filter-under f test q (x ∷ xs) gives = by (test x) refl (filter-under f test q xs (λ i. gives (suc i)))
  where
    by : (b : Bool) → test x ≡ b → filter q (flat_map f (filter test xs)) ≡ filter q (flat_map f xs)
        → filter q (flat_map f (cond b (x ∷ filter test xs) (filter test xs))) ≡ filter q (flat_map f (x ∷ xs))
    by true e rest =
        filter-append q (f x) (flat_map f (filter test xs)) ∙ ap (λ ys. filter q (f x) ++ ys) rest
        ∙ sym (filter-append q (f x) (flat_map f xs))
    by false e rest = rest ∙ ap (λ ys. ys ++ filter q (flat_map f xs)) (sym (gives 0 x refl e))
        ∙ sym (filter-append q (f x) (flat_map f xs))

-- ---- the words of records

-- a list of words of names has the word of one just where the names have that
pub types-have : (types : List (List ℕ)) (t : List ℕ)
    → words_have (map (word_at reasons.HasType) types) (word_at reasons.HasType t) ≡ has types t
types-have [] t = refl
types-have (s ∷ types) t = ap (λ b. bytes_eq s t || b) (types-have types t)

types-served : (types : List (List ℕ)) (t : List ℕ)
    → words_have (map (word_at reasons.HasTypeAsAlternative) types) (word_at reasons.HasTypeAsAlternative t) ≡ has types t
types-served [] t = refl
types-served (s ∷ types) t = ap (λ b. bytes_eq s t || b) (types-served types t)

alternative-has : (t : List ℕ) (x : Effective)
    → words_have (words_as_alternative x) (word_at reasons.HasTypeAsAlternative t) ≡ (serves_as_alternative x && has x.types t)
alternative-has t x = by (serves_as_alternative x)
  where
    by : (b : Bool)
        → words_have (if b then map (word_at reasons.HasTypeAsAlternative) x.types else []) (word_at reasons.HasTypeAsAlternative t)
        ≡ (b && has x.types t)
    by true = types-served x.types t
    by false = refl

name-has : (o : Option (List ℕ)) (name : List ℕ) (x : Effective) → x.name ≡ o
    → words_have (map (word_at reasons.HasName) (option_to_list x.name)) (word_at reasons.HasName name) ≡ has_name name x
name-has None name x is = rw is refl
name-has (Some own) name x is = rw is (or-false (bytes_eq own name))

-- what the words of a record and of others have
module _ (w : Word) where
  abbrev is_word : Word → Bool
  is_word v = same_word v w

  pub words-append : (xs ys : List Word) → words_have (xs ++ ys) w ≡ (words_have xs w || words_have ys w)
  words-append xs ys = list_any-append is_word xs ys

  -- where none of the words is this one, none of the records passes a test that says so
  none-sought : (q : Effective → Bool) (r : Bool)
      → ((x : Effective) → words_have (words_of_record x) w ≡ false → q (unless_replaced r x) ≡ false)
      → (own : List Effective) → words_have (flat_map words_of_record own) w ≡ false → filter q (map (unless_replaced r) own) ≡ []
  none-sought q r says [] none = refl
  none-sought q r says (x ∷ own) none =
      let rest : List Word = flat_map words_of_record own in
      let parts = or_parts (words_have (words_of_record x) w) (words_have rest w) (sym (words-append (words_of_record x) rest) ∙ none) in
      ap (λ b. cond b (unless_replaced r x ∷ filter q (map (unless_replaced r) own)) (filter q (map (unless_replaced r) own)))
      (says x parts.0)
      ∙ none-sought q r says own parts.1

  -- so a declaration that has not the word gives no bean that passes it
  none-given : (q : Effective → Bool)
      → ((r : Bool) (x : Effective) → words_have (words_of_record x) w ≡ false → q (unless_replaced r x) ≡ false)
      → (ds : List Decl) (d : Decl) → has_one ds (w ∷ []) d ≡ false → filter q (entries ds d) ≡ []
  none-given q says ds (decls.Bean b) none = grind (arith, b.name, b.observers, words-append, or-false, records_are_own, none-sought)
  none-given q says ds (decls.Type d) none = refl
  none-given q says ds other none = refl

-- ---- what is found

no-type : (t : List ℕ) (r : Bool) (x : Effective) → words_have (words_of_record x) (word_at reasons.HasType t) ≡ false
    → has (unless_replaced r x).types t ≡ false
no-type t r x none = grind (arith, x.types, x.name, x.qualifiers, x.bindings, words-append, types-have)

no-alternative : (t : List ℕ) (r : Bool) (x : Effective)
    → words_have (words_of_record x) (word_at reasons.HasTypeAsAlternative t) ≡ false
    → (serves_as_alternative (unless_replaced r x) && has (unless_replaced r x).types t) ≡ false
no-alternative t r x none =
    grind (arith, x.types, x.name, x.qualifiers, x.bindings, words_as_alternative x, words-append, alternative-has)

no-name : (n : List ℕ) (r : Bool) (x : Effective) → words_have (words_of_record x) (word_at reasons.HasName n) ≡ false
    → has_name n (unless_replaced r x) ≡ false
no-name n r x none = grind (arith, x.types, x.name, x.qualifiers, x.bindings, words-append, name-has)

-- a declaration that has not the word of a type has no bean of it
pub none-of-type : (ds : List Decl) (d : Decl) (t : List ℕ) → has_one ds (word_at reasons.HasType t ∷ []) d ≡ false
    → filter (λ b. has b.types t) (entries ds d) ≡ []
none-of-type ds d t none = none-given (word_at reasons.HasType t) (λ b. has b.types t) (no-type t) ds d none

pub of-type : (ds : List Decl) (t : List ℕ)
    → filter (λ b. has b.types t) (beans_under ds (word_at reasons.HasType t ∷ [])) ≡ filter (λ b. has b.types t) (beans ds)
unfolding beans
of-type ds t = grind (arith, filter-under, none-of-type)

pub of-alternatives : (ds : List Decl) (t : List ℕ)
    → filter (λ b. serves_as_alternative b && has b.types t) (beans_under ds (word_at reasons.HasTypeAsAlternative t ∷ []))
    ≡ filter (λ b. serves_as_alternative b && has b.types t) (beans ds)
unfolding beans
of-alternatives ds t =
    let w : Word = word_at reasons.HasTypeAsAlternative t in
    let q : Effective → Bool = λ b. serves_as_alternative b && has b.types t in
    filter-under (entries ds) (has_one ds (w ∷ [])) q ds (λ i d there. none-given w q (no-alternative t) ds d)

pub of-name : (ds : List Decl) (n : List ℕ)
    → filter (has_name n) (beans_under ds (word_at reasons.HasName n ∷ [])) ≡ filter (has_name n) (beans ds)
unfolding beans
of-name ds n =
    let w : Word = word_at reasons.HasName n in
    filter-under (entries ds) (has_one ds (w ∷ [])) (has_name n) ds
    (λ i d there. none-given w (has_name n) (no-name n) ds d)

-- ---- observer methods

none-typed : (types : List (List ℕ)) (t : List ℕ) → words_have (map (word_at reasons.HasType) types) (word_at reasons.Observes t) ≡ false
none-typed [] t = refl
none-typed (s ∷ types) t = none-typed types t

none-named : (o : Option (List ℕ)) (t : List ℕ)
    → words_have (map (word_at reasons.HasName) (option_to_list o)) (word_at reasons.Observes t) ≡ false
none-named None t = refl
none-named (Some n) t = refl

none-used : (us : List Qual) (t : List ℕ) → words_have (words_of_uses us) (word_at reasons.Observes t) ≡ false
none-used [] t = refl
none-used (u ∷ us) t = none-used us t

none-bound : (us : List Qual) (t : List ℕ) → words_have (words_of_bindings us) (word_at reasons.Observes t) ≡ false
none-bound [] t = refl
none-bound (u ∷ us) t = none-bound us t

none-as-alternative : (x : Effective) (t : List ℕ) → words_have (words_as_alternative x) (word_at reasons.Observes t) ≡ false
none-as-alternative x t = by (serves_as_alternative x)
  where
    unlike : (types : List (List ℕ)) → words_have (map (word_at reasons.HasTypeAsAlternative) types) (word_at reasons.Observes t) ≡ false
    unlike [] = refl
    unlike (s ∷ types) = unlike types

    by : (b : Bool) → words_have (if b then map (word_at reasons.HasTypeAsAlternative) x.types else []) (word_at reasons.Observes t) ≡ false
    by true = unlike x.types
    by false = refl

none-of-records : (own : List Effective) (t : List ℕ) → words_have (flat_map words_of_record own) (word_at reasons.Observes t) ≡ false
none-of-records [] t = refl
none-of-records (x ∷ own) t =
    grind (arith, none-of-records own t, words-append, none-typed, none-named, none-used, none-bound, none-as-alternative)

-- what a declaration names has no word of what observer methods observe
none-in : (m : Mention) (t : List ℕ) → words_have (words_named_in m) (word_at reasons.Observes t) ≡ false
none-in (PointOf place point) t = none-used (required point.qualifiers) t
none-in (TypeIn place x) t = refl
none-in (UseOf uses.Qualifier u) t = refl
none-in (UseOf uses.Binding u) t = refl
none-in (StereotypeOf s) t = refl
none-in (MethodOf m) t = refl
none-in (BodyOf place body) t = refl
none-in (CallOf place params call) t = refl
none-in (EventOf e) t = none-used e.qualifiers t

none-in-any : (ms : List Mention) (t : List ℕ) → words_have (flat_map words_named_in ms) (word_at reasons.Observes t) ≡ false
none-in-any [] t = refl
none-in-any (m ∷ ms) t = grind (arith, none-in-any ms t, words-append, none-in)

none-written : (m : Mention) (t : List ℕ) → words_have (words_written_in m) (word_at reasons.Observes t) ≡ false
none-written (PointOf place point) t = refl
none-written (TypeIn place x) t = refl
none-written (UseOf uses.Qualifier u) t = refl
none-written (UseOf uses.Binding u) t = refl
none-written (StereotypeOf s) t = refl
none-written (MethodOf m) t = refl
none-written (BodyOf place body) t = refl
none-written (CallOf place params call) t = refl
none-written (EventOf e) t = refl

none-written-any : (ms : List Mention) (t : List ℕ) → words_have (flat_map words_written_in ms) (word_at reasons.Observes t) ≡ false
none-written-any [] t = refl
none-written-any (m ∷ ms) t = grind (arith, none-written-any ms t, words-append, none-written)

none-of-named : (d : Decl) (t : List ℕ) → words_have (words_named d) (word_at reasons.Observes t) ≡ false
unfolding words_named
none-of-named d t = grind (arith, words-append, none-in-any, none-written-any)

none-intercepting : (us : List Qual) (t : List ℕ)
    → words_have (map (λ u. word_at reasons.Intercepts (name_of_use u)) us) (word_at reasons.Observes t) ≡ false
none-intercepting [] t = refl
none-intercepting (u ∷ us) t = none-intercepting us t

observed : (observers : List ObserverDecl) (t : List ℕ)
    → words_have (flat_map words_of_observer observers) (word_at reasons.Observes t)
    ≡ list_any (λ o. bytes_eq t o.event_type) observers
observed [] t = refl
observed (o ∷ observers) t =
    grind (arith, observed observers t, o.event_type, o.qualifiers, words-append, none-used, or-false, bytes_eq-turned)

words-observed : (ds : List Decl) (b : BeanDecl) (t : List ℕ)
    → words_have (words_of_bean ds b) (word_at reasons.Observes t) ≡ list_any (λ o. bytes_eq t o.event_type) b.observers
words-observed ds b t =
    let w : Word = word_at reasons.Observes t in
    let own : List Word = flat_map words_of_record (own_records ds b) in
    let more : List Word = flat_map words_of_observer b.observers in
    words-append w (own ++ more) (words_named (decls.Bean b))
    ∙ ap (λ c. words_have (own ++ more) w || c) (none-of-named (decls.Bean b) t)
    ∙ or-false (words_have (own ++ more) w)
    ∙ words-append w own more
    ∙ ap (λ c. c || words_have more w) (none-of-records (own_records ds b) t) ∙ observed b.observers t

in-turn : (observers : List ObserverDecl) (types : List (List ℕ))
    → list_any (λ t. list_any (λ (o : ObserverDecl). bytes_eq t o.event_type) observers) types
    ≡ list_any (λ (o : ObserverDecl). has types o.event_type) observers
in-turn [] types = any-none types
in-turn (o ∷ observers) types =
    any-or (λ t. bytes_eq t o.event_type) (λ t. list_any (λ (x : ObserverDecl). bytes_eq t x.event_type) observers) types
    ∙ ap (λ b. has types o.event_type || b) (in-turn observers types)

mapped : (p : Word → Bool) (types : List (List ℕ))
    → list_any p (map (word_at reasons.Observes) types) ≡ list_any (λ t. p (word_at reasons.Observes t)) types
mapped p [] = refl
mapped p (t ∷ types) = ap (λ b. p (word_at reasons.Observes t) || b) (mapped p types)

none-had : (words : List Word) → list_any (words_have []) words ≡ false
none-had words = any-none words

pub observing-one : (ds : List Decl) (types : List (List ℕ)) (d : Decl)
    → has_one ds (map (word_at reasons.Observes) types) d ≡ observes_one types d
observing-one ds types (decls.Bean b) =
    mapped (words_have (words_of_bean ds b)) types
    ∙ any-same (λ t. words_have (words_of_bean ds b) (word_at reasons.Observes t))
    (λ t. list_any (λ (o : ObserverDecl). bytes_eq t o.event_type) b.observers) types (words-observed ds b)
    ∙ in-turn b.observers types
observing-one ds types (decls.Interceptor d) = none-among types
  where
    words : List Word
    words = words_of_interceptor (decls.Interceptor d)

    none-had-by : (t : List ℕ) → words_have words (word_at reasons.Observes t) ≡ false
    none-had-by t = grind (arith, d.bindings, words-append, none-intercepting, none-of-named)

    none-among : (types : List (List ℕ)) → list_any (words_have words) (map (word_at reasons.Observes) types) ≡ false
    none-among [] = refl
    none-among (t ∷ types) =
        ap (λ b. b || list_any (words_have words) (map (word_at reasons.Observes) types)) (none-had-by t) ∙ none-among types
observing-one ds types other = none-had (map (word_at reasons.Observes) types)

pub of-observers : (ds : List Decl) (types : List (List ℕ))
    → filter (λ b. true) (beans_under ds (map (word_at reasons.Observes) types))
    ≡ flat_map (entries ds) (filter (observes_one types) ds)
of-observers ds types = grind (arith, filter-each, filter-same, observing-one)
