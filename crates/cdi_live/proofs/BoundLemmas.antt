-- A bean has the words of the bindings at its places.
use Rattle.cdi_live.proofs.Common.{◌≡◌, Bool, true, false, cond, not, ◌&&◌, List, [], ◌∷◌, map, refl, sym, ap, ◌∙◌, inl, inr, list_any}
use Rattle.cdi_live.proofs.Common.{bytes_eq, false≢true, or_cases, or_left, or_right, Decl, BeanPlace, Qual, ℕ, ◌||◌, flat_map, Option}
use Rattle.cdi_live.proofs.Common.{Some, None, list_any-append, mentions, Mention, EventOf, PointOf, TypeIn, ◌++◌, unwrap_or, option_map}
use Rattle.cdi_live.proofs.Common.{option_to_list, BeanDecl, ObserverDecl, of_bindings, of_parts, of_point, name_of_use, has, own_records}
use Rattle.cdi_live.proofs.Common.{class_bindings, Effective, Word, same_word, word_at, words_have, words_named, words_named_in}
use Rattle.cdi_live.proofs.Common.{words_as_alternative, words_of_bindings, words_of_observer, words_of_record, words_of_uses, words_by, among-named}
use Rattle.cdi_live.proofs.Common.{own_bindings, words-append, arith}
use Rattle.std.specs.List.{find}
use Rattle.cdi_model.specs.Mentions.{BodyOf, CallOf, MethodOf, StereotypeOf, UseOf, of_attributes, of_disposer, of_method, of_observer}
use Rattle.cdi_model.specs.Mentions.{of_part, of_producer}
use Rattle.cdi_model.specs.declared.decl.{MethodDecl.MethodDecl, ProducerDecl.ProducerDecl}
use Rattle.cdi_model.specs.declared.decl.Decl.TheVariants as decls
use Rattle.cdi_model.specs.declared.decl.UseKind.TheVariants as uses
use Rattle.cdi_model.specs.declared.mention.PointPlace.TheVariants as points
use Rattle.cdi_model.specs.declared.mention.TypePlace.TheVariants as types
use Rattle.cdi_model.specs.declared.place.BeanPlace.TheVariants as places
use Rattle.cdi_model.specs.declared.place.PartPlace.TheVariants as parts
use Rattle.cdi_effective.specs.Beans.{effective}
use Rattle.cdi_postings.specs.declared.word.Reason.TheVariants as reasons

abbrev word : List ℕ → Word
word n = word_at reasons.Binds n

-- ---- what is named

-- what is named in one place is a binding of the type
abbrev is_binding : List ℕ → Mention → Bool
is_binding n (UseOf uses.Binding u) = bytes_eq u.name n
is_binding n other = false

named-in : (m : Mention) (n : List ℕ) → is_binding n m ≡ true → words_have (words_named_in m) (word n) ≡ true
named-in (UseOf uses.Binding u) n h = or_left (bytes_eq u.name n) false h
named-in (UseOf uses.Qualifier u) n h = absurd (false≢true h)
named-in (PointOf place point) n h = absurd (false≢true h)
named-in (TypeIn place x) n h = absurd (false≢true h)
named-in (StereotypeOf s) n h = absurd (false≢true h)
named-in (MethodOf m) n h = absurd (false≢true h)
named-in (BodyOf place body) n h = absurd (false≢true h)
named-in (CallOf place params call) n h = absurd (false≢true h)
named-in (EventOf e) n h = absurd (false≢true h)

named-word : (ms : List Mention) (n : List ℕ) → list_any (is_binding n) ms ≡ true → words_have (flat_map words_named_in ms) (word n) ≡ true
named-word [] n h = absurd (false≢true h)
named-word (m ∷ ms) n h =
    words-append (word n) (words_named_in m) (flat_map words_named_in ms)
    ∙ elim (or_cases (is_binding n m) (list_any (is_binding n) ms) h) [
      | inl here ↦ or_left (words_have (words_named_in m) (word n)) (words_have (flat_map words_named_in ms) (word n)) (named-in m n here)
      | inr there ↦ or_right (words_have (words_named_in m) (word n)) (words_have (flat_map words_named_in ms) (word n))
          (named-word ms n there)
    ]

of-bindings : (us : List Qual) (n : List ℕ) → list_any (is_binding n) (of_bindings us) ≡ has (map name_of_use us) n
of-bindings [] n = refl
of-bindings (u ∷ us) n = ap (λ b. bytes_eq u.name n || b) (of-bindings us n)

any-left : {X : Type 0} (p : X → Bool) (xs ys : List X) → list_any p xs ≡ true → list_any p (xs ++ ys) ≡ true
any-left p xs ys h = list_any-append p xs ys ∙ or_left (list_any p xs) (list_any p ys) h

any-right : {X : Type 0} (p : X → Bool) (xs ys : List X) → list_any p ys ≡ true → list_any p (xs ++ ys) ≡ true
any-right p xs ys h = list_any-append p xs ys ∙ or_right (list_any p xs) (list_any p ys) h

-- what is found gives what it gives among all
find-in : {X : Type 0} (f : X → List Mention) (q : X → Bool) (p : Mention → Bool) (xs : List X) (x : X) → find q xs ≡ Some x
    → list_any p (f x) ≡ true → list_any p (flat_map f xs) ≡ true
find-in f q p [] x at h = absurd (let no : None ≡ Some x = at in cc)
find-in {X = X} f q p (y ∷ ys) x at h = by (q y) at (λ e. find-in f q p ys x e h)
  where
    by : (b : Bool) → cond b (Some y) (find q ys) ≡ Some x → (find q ys ≡ Some x → list_any p (flat_map f ys) ≡ true)
        → list_any p (f y ++ flat_map f ys) ≡ true
    by true e more = let one : y ≡ x = cc in any-left p (f y) (flat_map f ys) (ap (λ z. list_any p (f z)) one ∙ h)
    by false e more = any-right p (f y) (flat_map f ys) (more e)

-- ---- at a place

module _ (n : List ℕ) where
  abbrev p : Mention → Bool
  p m = is_binding n m

  in-method : (m : MethodDecl) → has (map name_of_use m.bindings) n ≡ true → list_any p (of_method m) ≡ true
  in-method m h = any-left p (of_bindings m.bindings) (of_part (parts.Method m.name) [] m.part) (of-bindings m.bindings n ∙ h)

  in-producer : (r : ProducerDecl) → has (map name_of_use r.bindings) n ≡ true → list_any p (of_producer r) ≡ true
  in-producer r h = grind (arith, r.name, r.params, r.part, r.product_type, r.attributes, r.bindings, any-left, any-right, of-bindings)

  in-observer : (o : ObserverDecl) → has (map name_of_use o.bindings) n ≡ true → list_any p (of_observer o) ≡ true
  in-observer o h = grind (arith, o.name, o.params, o.part, o.event_type, o.qualifiers, o.bindings, any-left, any-right, of-bindings)

  module _ (b : BeanDecl) where
    -- what a bean names before its methods
    abbrev first : List Mention
    first = TypeIn types.Class b.name ∷ of_attributes b.attributes ++ of_bindings b.bindings
        ++ flat_map (of_point points.Constructor) b.points
        ++ (of_parts parts.Construct b.construct ++ of_parts parts.Post b.post ++ of_parts parts.Pre b.pre)

    abbrev methods : List Mention
    methods = flat_map of_method b.methods

    abbrev producers : List Mention
    producers = flat_map of_producer b.producers

    abbrev disposers : List Mention
    disposers = flat_map of_disposer b.disposers

    abbrev observers : List Mention
    observers = flat_map of_observer b.observers

    method-named : (q : MethodDecl → Bool) (o : Option MethodDecl) → find q b.methods ≡ o
        → has (map name_of_use (unwrap_or (option_map (λ m. m.bindings) o) [])) n ≡ true → list_any p (mentions (decls.Bean b)) ≡ true
    unfolding mentions
    method-named q None at h = absurd (false≢true h)
    method-named q (Some m) at h =
        any-left p (first ++ methods ++ producers ++ disposers) observers
        (any-left p (first ++ methods ++ producers) disposers
        (any-left p (first ++ methods) producers
        (any-right p first methods (find-in of_method q p b.methods m at (in-method m h)))))

    producer-named : (q : ProducerDecl → Bool) (o : Option ProducerDecl) → find q b.producers ≡ o
        → has (map name_of_use (unwrap_or (option_map (λ m. m.bindings) o) [])) n ≡ true → list_any p (mentions (decls.Bean b)) ≡ true
    unfolding mentions
    producer-named q None at h = absurd (false≢true h)
    producer-named q (Some r) at h =
        any-left p (first ++ methods ++ producers ++ disposers) observers
        (any-left p (first ++ methods ++ producers) disposers
        (any-right p (first ++ methods) producers (find-in of_producer q p b.producers r at (in-producer r h))))

    observer-named : (q : ObserverDecl → Bool) (o : Option ObserverDecl) → find q b.observers ≡ o
        → has (map name_of_use (unwrap_or (option_map (λ m. m.bindings) o) [])) n ≡ true → list_any p (mentions (decls.Bean b)) ≡ true
    unfolding mentions
    observer-named q None at h = absurd (false≢true h)
    observer-named q (Some o) at h =
        any-right p (first ++ methods ++ producers ++ disposers) observers (find-in of_observer q p b.observers o at (in-observer o h))

    own-named : (place : BeanPlace) → has (map name_of_use (own_bindings b place)) n ≡ true → list_any p (mentions (decls.Bean b)) ≡ true
    own-named places.Construct h = absurd (false≢true h)
    own-named places.Post h = absurd (false≢true h)
    own-named places.Pre h = absurd (false≢true h)
    own-named (places.Method name) h =
        method-named (λ m. bytes_eq m.name name) (find (λ m. bytes_eq m.name name) b.methods) refl h
    own-named (places.Producer name) h =
        producer-named (λ r. bytes_eq r.name name && not r.is_static)
        (find (λ r. bytes_eq r.name name && not r.is_static) b.producers) refl h
    own-named (places.Observer name) h =
        observer-named (λ o. bytes_eq o.name name) (find (λ o. bytes_eq o.name name) b.observers) refl h

    -- a binding that a place declares of its own is among the words
    pub own-word : (ds : List Decl) (place : BeanPlace) → has (map name_of_use (own_bindings b place)) n ≡ true
        → words_have (words_by ds (decls.Bean b)) (word n) ≡ true
    own-word ds place h =
        let own : List Word = flat_map words_of_record (own_records ds b) in
        let more : List Word = flat_map words_of_observer b.observers in
        let named : List Word = words_named (decls.Bean b) in
        words-append (word n) (own ++ more) named
        ∙ or_right (words_have (own ++ more) (word n)) (words_have named (word n))
        (among-named (decls.Bean b) (word n) (named-word (mentions (decls.Bean b)) n (own-named place h)))

    bound-has : (us : List Qual) → words_have (words_of_bindings us) (word n) ≡ has (map name_of_use us) n
    bound-has [] = refl
    bound-has (u ∷ us) = ap (λ c. bytes_eq u.name n || c) (bound-has us)

    in-record : (r : Effective) (rest : List Word) → has (map name_of_use r.bindings) n ≡ true
        → words_have (words_of_record r ++ rest) (word n) ≡ true
    in-record r rest h =
        let types : List Word = map (word_at reasons.HasType) r.types in
        let names : List Word = map (word_at reasons.HasName) (option_to_list r.name) in
        let quals : List Word = words_of_uses r.qualifiers in
        let bindings : List Word = words_of_bindings r.bindings in
        let served : List Word = words_as_alternative r in
        let bound : List Word = bindings ++ served in
        any-left (λ v. same_word v (word n)) (types ++ (names ++ (quals ++ bound))) rest
        (any-right (λ v. same_word v (word n)) types (names ++ (quals ++ bound))
        (any-right (λ v. same_word v (word n)) names (quals ++ bound)
        (any-right (λ v. same_word v (word n)) quals bound
        (any-left (λ v. same_word v (word n)) bindings served (bound-has r.bindings ∙ h)))))

    class-in-records : (ds : List Decl) → has (map name_of_use (class_bindings ds b)) n ≡ true
        → words_have (flat_map words_of_record (own_records ds b)) (word n) ≡ true
    unfolding effective
    class-in-records ds h = by (own_records ds b) refl h
      where
        by : (rs : List Effective) → own_records ds b ≡ rs → has (map name_of_use (class_bindings ds b)) n ≡ true
            → words_have (flat_map words_of_record rs) (word n) ≡ true
        by [] e h = absurd (let no : own_records ds b ≡ [] = e in cc)
        by (r ∷ rs) e h =
            let one : class_bindings ds b ≡ r.bindings = ap first_bindings e in
            in-record r (flat_map words_of_record rs) (ap (λ us. has (map name_of_use us) n) (sym one) ∙ h)
          where
            first_bindings : List Effective → List Qual
            first_bindings [] = []
            first_bindings (x ∷ xs) = x.bindings

    -- and so is one of its class
    pub class-word : (ds : List Decl) → has (map name_of_use (class_bindings ds b)) n ≡ true
        → words_have (words_by ds (decls.Bean b)) (word n) ≡ true
    class-word ds h =
        let own : List Word = flat_map words_of_record (own_records ds b) in
        let more : List Word = flat_map words_of_observer b.observers in
        any-left (λ v. same_word v (word n)) (own ++ more) (words_named (decls.Bean b))
        (any-left (λ v. same_word v (word n)) own more (class-in-records ds h))
