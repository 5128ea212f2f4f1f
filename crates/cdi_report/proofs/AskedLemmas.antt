-- A declaration is listed under the words of what it asks for.
use Rattle.cdi_model.specs.declared.decl.InterceptorDecl.{InterceptorDecl}
use Rattle.cdi_index.proofs.NamedLemmas.{among-interceptor}
use Rattle.cdi_report.proofs.Common.{◌≡◌, ℕ, true, List, [], ◌∷◌, ◌++◌, map, flat_map, refl, sym, ap, subst, ◌∙◌, AllByRecursion}
use Rattle.cdi_report.proofs.Common.{option_to_list, or_left, or_right, list_any-append, key_at, mentions, Mention, UseOf, BeanDecl, Decl}
use Rattle.cdi_report.proofs.Common.{Qual, PointDecl, Word, same_word, word_at, words_have, words_named_in, words_of_uses, points_of, ◌||◌}
use Rattle.cdi_report.proofs.Common.{key_of, BeanPlace, required, places_of, words_by, ChainKey, ChoiceKey, EventKey, Key, asked_by}
use Rattle.cdi_report.proofs.Common.{chains_by, events_by, key_of_point, wanted_by, PointOf, StereotypeOf, TypeIn, BindingDecl}
use Rattle.cdi_report.proofs.Common.{StereotypeDecl, TypeDecl, UseKind, TypePlace, words_of_point, among-named, point_named, arith}
use Rattle.std.proofs.Common.{append_assoc}
use Rattle.cdi_model.specs.{Mentions.EventOf, declared.decl.QualifierDecl.QualifierDecl}
use Rattle.cdi_model.specs.declared.decl.Decl.TheVariants as decls
use Rattle.cdi_model.specs.declared.decl.Kind.TheVariants as kinds
use Rattle.cdi_model.specs.declared.decl.UseKind.TheVariants as uses
use Rattle.cdi_model.specs.declared.mention.TypePlace.TheVariants as types
use Rattle.cdi_postings.specs.declared.word.Reason.TheVariants as reasons
use Rattle.cdi_index.specs.Made.{words_of_event}
use Rattle.cdi_observe.specs.Wanted.{event_in}
use Rattle.cdi_report.proofs.ApartLemmas.{first-has}

-- ---- declarations that name only types, uses and stereotypes

-- Nothing that is listed stands in these places.
record AreApart {X : Type 0} (named : Mention → List X) : Type 0 where
  types : (place : TypePlace) (t : List ℕ) → named (TypeIn place t) ≡ []
  uses : (kind : UseKind) (u : Qual) → named (UseOf kind u) ≡ []
  stereotypes : (s : List ℕ) → named (StereotypeOf s) ≡ []

module _ {X : Type 0} (named : Mention → List X) (apart : AreApart named) where
  none-of-types : (place : TypePlace) (ts : List (List ℕ)) → flat_map named (map (TypeIn place) ts) ≡ []
  none-of-types place [] = refl
  none-of-types place (t ∷ ts) = ap (λ l. l ++ flat_map named (map (TypeIn place) ts)) (apart.types place t) ∙ none-of-types place ts

  none-of-uses : (kind : UseKind) (us : List Qual) → flat_map named (map (UseOf kind) us) ≡ []
  none-of-uses kind [] = refl
  none-of-uses kind (u ∷ us) = ap (λ l. l ++ flat_map named (map (UseOf kind) us)) (apart.uses kind u) ∙ none-of-uses kind us

  none-of-stereotypes : (ss : List (List ℕ)) → flat_map named (map StereotypeOf ss) ≡ []
  none-of-stereotypes [] = refl
  none-of-stereotypes (s ∷ ss) = ap (λ l. l ++ flat_map named (map StereotypeOf ss)) (apart.stereotypes s) ∙ none-of-stereotypes ss

  named-append : (xs ys : List Mention) → flat_map named (xs ++ ys) ≡ flat_map named xs ++ flat_map named ys
  named-append [] ys = refl
  named-append (x ∷ xs) ys = ap (λ l. named x ++ l) (named-append xs ys)
      ∙ sym (append_assoc (named x) (flat_map named xs) (flat_map named ys))

  none-of-both : (xs ys : List Mention) → flat_map named xs ≡ [] → flat_map named ys ≡ [] → flat_map named (xs ++ ys) ≡ []
  none-of-both xs ys none more = named-append xs ys ∙ ap (λ l. l ++ flat_map named ys) none ∙ more

  none-of-type : (t : TypeDecl) → flat_map named (mentions (decls.Type t)) ≡ []
  unfolding mentions
  none-of-type t = none-of-both (map (TypeIn types.Extends) (option_to_list t.extends)) (map (TypeIn types.Implements) t.implements)
      (none-of-types types.Extends (option_to_list t.extends)) (none-of-types types.Implements t.implements)

  none-of-qualifier : (q : QualifierDecl) → flat_map named (mentions (decls.Qualifier q)) ≡ []
  unfolding mentions
  none-of-qualifier q = refl

  none-of-binding : (b : BindingDecl) → flat_map named (mentions (decls.Binding b)) ≡ []
  unfolding mentions
  none-of-binding b = none-of-uses uses.Binding b.declares

  none-of-stereotype : (s : StereotypeDecl) → flat_map named (mentions (decls.Stereotype s)) ≡ []
  unfolding mentions
  none-of-stereotype s = none-of-both (map StereotypeOf s.stereotypes) (map (UseOf uses.Binding) s.bindings)
      (none-of-stereotypes s.stereotypes) (none-of-uses uses.Binding s.bindings)

no-points : AreApart point_named
no-points = record { types = λ place t. refl; uses = λ kind u. refl; stereotypes = λ s. refl }

no-events : AreApart event_in
no-events = record { types = λ place t. refl; uses = λ kind u. refl; stereotypes = λ s. refl }

-- ---- words

module _ (ds : List Decl) (d : Decl) where
  -- it has the word of the type for which a point asks
  abbrev pub IsPointListed : PointDecl → Type 0
  IsPointListed p = words_have (words_by ds d) (word_at reasons.Asks p.required_type) ≡ true

  -- it has the word of the type of a choice or of an event, or is the bean of a chain
  abbrev pub IsListed : Key → Type 0
  IsListed (ChoiceKey t us) = words_have (words_by ds d) (word_at reasons.Asks t) ≡ true
  IsListed (ChainKey class place) = key_of d ≡ key_at kinds.Bean class
  IsListed (EventKey t us) = words_have (words_by ds d) (word_at reasons.Fires t) ≡ true

  -- it has the words of all that it names
  abbrev HasNamed : List Mention → Type 0
  HasNamed ms = (w : Word) → words_have (flat_map words_named_in ms) w ≡ true → words_have (words_by ds d) w ≡ true

  -- those of one place and of the others
  abbrev HasEither : Mention → List Mention → Type 0
  HasEither m ms = (w : Word) → (words_have (words_named_in m) w || words_have (flat_map words_named_in ms) w) ≡ true
      → words_have (words_by ds d) w ≡ true

  either : (m : Mention) (ms : List Mention) → HasNamed (m ∷ ms) → HasEither m ms
  either m ms all w h = all w (list_any-append (λ v. same_word v w) (words_named_in m) (flat_map words_named_in ms) ∙ h)

  others : (m : Mention) (ms : List Mention) → HasEither m ms → HasNamed ms
  others m ms all w h = all w (or_right (words_have (words_named_in m) w) (words_have (flat_map words_named_in ms) w) h)

  points-named : (ms : List Mention) → HasNamed ms → AllByRecursion IsPointListed (flat_map point_named ms)
  points-named [] all = tt
  points-named (m ∷ ms) all = by m (either m ms all) (points-named ms)
    where
      by : (m : Mention) → HasEither m ms → (HasNamed ms → AllByRecursion IsPointListed (flat_map point_named ms))
          → AllByRecursion IsPointListed (point_named m ++ flat_map point_named ms)
      by (PointOf place p) all more = (
        all (word_at reasons.Asks p.required_type) (or_left (words_have (words_of_point p) (word_at reasons.Asks p.required_type))
            (words_have (flat_map words_named_in ms) (word_at reasons.Asks p.required_type))
            (first-has (word_at reasons.Asks p.required_type) (words_of_uses (required p.qualifiers)))),
        more (others (PointOf place p) ms all),
      )
      by other all more = more (others other ms all)

  events-named : (ms : List Mention) → HasNamed ms → AllByRecursion IsListed (flat_map event_in ms)
  events-named [] all = tt
  events-named (m ∷ ms) all = by m (either m ms all) (events-named ms)
    where
      by : (m : Mention) → HasEither m ms → (HasNamed ms → AllByRecursion IsListed (flat_map event_in ms))
          → AllByRecursion IsListed (event_in m ++ flat_map event_in ms)
      by (EventOf e) all more = (
        all (word_at reasons.Fires e.event_type) (or_left (words_have (words_of_event e) (word_at reasons.Fires e.event_type))
            (words_have (flat_map words_named_in ms) (word_at reasons.Fires e.event_type))
            (first-has (word_at reasons.Fires e.event_type) (words_of_uses e.qualifiers))),
        more (others (EventOf e) ms all),
      )
      by other all more = more (others other ms all)

  choices-listed : (ps : List PointDecl) → AllByRecursion IsPointListed ps → AllByRecursion IsListed (map key_of_point ps)
  choices-listed [] all = tt
  choices-listed (p ∷ ps) all = (all.0, choices-listed ps all.1)

  both-listed : (xs ys : List Key) → AllByRecursion IsListed xs → AllByRecursion IsListed ys → AllByRecursion IsListed (xs ++ ys)
  both-listed [] ys first second = second
  both-listed (x ∷ xs) ys first second = (first.0, both-listed xs ys first.1 second)

  all-listed : AllByRecursion IsPointListed (points_of d) → AllByRecursion IsListed (chains_by d) → AllByRecursion IsListed (events_by d)
      → AllByRecursion IsListed (wanted_by d)
  all-listed points chains events = both-listed (asked_by d ++ chains_by d) (events_by d)
      (both-listed (asked_by d) (chains_by d) (choices-listed (points_of d) points) chains) events

-- ---- declarations

-- those of the places of a bean
chains-listed : (ds : List Decl) (b : BeanDecl) (places : List BeanPlace)
    → AllByRecursion (IsListed ds (decls.Bean b)) (map (ChainKey b.name) places)
chains-listed ds b [] = tt
chains-listed ds b (place ∷ places) = (refl, chains-listed ds b places)

-- a bean has the words of what it names
bean-named : (ds : List Decl) (b : BeanDecl) → HasNamed ds (decls.Bean b) (mentions (decls.Bean b))
bean-named ds b w h = grind (arith, b.observers, list_any-append, among-named)

-- and so has an interceptor
interceptor-named : (ds : List Decl) (i : InterceptorDecl) → HasNamed ds (decls.Interceptor i) (mentions (decls.Interceptor i))
interceptor-named ds i w h = among-interceptor (decls.Interceptor i) w (among-named (decls.Interceptor i) w h)

-- a fact holds of each of none
none-listed : {X : Type 0} (P : X → Type 0) (xs : List X) → xs ≡ [] → AllByRecursion P xs
none-listed P xs none = subst (AllByRecursion P) (sym none) tt

pub points-listed : (ds : List Decl) (d : Decl) → AllByRecursion (IsPointListed ds d) (points_of d)
points-listed ds (decls.Bean b) = points-named ds (decls.Bean b) (mentions (decls.Bean b)) (bean-named ds b)
points-listed ds (decls.Interceptor i) =
    points-named ds (decls.Interceptor i) (mentions (decls.Interceptor i)) (interceptor-named ds i)
points-listed ds (decls.Type t) =
    none-listed (IsPointListed ds (decls.Type t)) (points_of (decls.Type t)) (none-of-type point_named no-points t)
points-listed ds (decls.Qualifier q) =
    none-listed (IsPointListed ds (decls.Qualifier q)) (points_of (decls.Qualifier q)) (none-of-qualifier point_named no-points q)
points-listed ds (decls.Binding b) =
    none-listed (IsPointListed ds (decls.Binding b)) (points_of (decls.Binding b)) (none-of-binding point_named no-points b)
points-listed ds (decls.Stereotype s) =
    none-listed (IsPointListed ds (decls.Stereotype s)) (points_of (decls.Stereotype s)) (none-of-stereotype point_named no-points s)

events-listed : (ds : List Decl) (d : Decl) → AllByRecursion (IsListed ds d) (events_by d)
events-listed ds (decls.Bean b) = events-named ds (decls.Bean b) (mentions (decls.Bean b)) (bean-named ds b)
events-listed ds (decls.Interceptor i) =
    events-named ds (decls.Interceptor i) (mentions (decls.Interceptor i)) (interceptor-named ds i)
events-listed ds (decls.Type t) =
    none-listed (IsListed ds (decls.Type t)) (events_by (decls.Type t)) (none-of-type event_in no-events t)
events-listed ds (decls.Qualifier q) =
    none-listed (IsListed ds (decls.Qualifier q)) (events_by (decls.Qualifier q)) (none-of-qualifier event_in no-events q)
events-listed ds (decls.Binding b) =
    none-listed (IsListed ds (decls.Binding b)) (events_by (decls.Binding b)) (none-of-binding event_in no-events b)
events-listed ds (decls.Stereotype s) =
    none-listed (IsListed ds (decls.Stereotype s)) (events_by (decls.Stereotype s)) (none-of-stereotype event_in no-events s)

own-chains : (ds : List Decl) (d : Decl) → AllByRecursion (IsListed ds d) (chains_by d)
own-chains ds (decls.Bean b) = chains-listed ds b (places_of b)
own-chains ds other = tt

pub wanted-listed : (ds : List Decl) (d : Decl) → AllByRecursion (IsListed ds d) (wanted_by d)
wanted-listed ds d = all-listed ds d (points-listed ds d) (own-chains ds d) (events-listed ds d)
