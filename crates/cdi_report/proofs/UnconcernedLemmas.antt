-- What is not to be looked at again has no word of what edits move.
use Rattle.cdi_report.proofs.Common.{◌≡◌, ℕ, Bool, true, false, cond, List, [], ◌∷◌, ◌++◌, map, flat_map, Some, None, refl, sym, ap, subst}
use Rattle.cdi_report.proofs.Common.{◌∙◌, inl, inr, AllByRecursion, option_to_list, cases_Bool, false≢true, or_left, or_parts, or_right}
use Rattle.cdi_report.proofs.Common.{list_any-append, kind_of, name_of_decl, key_at, same_key, same_key_equiv, find_decl, edited_all}
use Rattle.cdi_report.proofs.Common.{edited_keys, is_among, mentions, Mention, UseOf, BeanDecl, Decl, Edit, DeclKey, Qual, Effective}
use Rattle.cdi_report.proofs.Common.{BeanId, PointDecl, One, Word, same_word, word_at, words_have, words_named, words_named_in}
use Rattle.cdi_report.proofs.Common.{words_of_uses, Tells, answer_to, points_of, IsApart, IsStill, ◌||◌, key_of, BeanPlace, required}
use Rattle.cdi_report.proofs.Common.{words_by, PointOf, StereotypeOf, TypeIn, StereotypeDecl, UseKind, TypePlace, words_of_point}
use Rattle.cdi_report.proofs.Common.{among-named, point_named, ◌&&◌, list_any, bytes_eq, chain_of, filter, Avoid, has, Kind, key_exact}
use Rattle.cdi_report.proofs.Common.{stereotype_reads, stereotypes_of, one_text, same_text, AreDistinct, Moved, or_cases, records_in}
use Rattle.cdi_report.proofs.Common.{made_of, IsNotEdited, named_in, IsUnconcerned, words_writing, has_one, keys_of_classes}
use Rattle.cdi_report.proofs.Common.{keys_of_stereotypes, keys_under, names_of_kind, offered, reads_one, words_asking, words_sought, arith}
use Rattle.std.proofs.lemmas.Grind.{flat_map-append}
use Rattle.cdi_model.specs.declared.decl.Decl.TheVariants as decls
use Rattle.cdi_model.specs.declared.decl.Kind.TheVariants as kinds
use Rattle.cdi_model.specs.declared.mention.TypePlace.TheVariants as types
use Rattle.cdi_model.specs.declared.decl.UseKind.TheVariants as uses
use Rattle.cdi_postings.specs.declared.word.Reason.{Reason}
use Rattle.cdi_postings.specs.declared.word.Reason.TheVariants as reasons
use Rattle.cdi_index.specs.Made.{reads}
use Rattle.cdi_index.proofs.NamedLemmas.{among-interceptor, among-written}
use Rattle.cdi_live.proofs.AskedLemmas.{any-among}
use Rattle.cdi_concern.specs.Concern.{types_of_beans, is_inherited, is_of_kind, is_stereotype}
use Rattle.cdi_report.proofs.{ApartLemmas.first-has, OfferLemmas.offers_type, OfferLemmas.one-offers, SparedLemmas.among-map}
use Rattle.cdi_report.proofs.WrittenLemmas.{declares-apart, inherits-apart, supers-apart, written-apart}
use Rattle.cdi_report.specs.Spared.{AreInheritedSpared}

-- ---- none of a list

pub none-front : {A : Type 0} (p : A → Bool) (xs ys : List A) → list_any p (xs ++ ys) ≡ false → list_any p xs ≡ false
none-front p xs ys none = (or_parts (list_any p xs) (list_any p ys) (sym (list_any-append p xs ys) ∙ none)).0

pub none-back : {A : Type 0} (p : A → Bool) (xs ys : List A) → list_any p (xs ++ ys) ≡ false → list_any p ys ≡ false
none-back p xs ys none = (or_parts (list_any p xs) (list_any p ys) (sym (list_any-append p xs ys) ∙ none)).1

-- a test fails for the word of each of some names
pub none-named : (test : Word → Bool) (reason : Reason) (names : List (List ℕ)) (n : List ℕ)
    → list_any test (map (word_at reason) names) ≡ false
    → has names n ≡ true → test (word_at reason n) ≡ false
none-named test reason [] n none among = absurd (false≢true among)
none-named test reason (x ∷ names) n none among =
    let parts = or_parts (test (word_at reason x)) (list_any test (map (word_at reason) names)) none in
    elim (or_cases (bytes_eq x n) (has names n) among) [
      | inl here ↦ ap (λ y. test (word_at reason y)) (sym (one_text x n here)) ∙ parts.0
      | inr later ↦ none-named test reason names n parts.1 later
    ]

-- ---- keys of a kind

own-kind : (kind : Kind) (n : List ℕ) → is_of_kind kind (key_at kind n) ≡ true
own-kind kind n = same_key_equiv.refl (key_at kind n)

pub named-among : (kind : Kind) (keys : List DeclKey) (n : List ℕ) → is_among keys (key_at kind n) ≡ true
    → has (names_of_kind kind keys) n ≡ true
named-among kind [] n among = absurd (false≢true among)
named-among kind (k ∷ keys) n among = grind (arith, named-among kind keys n, k.name, same_text, key_exact, false≢true, own-kind)

-- ---- a declaration that is found

-- passes a test, so its key is among those of all that do
pub found-among : (test : Decl → Bool) (ds : List Decl) (d : Decl) → find_decl (kind_of d) (name_of_decl d) ds ≡ Some d → test d ≡ true
    → is_among (map key_of (filter test ds)) (key_of d) ≡ true
found-among test [] d found passes = absurd (let no : None ≡ Some d = found in cc)
found-among test (e ∷ ds) d found passes = grind (arith, found-among test ds d, same_key_equiv.refl, false≢true)

-- ---- declarations without points

no-type : (place : TypePlace) (xs : List (List ℕ)) → flat_map point_named (map (TypeIn place) xs) ≡ []
no-type place [] = refl
no-type place (x ∷ xs) = no-type place xs

no-use : (kind : UseKind) (us : List Qual) → flat_map point_named (map (UseOf kind) us) ≡ []
no-use kind [] = refl
no-use kind (u ∷ us) = no-use kind us

no-stereotype : (xs : List (List ℕ)) → flat_map point_named (map StereotypeOf xs) ≡ []
no-stereotype [] = refl
no-stereotype (x ∷ xs) = no-stereotype xs

neither : (xs ys : List Mention) → flat_map point_named xs ≡ [] → flat_map point_named ys ≡ [] → flat_map point_named (xs ++ ys) ≡ []
neither xs ys none more = flat_map-append point_named xs ys ∙ ap (λ l. l ++ flat_map point_named ys) none ∙ more

-- ---- chosen beans

-- some of these beans have the type
type-offered : (bs : List Effective) (t : List ℕ) → list_any (λ b. has b.types t) bs ≡ true → has (types_of_beans bs) t ≡ true
type-offered [] t some = absurd (false≢true some)
type-offered (b ∷ bs) t some = list_any-append (λ n. bytes_eq n t) b.types (types_of_beans bs)
    ∙ elim (or_cases (has b.types t) (list_any (λ b. has b.types t) bs) some) [
      | inl here ↦ or_left (has b.types t) (has (types_of_beans bs) t) here
      | inr later ↦ or_right (has b.types t) (has (types_of_beans bs) t) (type-offered bs t later)
    ]

-- so one of these classes offers it
pub class-offers : (ds : List Decl) (classes : List (List ℕ)) (class t : List ℕ) → has classes class ≡ true → offers_type ds class t ≡ true
    → has (flat_map (offered ds) classes) t ≡ true
class-offers ds [] class t among some = absurd (false≢true among)
class-offers ds (c ∷ classes) class t among some = list_any-append (λ n. bytes_eq n t) (offered ds c) (flat_map (offered ds) classes)
    ∙ elim (or_cases (bytes_eq c class) (has classes class) among) [
      | inl here ↦ or_left (has (offered ds c) t) (has (flat_map (offered ds) classes) t)
          (ap (λ n. has (offered ds n) t) (one_text c class here) ∙ type-offered (records_in ds class) t some)
      | inr later ↦ or_right (has (offered ds c) t) (has (flat_map (offered ds) classes) t) (class-offers ds classes class t later some)
    ]

-- ---- all

module _ (edits : List Edit) (ds : List Decl) (m : Moved) (d : Decl) (distinct : AreDistinct ds)
    (found : find_decl (kind_of d) (name_of_decl d) ds ≡ Some d) (same : m.edited.now ≡ edited_keys edits)
    (it : IsUnconcerned ds edits m d) where
  abbrev key : DeclKey
  key = key_of d

  abbrev first-two : Bool
  first-two = is_among m.edited.now key || is_among m.affected.now key

  abbrev by-word : Bool
  by-word = is_among (keys_under ds (words_sought ds m)) key

  abbrev by-reading : Bool
  by-reading = reads_one ds m.affected.now key

  abbrev as-stereotype : Bool
  as-stereotype = is_among (keys_of_stereotypes ds m.edited.now) key

  abbrev of-chain : Bool
  of-chain = is_among (keys_of_classes m.classes.now) key

  whole : ((((first-two || by-word) || by-reading) || as-stereotype) ≡ false) × (of-chain ≡ false)
  whole = or_parts (((first-two || by-word) || by-reading) || as-stereotype) of-chain it.unconcerned

  outer : (((first-two || by-word) || by-reading) ≡ false) × (as-stereotype ≡ false)
  outer = or_parts ((first-two || by-word) || by-reading) as-stereotype whole.0

  middle : ((first-two || by-word) ≡ false) × (by-reading ≡ false)
  middle = or_parts (first-two || by-word) by-reading outer.0

  inner : (first-two ≡ false) × (by-word ≡ false)
  inner = or_parts first-two by-word middle.0

  firsts : (is_among m.edited.now key ≡ false) × (is_among m.affected.now key ≡ false)
  firsts = or_parts (is_among m.edited.now key) (is_among m.affected.now key) inner.0

  -- ---- words

  no-word : has_one ds (words_sought ds m) d ≡ false
  no-word = grind (arith, false≢true, inner.1, found-among)

  abbrev had : Word → Bool
  had w = words_have (words_by ds d) w

  abbrev of-qualifiers : List Word
  of-qualifiers = map (word_at reasons.Qualifies) (names_of_kind kinds.Qualifier m.edited.now)

  abbrev of-bindings : List Word
  of-bindings = map (word_at reasons.Binds) (names_of_kind kinds.Binding m.affected.now)

  abbrev of-choices : List Word
  of-choices = map (word_at reasons.Asks) m.types.now

  abbrev of-events : List Word
  of-events = map (word_at reasons.Fires) m.events.now

  abbrev of-beans : List Word
  of-beans = words_asking ds (names_of_kind kinds.Bean m.affected.now)

  abbrev of-classes : List Word
  of-classes = words_asking ds m.classes.now

  abbrev of-edited : List Word
  of-edited = words_writing m.edited.now

  none-had : list_any had (of-qualifiers ++ of-bindings ++ of-choices ++ of-events ++ of-beans ++ of-classes ++ of-edited) ≡ false
  unfolding words_sought
  none-had = no-word

  no-edited : list_any had of-edited ≡ false
  no-edited = none-back had (of-qualifiers ++ of-bindings ++ of-choices ++ of-events ++ of-beans ++ of-classes) of-edited none-had

  to-beans : list_any had (of-qualifiers ++ of-bindings ++ of-choices ++ of-events ++ of-beans) ≡ false
  to-beans = none-front had (of-qualifiers ++ of-bindings ++ of-choices ++ of-events ++ of-beans) of-classes
      (none-front had (of-qualifiers ++ of-bindings ++ of-choices ++ of-events ++ of-beans ++ of-classes) of-edited none-had)

  no-beans : list_any had of-beans ≡ false
  no-beans = none-back had (of-qualifiers ++ of-bindings ++ of-choices ++ of-events) of-beans to-beans

  to-bindings : list_any had (of-qualifiers ++ of-bindings) ≡ false
  to-bindings = grind (arith, none-front, to-beans)

  qualifiers : (q : List ℕ) → is_among (edited_keys edits) (key_at kinds.Qualifier q) ≡ true → had (word_at reasons.Qualifies q) ≡ false
  qualifiers q among = none-named had reasons.Qualifies (names_of_kind kinds.Qualifier m.edited.now) q
      (none-front had of-qualifiers of-bindings to-bindings)
      (named-among kinds.Qualifier m.edited.now q (ap (λ keys. is_among keys (key_at kinds.Qualifier q)) same ∙ among))

  bindings : (b : List ℕ) → is_among m.affected.now (key_at kinds.Binding b) ≡ true → had (word_at reasons.Binds b) ≡ false
  bindings b among = none-named had reasons.Binds (names_of_kind kinds.Binding m.affected.now) b
      (none-back had of-qualifiers of-bindings to-bindings) (named-among kinds.Binding m.affected.now b among)

  -- ---- what it reads

  reads-none : (affected : List DeclKey) (class : List ℕ) → reads_one ds affected key ≡ false
      → is_among affected (key_at kinds.Bean class) ≡ true → reads (made_of ds key) (key_at kinds.Bean class) ≡ false
  reads-none [] class none among = absurd (false≢true among)
  reads-none (c ∷ affected) class none among =
      let parts = or_parts (is_of_kind kinds.Bean c && reads (made_of ds key) c) (reads_one ds affected key) none in
      elim (or_cases (same_key c (key_at kinds.Bean class)) (is_among affected (key_at kinds.Bean class)) among) [
        | inl here ↦ (let one = key_exact c (key_at kinds.Bean class) here in
            sym (ap (λ b. b && reads (made_of ds key) (key_at kinds.Bean class)) (own-kind kinds.Bean class))
            ∙ ap (λ x. is_of_kind kinds.Bean x && reads (made_of ds key) x) (sym one) ∙ parts.0)
        | inr later ↦ reads-none affected class parts.1 later
      ]

  -- ---- stereotypes

  -- where a stereotype is not listed for them, no stereotype and no binding type is edited
  module _ (s : StereotypeDecl) (none : is_among (keys_of_stereotypes ds m.edited.now) (key_of (decls.Stereotype s)) ≡ false)
      (there : find_decl kinds.Stereotype s.name ds ≡ Some (decls.Stereotype s)) where
    none-inherited : list_any is_inherited m.edited.now ≡ false
    none-inherited = by (list_any is_inherited m.edited.now) none
      where
        by : (b : Bool) → is_among (cond b (map key_of (filter is_stereotype ds)) []) (key_of (decls.Stereotype s)) ≡ false → b ≡ false
        by true none = absurd (false≢true (sym none
            ∙ found-among is_stereotype ds (decls.Stereotype s) there (own-kind kinds.Stereotype s.name)))
        by false none = refl

    inherited-apart : (k : DeclKey) → is_inherited k ≡ true → is_among (edited_keys edits) k ≡ false
    inherited-apart k is = elim (cases_Bool (is_among (edited_keys edits) k)) [
      | inl among ↦ absurd (false≢true (sym none-inherited
          ∙ any-among is_inherited m.edited.now k (ap (λ keys. is_among keys k) same ∙ among) is))
      | inr apart ↦ apart
    ]

    stereotype-apart : (n : List ℕ) → is_among (edited_keys edits) (key_at kinds.Stereotype n) ≡ false
    stereotype-apart n =
        let k = key_at kinds.Stereotype n in
        inherited-apart k (or_left (is_of_kind kinds.Stereotype k) (is_of_kind kinds.Binding k) (own-kind kinds.Stereotype n))

    binding-apart : (n : List ℕ) → is_among (edited_keys edits) (key_at kinds.Binding n) ≡ false
    binding-apart n =
        let k = key_at kinds.Binding n in
        inherited-apart k (or_right (is_of_kind kinds.Stereotype k) (is_of_kind kinds.Binding k) (own-kind kinds.Binding n))

    inherits-none : Avoid (stereotype_reads ds s.stereotypes) edits
    inherits-none k among = elim (cases_Bool (is_among (stereotype_reads ds s.stereotypes) k)) [
      | inl read ↦ absurd (let one = among-map kinds.Stereotype (stereotypes_of ds s.stereotypes) k read in
          false≢true (sym (stereotype-apart one.0) ∙ ap (is_among (edited_keys edits)) one.2 ∙ among))
      | inr apart ↦ apart
    ]

  inherited : (d : Decl) → is_among (keys_of_stereotypes ds m.edited.now) (key_of d) ≡ false
      → find_decl (kind_of d) (name_of_decl d) ds ≡ Some d → AreInheritedSpared ds edits d
  inherited (decls.Stereotype s) none found = inherits-none s none found
  inherited other none found = tt

  -- ---- chosen beans

  -- the beans of an affected declaration have no type for which it asks
  not-asked : (class t : List ℕ) → is_among m.affected.now (key_at kinds.Bean class) ≡ true → offers_type ds class t ≡ true
      → had (word_at reasons.Asks t) ≡ false
  not-asked class t among some = none-named had reasons.Asks (flat_map (offered ds) (names_of_kind kinds.Bean m.affected.now)) t no-beans
      (class-offers ds (names_of_kind kinds.Bean m.affected.now) class t (named-among kinds.Bean m.affected.now class among) some)

  abbrev Still : PointDecl → Type 0
  Still p = (id : BeanId) → answer_to ds p ≡ One id → IsStill ds edits m.affected.now id.class

  abbrev Chains : PointDecl → Type 0
  Chains p = (id : BeanId) → answer_to ds p ≡ One id
      → (place : BeanPlace) → chain_of (edited_all ds edits) id.class place ≡ chain_of ds id.class place

  -- a point whose type it asks for
  still-at : (p : PointDecl) → had (word_at reasons.Asks p.required_type) ≡ true → Chains p → Still p
  still-at p asks chains = λ id one. record {
    unaffected = elim (cases_Bool (is_among m.affected.now (key_at kinds.Bean id.class))) [
      | inl among ↦ absurd (false≢true (sym (not-asked id.class p.required_type among
          (one-offers id ds p.required_type p.qualifiers distinct one)) ∙ asks))
      | inr spared ↦ spared
    ];
    chains = chains id one;
  }

  still-named : (ms : List Mention) → ((w : Word) → words_have (flat_map words_named_in ms) w ≡ true → had w ≡ true)
      → AllByRecursion Chains (flat_map point_named ms) → AllByRecursion Still (flat_map point_named ms)
  still-named [] asks chains = tt
  still-named (x ∷ ms) asks chains = by x (λ w h. asks w
      (list_any-append (λ v. same_word v w) (words_named_in x) (flat_map words_named_in ms) ∙ h))
      chains (still-named ms)
    where
      by : (x : Mention) → ((w : Word) → (words_have (words_named_in x) w || words_have (flat_map words_named_in ms) w) ≡ true
          → had w ≡ true)
          → AllByRecursion Chains (point_named x ++ flat_map point_named ms)
          → (((w : Word) → words_have (flat_map words_named_in ms) w ≡ true → had w ≡ true)
          → AllByRecursion Chains (flat_map point_named ms) → AllByRecursion Still (flat_map point_named ms))
          → AllByRecursion Still (point_named x ++ flat_map point_named ms)
      by (PointOf place p) asks chains more = (
        still-at p (asks (word_at reasons.Asks p.required_type)
            (or_left (words_have (words_of_point p) (word_at reasons.Asks p.required_type))
            (words_have (flat_map words_named_in ms) (word_at reasons.Asks p.required_type))
            (first-has (word_at reasons.Asks p.required_type) (words_of_uses (required p.qualifiers))))) chains.0,
        more (λ w h. asks w (or_right (words_have (words_of_point p) w) (words_have (flat_map words_named_in ms) w) h)) chains.1,
      )
      by other asks chains more = more
          (λ w h. asks w (or_right (words_have (words_named_in other) w) (words_have (flat_map words_named_in ms) w) h)) chains

  named-had : ((w : Word) → words_have (words_named d) w ≡ true → had w ≡ true) → AllByRecursion Chains (points_of d)
      → AllByRecursion Still (points_of d)
  named-had asks chains = still-named (mentions d) (λ w h. asks w (among-named d w h)) chains

  -- what has the words of all that it names writes no edited name
  named-apart : ((w : Word) → words_have (words_named d) w ≡ true → had w ≡ true)
      → AllByRecursion (λ x. IsNotEdited (edited_keys edits) (named_in x)) (mentions d)
  named-apart asks = subst (λ keys. AllByRecursion (λ x. IsNotEdited keys (named_in x)) (mentions d)) same
      (written-apart m.edited.now had no-edited (mentions d) (λ w h. asks w (among-written d w h)))

  pointless : points_of d ≡ [] → AllByRecursion Still (points_of d)
  pointless none = subst (AllByRecursion Still) (sym none) tt

-- a bean has the words of what it names
named-in-bean : (ds : List Decl) (b : BeanDecl) (w : Word) → words_have (words_named (decls.Bean b)) w ≡ true
    → words_have (words_by ds (decls.Bean b)) w ≡ true
named-in-bean ds b w h = grind (arith, b.observers, list_any-append)

-- the points of a declaration ask for no type of an affected bean
chosen-still : (edits : List Edit) (ds : List Decl) (m : Moved) (d : Decl) → AreDistinct ds
    → find_decl (kind_of d) (name_of_decl d) ds ≡ Some d
    → m.edited.now ≡ edited_keys edits → IsUnconcerned ds edits m d
    → AllByRecursion (λ p. (id : BeanId) → answer_to ds p ≡ One id → IsStill ds edits m.affected.now id.class) (points_of d)
unfolding mentions
chosen-still edits ds m (decls.Bean b) distinct found same it = named-had edits ds m (decls.Bean b) distinct found same it
    (named-in-bean ds b) it.chains
chosen-still edits ds m (decls.Interceptor i) distinct found same it =
    named-had edits ds m (decls.Interceptor i) distinct found same it (among-interceptor (decls.Interceptor i)) it.chains
chosen-still edits ds m (decls.Type t) distinct found same it = pointless edits ds m (decls.Type t) distinct found same it
    (neither (map (TypeIn types.Extends) (option_to_list t.extends)) (map (TypeIn types.Implements) t.implements)
    (no-type types.Extends (option_to_list t.extends)) (no-type types.Implements t.implements))
chosen-still edits ds m (decls.Qualifier q) distinct found same it = tt
chosen-still edits ds m (decls.Binding b) distinct found same it =
    pointless edits ds m (decls.Binding b) distinct found same it (no-use uses.Binding b.declares)
chosen-still edits ds m (decls.Stereotype s) distinct found same it = pointless edits ds m (decls.Stereotype s) distinct found same it
    (neither (map StereotypeOf s.stereotypes) (map (UseOf uses.Binding) s.bindings) (no-stereotype s.stereotypes)
    (no-use uses.Binding s.bindings))

-- a declaration writes no edited name
names-apart : (edits : List Edit) (ds : List Decl) (m : Moved) (d : Decl) → AreDistinct ds
    → find_decl (kind_of d) (name_of_decl d) ds ≡ Some d
    → m.edited.now ≡ edited_keys edits → Tells ds (edited_all ds edits) (edited_keys edits) m.affected.now → IsUnconcerned ds edits m d
    → AllByRecursion (λ x. IsNotEdited (edited_keys edits) (named_in x)) (mentions d)
unfolding mentions
names-apart edits ds m (decls.Bean b) distinct found same tells it =
    named-apart edits ds m (decls.Bean b) distinct found same it (named-in-bean ds b)
names-apart edits ds m (decls.Interceptor i) distinct found same tells it =
    named-apart edits ds m (decls.Interceptor i) distinct found same it (among-interceptor (decls.Interceptor i))
names-apart edits ds m (decls.Type t) distinct found same tells it =
    supers-apart edits ds m.affected.now tells t found (firsts edits ds m (decls.Type t) distinct found same it).1
names-apart edits ds m (decls.Binding b) distinct found same tells it =
    declares-apart edits ds m.affected.now tells b found (firsts edits ds m (decls.Binding b) distinct found same it).1
names-apart edits ds m (decls.Stereotype s) distinct found same tells it =
    let none = (outer edits ds m (decls.Stereotype s) distinct found same it).1 in
    inherits-apart (edited_keys edits) s (λ n. (
      stereotype-apart edits ds m (decls.Stereotype s) distinct found same it s none found n,
      binding-apart edits ds m (decls.Stereotype s) distinct found same it s none found n,
    ))
names-apart edits ds m (decls.Qualifier q) distinct found same tells it = tt

pub unconcerned-apart : (edits : List Edit) (ds : List Decl) (m : Moved) (d : Decl) → AreDistinct ds
    → find_decl (kind_of d) (name_of_decl d) ds ≡ Some d → m.edited.now ≡ edited_keys edits
    → Tells ds (edited_all ds edits) (edited_keys edits) m.affected.now → IsUnconcerned ds edits m d → IsApart ds edits m.affected.now d
unconcerned-apart edits ds m d distinct found same tells it =
    grind (arith, m.affected.now, it.answers, firsts, names-apart, qualifiers, bindings, reads-none, middle, inherited, outer, chosen-still)
