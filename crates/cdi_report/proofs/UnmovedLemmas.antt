-- What a draft moves is none of what an unconcerned declaration asks for.
use Rattle.cdi_report.proofs.Common.{◌≡◌, ℕ, Bool, true, false, List, [], ◌∷◌, ◌++◌, map, flat_map, Some, sym, ap, ◌∙◌, inl, inr, one_text}
use Rattle.cdi_report.proofs.Common.{cases_Bool, false≢true, or_left, or_parts, or_right, kind_of, name_of_decl, key_at, same_key}
use Rattle.cdi_report.proofs.Common.{same_key_equiv, find_decl, is_among, Decl, DeclKey, Word, word_at, words_have, ◌||◌, key_of, words_by}
use Rattle.cdi_report.proofs.Common.{list_any, bytes_eq, has, Moved, or_cases, is_concerned, words_writing, has_one, keys_of_classes}
use Rattle.cdi_report.proofs.Common.{keys_of_stereotypes, keys_under, names_of_kind, offered, reads_one, words_asking, words_sought, arith}
use Rattle.cdi_model.specs.declared.decl.Kind.TheVariants as kinds
use Rattle.cdi_postings.specs.declared.word.Reason.TheVariants as reasons
use Rattle.cdi_report.proofs.OfferLemmas.{offers_type}
use Rattle.cdi_report.proofs.UnconcernedLemmas.{class-offers, found-among, named-among, none-back, none-front, none-named}

-- ---- names

-- a class is among some, so its key is among theirs
classed : (classes : List (List ℕ)) (class : List ℕ) → has classes class ≡ true
    → is_among (keys_of_classes classes) (key_at kinds.Bean class) ≡ true
classed [] class among = absurd (false≢true among)
classed (c ∷ classes) class among =
    let key = key_at kinds.Bean class in
    elim (or_cases (bytes_eq c class) (has classes class) among) [
      | inl here ↦ or_left (same_key (key_at kinds.Bean c) key) (is_among (keys_of_classes classes) key)
          (ap (λ n. same_key (key_at kinds.Bean n) key) (one_text c class here) ∙ same_key_equiv.refl key)
      | inr later ↦ or_right (same_key (key_at kinds.Bean c) key) (is_among (keys_of_classes classes) key) (classed classes class later)
    ]

-- ---- keys

module _ (ds : List Decl) (m : Moved) (d : Decl) (clear : is_concerned ds m (key_of d) ≡ false) where
  abbrev key : DeclKey
  key = key_of d

  abbrev told : Bool
  told = is_among m.edited.now key || is_among m.affected.now key

  abbrev by-word : Bool
  by-word = is_among (keys_under ds (words_sought ds m)) key

  abbrev by-reading : Bool
  by-reading = reads_one ds m.affected.now key

  abbrev as-stereotype : Bool
  as-stereotype = is_among (keys_of_stereotypes ds m.edited.now) key

  abbrev by-class : Bool
  by-class = is_among (keys_of_classes m.classes.now) key

  classes-apart : ((((told || by-word) || by-reading) || as-stereotype) ≡ false) × (by-class ≡ false)
  classes-apart = or_parts (((told || by-word) || by-reading) || as-stereotype) by-class clear

  words-apart : (told ≡ false) × (by-word ≡ false)
  words-apart = or_parts told by-word
      (or_parts (told || by-word) by-reading (or_parts ((told || by-word) || by-reading) as-stereotype classes-apart.0).0).0

  -- it is not edited
  pub not-edited : is_among m.edited.now (key_of d) ≡ false
  not-edited = (or_parts (is_among m.edited.now key) (is_among m.affected.now key) words-apart.0).0

  -- it is not affected
  pub not-affected : is_among m.affected.now (key_of d) ≡ false
  not-affected = (or_parts (is_among m.edited.now key) (is_among m.affected.now key) words-apart.0).1

  -- it is not the bean of a chain that is given up
  pub not-classed : (class : List ℕ) → key_of d ≡ key_at kinds.Bean class → has m.classes.now class ≡ false
  not-classed class is = grind (arith, false≢true, classes-apart.1, classed)

  -- ---- words

  abbrev had : Word → Bool
  had w = words_have (words_by ds d) w

  module _ (found : find_decl (kind_of d) (name_of_decl d) ds ≡ Some d) where
    no-word : has_one ds (words_sought ds m) d ≡ false
    no-word = elim (cases_Bool (has_one ds (words_sought ds m) d)) [
      | inl some ↦ absurd (false≢true (sym words-apart.1 ∙ found-among (has_one ds (words_sought ds m)) ds d found some))
      | inr none ↦ none
    ]

    abbrev told-first : List Word
    told-first = map (word_at reasons.Qualifies) (names_of_kind kinds.Qualifier m.edited.now)
        ++ map (word_at reasons.Binds) (names_of_kind kinds.Binding m.affected.now)

    abbrev of-choices : List Word
    of-choices = map (word_at reasons.Asks) m.types.now

    abbrev of-events : List Word
    of-events = map (word_at reasons.Fires) m.events.now

    abbrev of-beans : List Word
    of-beans = words_asking ds (names_of_kind kinds.Bean m.affected.now)

    abbrev of-classes : List Word
    of-classes = words_asking ds m.classes.now

    none-had : list_any had (told-first ++ of-choices ++ of-events ++ of-beans ++ of-classes ++ words_writing m.edited.now) ≡ false
    unfolding words_sought
    none-had = no-word

    to-classes : list_any had (told-first ++ of-choices ++ of-events ++ of-beans ++ of-classes) ≡ false
    to-classes = none-front had (told-first ++ of-choices ++ of-events ++ of-beans ++ of-classes) (words_writing m.edited.now) none-had

    to-beans : list_any had (told-first ++ of-choices ++ of-events ++ of-beans) ≡ false
    to-beans = none-front had (told-first ++ of-choices ++ of-events ++ of-beans) of-classes to-classes

    to-events : list_any had (told-first ++ of-choices ++ of-events) ≡ false
    to-events = none-front had (told-first ++ of-choices ++ of-events) of-beans to-beans

    to-choices : list_any had (told-first ++ of-choices) ≡ false
    to-choices = none-front had (told-first ++ of-choices) of-events to-events

    -- it asks for no choice that is given up
    pub no-choice : (t : List ℕ) → has m.types.now t ≡ true → words_have (words_by ds d) (word_at reasons.Asks t) ≡ false
    no-choice t among = none-named had reasons.Asks m.types.now t (none-back had told-first of-choices to-choices) among

    -- nor for an event
    pub no-event : (t : List ℕ) → has m.events.now t ≡ true → words_have (words_by ds d) (word_at reasons.Fires t) ≡ false
    no-event t among = none-named had reasons.Fires m.events.now t (none-back had (told-first ++ of-choices) of-events to-events) among

    -- nor for a type of an affected bean
    pub no-affected : (class t : List ℕ) → is_among m.affected.now (key_at kinds.Bean class) ≡ true → offers_type ds class t ≡ true
        → words_have (words_by ds d) (word_at reasons.Asks t) ≡ false
    no-affected class t among some = none-named had reasons.Asks (flat_map (offered ds) (names_of_kind kinds.Bean m.affected.now)) t
        (none-back had (told-first ++ of-choices ++ of-events) of-beans to-beans)
        (class-offers ds (names_of_kind kinds.Bean m.affected.now) class t (named-among kinds.Bean m.affected.now class among) some)

    -- nor for one of a bean of which a chain is given up
    pub no-chain : (class t : List ℕ) → has m.classes.now class ≡ true → offers_type ds class t ≡ true
        → words_have (words_by ds d) (word_at reasons.Asks t) ≡ false
    no-chain class t among some = none-named had reasons.Asks (flat_map (offered ds) m.classes.now) t
        (none-back had (told-first ++ of-choices ++ of-events ++ of-beans) of-classes to-classes)
        (class-offers ds m.classes.now class t among some)
