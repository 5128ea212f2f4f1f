-- What a declaration asks for stays known after edits that do not concern it, and is answered alike.
use Rattle.cdi_report.proofs.Common.{◌≡◌, ℕ, Bool, true, false, cond, List, [], ◌∷◌, map, Some, refl, sym, ap, ◌∙◌, inl, inr}
use Rattle.cdi_report.proofs.Common.{AllByRecursion, cases_Bool, false≢true, or_left, or_right, kind_of, name_of_decl, key_at, find_decl}
use Rattle.cdi_report.proofs.Common.{edited_all, edited_keys, is_among, BeanDecl, Decl, Edit, Qual, as_bean, BeanId, PointDecl, One, Tells}
use Rattle.cdi_report.proofs.Common.{answer_to, points_of, key_of, BeanPlace, required, places_of, ChainKey, ChoiceKey, EventKey, Key}
use Rattle.cdi_report.proofs.Common.{asked_by, key_of_point, wanted_by, not, ◌&&◌, list_any, bytes_eq, edits_keep_decl, class_bindings}
use Rattle.cdi_report.proofs.Common.{chain_of, has_place, has, AreDistinct, Moved, or_cases, same_text, and_from, and_parts, beans, chosen}
use Rattle.cdi_report.proofs.Common.{set_by, option_map_or, list_all, has_key, is_wanted, AreChainsKnown, IsKnown, still_known}
use Rattle.cdi_report.proofs.Common.{is_concerned, IsUnconcerned, each-passes, arith}
use Rattle.std.proofs.{Common.Result, Common.Ok, Common.Err, lemmas.List.Folds.list_all-append}
use Rattle.cdi_model.specs.declared.refusal.Refusal.{Refusal}
use Rattle.cdi_model.specs.declared.decl.Decl.TheVariants as decls
use Rattle.cdi_model.specs.declared.decl.Kind.TheVariants as kinds
use Rattle.cdi_model.specs.declared.refusal.Refusal.TheVariants as refusals
use Rattle.cdi_effective.specs.Disposers.{find_bean}
use Rattle.cdi_intercept.specs.Chains.{chain_by}
use Rattle.cdi_intercept.proofs.SeenLemmas.{told_rests_on_seen}
use Rattle.cdi_resolve.proofs.SeenLemmas.{choice_rests_on_seen}
use Rattle.cdi_observe.specs.Keys.{same_place}
use Rattle.cdi_observe.proofs.{BeanPlaceLemmas.has-it, AskedLemmas.chosen-required}
use Rattle.cdi_seen.proofs.{NameLemmas.only-chains, SameLemmas.touched_where_seen_differs}
use Rattle.cdi_seen.specs.Touched.{is_touched}
use Rattle.cdi_live.proofs.WantedPlaceLemmas.{wanted-place}
use Rattle.cdi_report.proofs.OfferLemmas.{offers_type, one-offers}
use Rattle.cdi_report.proofs.AskedLemmas.{points-listed, wanted-listed, IsListed, IsPointListed}
use Rattle.cdi_report.proofs.UnmovedLemmas.{no-affected, no-chain, no-choice, no-event, not-affected, not-classed}

-- Of each known key that is given up, the type or the class is moved.
pub record IsGivenUp (ds es : List Decl) (knows : Key → Bool) (m : Moved) : Type 0 where
  pub types : (t : List ℕ) (us : List Qual) → knows (ChoiceKey t us) ≡ true → still_known ds es knows (ChoiceKey t us) ≡ false
      → has m.types.now t ≡ true
  pub events : (t : List ℕ) (us : List Qual) → knows (EventKey t us) ≡ true → still_known ds es knows (EventKey t us) ≡ false
      → has m.events.now t ≡ true
  pub classes : (class : List ℕ) (place : BeanPlace) → knows (ChainKey class place) ≡ true
      → still_known ds es knows (ChainKey class place) ≡ false → has m.classes.now class ≡ true

-- ---- what rests on what is seen

-- what stays known is not touched
untouched : (ds es : List Decl) (knows : Key → Bool) (key : Key) → still_known ds es knows key ≡ true → not (is_touched ds es key) ≡ true
untouched ds es knows key h = (and_parts (is_wanted es key) (not (is_touched ds es key))
    (and_parts (knows key) (is_wanted es key && not (is_touched ds es key)) h).1).1

same-choice : (ds es : List Decl) (t : List ℕ) (us : List Qual) → not (is_touched ds es (ChoiceKey t us)) ≡ true
    → chosen ds (beans ds) t us ≡ chosen es (beans es) t us
same-choice ds es t us h = grind (arith, choice_rests_on_seen, touched_where_seen_differs)

abbrev names_around : List Decl → List ℕ → BeanPlace → BeanDecl → List (List ℕ)
names_around ds class place b = map (λ i. i.name) (chain_by ds (set_by ds (class_bindings ds b) b place) place)

-- what is told of a place of a declared bean
told-of : (ds : List Decl) (class : List ℕ) (place : BeanPlace) (b : BeanDecl) (there : Bool) → find_bean class ds ≡ Some b
    → has_place b place ≡ there
    → chain_of ds class place ≡ cond {A = Result (List (List ℕ)) Refusal} there (Ok (names_around ds class place b)) (Err refusals.NoMethod)
told-of ds class place b there found has = grind arith

-- around a place that is not touched, of one declaration
same-chain : (ds es : List Decl) (class : List ℕ) (place : BeanPlace) (b : BeanDecl) → find_bean class ds ≡ Some b
    → find_bean class es ≡ Some b
    → has_place b place ≡ true → not (is_touched ds es (ChainKey class place)) ≡ true → chain_of es class place ≡ chain_of ds class place
same-chain ds es class place b before after there h = grind (arith, told-of, told_rests_on_seen, touched_where_seen_differs)

-- around each place of one declaration, if those that it has are not touched
same-chains-of : (ds es : List Decl) (class : List ℕ) (place : BeanPlace) → find_bean class es ≡ find_bean class ds
    → ((b : BeanDecl) → find_bean class ds ≡ Some b → has_place b place ≡ true → not (is_touched ds es (ChainKey class place)) ≡ true)
    → chain_of es class place ≡ chain_of ds class place
same-chains-of ds es class place same apart = grind (arith, same-chain, told-of)

-- a bean asks for the chain at each of its places
asks-own : (b : BeanDecl) (place : BeanPlace) → has_place b place ≡ true → has_key (wanted_by (decls.Bean b)) (ChainKey b.name place) ≡ true
asks-own b place there = only-chains b.name place (decls.Bean b) ∙ among (places_of b) (has-it b place ∙ there)
  where
    among : (ps : List BeanPlace) → list_any (same_place place) ps ≡ true
        → has_key (map (ChainKey b.name) ps) (ChainKey b.name place) ≡ true
    among [] some = absurd (false≢true some)
    among (p ∷ ps) some = elim (or_cases (same_place place p) (list_any (same_place place) ps) some) [
      | inl here ↦ or_left (bytes_eq b.name b.name && same_place place p) (has_key (map (ChainKey b.name) ps) (ChainKey b.name place))
          (and_from (bytes_eq b.name b.name) (same_place place p) (same_text b.name b.name refl) here)
      | inr later ↦ or_right (bytes_eq b.name b.name && same_place place p) (has_key (map (ChainKey b.name) ps) (ChainKey b.name place))
          (among ps later)
    ]

-- ---- a declaration that is not concerned

module _ (edits : List Edit) (ds : List Decl) (m : Moved) (d : Decl) (knows : Key → Bool) (distinct : AreDistinct ds)
    (apart : AreDistinct (edited_all ds edits)) (found : find_decl (kind_of d) (name_of_decl d) ds ≡ Some d)
    (clear : is_concerned ds m (key_of d) ≡ false) (tells : Tells ds (edited_all ds edits) (edited_keys edits) m.affected.now)
    (given-up : IsGivenUp ds (edited_all ds edits) knows m) where
  abbrev es : List Decl
  es = edited_all ds edits

  -- a known key for which it asks stays known
  still : (key : Key) → IsListed ds d key → knows key ≡ true → still_known ds es knows key ≡ true
  still (ChoiceKey t us) listed known = grind (arith, false≢true, no-choice)
  still (ChainKey class place) listed known = grind (arith, false≢true, not-classed)
  still (EventKey t us) listed known = grind (arith, false≢true, no-event)

  -- so the same is chosen for its points
  same-answers : (ps : List PointDecl) → AllByRecursion (IsPointListed ds d) ps → list_all knows (map key_of_point ps) ≡ true
      → AllByRecursion (λ p. answer_to ds p ≡ answer_to es p) ps
  same-answers [] listed known = tt
  same-answers (p ∷ ps) listed known =
      let parts = and_parts (knows (key_of_point p)) (list_all knows (map key_of_point ps)) known in (
        chosen-required ds (beans ds) p.required_type p.qualifiers
            ∙ same-choice ds es p.required_type (required p.qualifiers)
            (untouched ds es knows (key_of_point p) (still (key_of_point p) listed.0 parts.0))
            ∙ sym (chosen-required es (beans es) p.required_type p.qualifiers),
        same-answers ps listed.1 parts.1,
      )

  known-points : list_all knows (wanted_by d) ≡ true → list_all knows (asked_by d) ≡ true
  known-points known = grind (arith, list_all-append)

  -- ---- a bean that is chosen for one of its points

  module _ (p : PointDecl) (listed : IsPointListed ds d p) (id : BeanId) (one : answer_to ds p ≡ One id) where
    offers : offers_type ds id.class p.required_type ≡ true
    offers = one-offers id ds p.required_type p.qualifiers distinct one

    unaffected : is_among m.affected.now (key_at kinds.Bean id.class) ≡ false
    unaffected = elim (cases_Bool (is_among m.affected.now (key_at kinds.Bean id.class))) [
      | inl among ↦ absurd (false≢true (sym (no-affected ds m d clear found id.class p.required_type among offers) ∙ listed))
      | inr none ↦ none
    ]

    unedited : is_among (edited_keys edits) (key_at kinds.Bean id.class) ≡ false
    unedited = elim (cases_Bool (is_among (edited_keys edits) (key_at kinds.Bean id.class))) [
      | inl among ↦ absurd (false≢true (sym unaffected ∙ tells.edited (key_at kinds.Bean id.class) refl among))
      | inr none ↦ none
    ]

    -- its declaration is the same
    same-bean : find_bean id.class es ≡ find_bean id.class ds
    same-bean = ap as_bean (edits_keep_decl edits ds kinds.Bean id.class unedited)

    -- what is known around its places stays known
    still-chain : (place : BeanPlace) → knows (ChainKey id.class place) ≡ true → still_known ds es knows (ChainKey id.class place) ≡ true
    still-chain place known = elim (cases_Bool (still_known ds es knows (ChainKey id.class place))) [
      | inl stays ↦ stays
      | inr gone ↦ absurd (false≢true (sym (no-chain ds m d clear found id.class p.required_type
          (given-up.classes id.class place known gone) offers) ∙ listed))
    ]

    module _ (chains : (place : BeanPlace) → is_wanted ds (ChainKey id.class place) ≡ true → knows (ChainKey id.class place) ≡ true) where
      -- so the interceptors around them are the same
      chain-stays : (place : BeanPlace) → chain_of es id.class place ≡ chain_of ds id.class place
      chain-stays place = same-chains-of ds es id.class place same-bean (λ b at there.
          let wanted : is_wanted ds (ChainKey id.class place) ≡ true =
          wanted-place ds distinct id.class place ∙ ap (λ o. option_map_or (λ x. has_place x place) o false) at ∙ there in
          untouched ds es knows (ChainKey id.class place) (still-chain place (chains place wanted)))

      -- and each that is wanted stays known
      chain-known : (place : BeanPlace) → is_wanted es (ChainKey id.class place) ≡ true
          → still_known ds es knows (ChainKey id.class place) ≡ true
      chain-known place wanted = still-chain place (chains place
          (wanted-place ds distinct id.class place ∙ ap (λ o. option_map_or (λ x. has_place x place) o false) (sym same-bean)
          ∙ sym (wanted-place es apart id.class place) ∙ wanted))

  -- ---- its own places

  -- the interceptors around the places of its bean are the same
  pub own-chains-stay : (b : BeanDecl) → d ≡ decls.Bean b → list_all knows (wanted_by d) ≡ true → (place : BeanPlace)
      → chain_of es b.name place ≡ chain_of ds b.name place
  own-chains-stay b is known place = same-chains-of ds es b.name place same-own (λ c at there.
      let here : Some (decls.Bean b) ≡ find_decl kinds.Bean b.name ds =
      sym (ap (λ e. find_decl (kind_of e) (name_of_decl e) ds) (sym is) ∙ found ∙ ap Some is) in
      let one : Some b ≡ Some c = ap as_bean here ∙ at in
      let same : b ≡ c = cc in
      let asked : has_key (wanted_by d) (ChainKey b.name place) ≡ true =
      ap (λ e. has_key (wanted_by e) (ChainKey b.name place)) is ∙ asks-own b place (ap (λ x. has_place x place) same ∙ there) in
      untouched ds es knows (ChainKey b.name place)
      (still (ChainKey b.name place) (ap key_of is) (each-passes knows (wanted_by d) (ChainKey b.name place) known asked)))
    where
      unaffected : is_among m.affected.now (key_at kinds.Bean b.name) ≡ false
      unaffected = ap (λ e. is_among m.affected.now (key_of e)) (sym is) ∙ not-affected ds m d clear

      unedited : is_among (edited_keys edits) (key_at kinds.Bean b.name) ≡ false
      unedited = elim (cases_Bool (is_among (edited_keys edits) (key_at kinds.Bean b.name))) [
        | inl among ↦ absurd (false≢true (sym unaffected ∙ tells.edited (key_at kinds.Bean b.name) refl among))
        | inr none ↦ none
      ]

      same-own : find_bean b.name es ≡ find_bean b.name ds
      same-own = ap as_bean (edits_keep_decl edits ds kinds.Bean b.name unedited)

  -- ---- all its points

  abbrev SameChains : PointDecl → Type 0
  SameChains p = (id : BeanId) → answer_to ds p ≡ One id → (place : BeanPlace) → chain_of es id.class place ≡ chain_of ds id.class place

  same-chains : (ps : List PointDecl) → AllByRecursion (IsPointListed ds d) ps → AllByRecursion (AreChainsKnown ds knows) ps
      → AllByRecursion SameChains ps
  same-chains [] listed known = tt
  same-chains (p ∷ ps) listed known = (λ id one. chain-stays p listed.0 id one (known.0 id one), same-chains ps listed.1 known.1)

  pub unconcerned : IsKnown ds knows d → IsUnconcerned ds edits m d
  unconcerned known = record {
    unconcerned = clear;
    answers = same-answers (points_of d) (points-listed ds d) (known-points known.keys);
    chains = same-chains (points_of d) (points-listed ds d) known.chains;
  }

  -- ---- what is known after the edits

  module _ (now : Key → Bool) (after : (key : Key) → now key ≡ still_known ds es knows key) where
    keys-known : (keys : List Key) → AllByRecursion (IsListed ds d) keys → list_all knows keys ≡ true → list_all now keys ≡ true
    keys-known [] listed known = refl
    keys-known (key ∷ keys) listed known =
        let parts = and_parts (knows key) (list_all knows keys) known in
        and_from (now key) (list_all now keys) (after key ∙ still key listed.0 parts.0) (keys-known keys listed.1 parts.1)

    chains-known : (ps : List PointDecl) → AllByRecursion (IsPointListed ds d) ps → AllByRecursion (λ p. answer_to ds p ≡ answer_to es p) ps
        → AllByRecursion (AreChainsKnown ds knows) ps → AllByRecursion (AreChainsKnown es now) ps
    chains-known [] listed same known = tt
    chains-known (p ∷ ps) listed same known = (
      λ id one place wanted. after (ChainKey id.class place)
          ∙ chain-known p listed.0 id (same.0 ∙ one) (known.0 id (same.0 ∙ one)) place wanted,
      chains-known ps listed.1 same.1 known.1,
    )

    pub known-after : IsKnown ds knows d → IsKnown es now d
    known-after known = record {
      keys = keys-known (wanted_by d) (wanted-listed ds d) known.keys;
      chains = chains-known (points_of d) (points-listed ds d) (unconcerned known).answers known.chains;
    }
