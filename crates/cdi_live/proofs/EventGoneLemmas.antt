-- Of the kept events exactly those go that no body may fire any more, or that see something else.
use Rattle.cdi_live.proofs.Common.{◌≡◌, Bool, true, false, not, ◌&&◌, List, [], ◌∷◌, is_some, refl, sym, ap, ◌∙◌, inl, inr, list_any}
use Rattle.cdi_live.proofs.Common.{bytes_eq, and_from, and_parts, false≢true, or_cases, or_left, or_right, Decl, Qual, ℕ, ◌||◌, Option}
use Rattle.cdi_live.proofs.Common.{Some, None, option_map_or, Edit, DeclKey, key_of, kind_of, name_of_decl, find_decl, AreDistinct}
use Rattle.cdi_live.proofs.Common.{edited_all, edited_keys, is_among, mentions, Mention, EventOf, asks_for, asks_in, is_wanted, IsPresent}
use Rattle.cdi_live.proofs.Common.{all_present, found_any, witness, edits_keep_decl, bytes_decides, Tells, parts_under, parts-kept}
use Rattle.cdi_live.proofs.Common.{is_touched, IsBetween, Sides, holds, EventKey, keys_of, same_quals, same_quals-decides, ObserverId}
use Rattle.cdi_live.proofs.Common.{is_touched_of, Events, is_suspect, not-true, same-bool, arith, is_dropped_by, is_dropped_in}
use Rattle.std.specs.Map.{lookup}
use Rattle.std.proofs.lemmas.Map.Made.{is_some-lookup}
use Rattle.cdi_index.specs.declared.asked.Question.TheVariants as questions
use Rattle.cdi_live.proofs.{AskedLemmas.any-among, AskedLemmas.any-elim, EventSuspectLemmas.is-held, EventSuspectLemmas.untouched}
use Rattle.cdi_index.specs.Asked.{is_asked}
use Rattle.cdi_live.proofs.EventAskedLemmas.{event-wanted-is}
use Rattle.cdi_live.specs.EventDropped.{is_dropped_at, is_kept, Drops}
use Rattle.cdi_live.specs.EventStage.{event_stays, EventsAreWanted}

-- the type of a kept event is a name of which something is kept
type-kept : (m : Events) (t : List ℕ) (us : List Qual) → is_kept m t us ≡ true → holds (keys_of m) t ≡ true
type-kept m t us kept =
    sym (is-held (keys_of m) t) ∙ sym (is_some-lookup (bytes_eq t) m) ∙ by (lookup (bytes_eq t) m) kept
  where
    by : (o : Option (List (List Qual × List ObserverId))) → is_some (option_map_or (λ parts. lookup (same_quals us) parts) o None) ≡ true
        → is_some o ≡ true
    by None none = none
    by (Some parts) some = refl

-- ---- by what is seen

module _ (sees : List ℕ → List Qual → Bool) (t : List ℕ) (us : List Qual) where
  abbrev part : List ℕ → List Qual → Bool
  part n q = same_quals us q && sees n q

  abbrev among : List ℕ → List (List Qual) → Bool
  among n qs = list_any (part n) qs

  abbrev of_types : (List ℕ → List (List Qual)) → List (List ℕ) → Bool
  of_types parts types = list_any (λ n. bytes_eq t n && among n (parts n)) types

  some-sees : (parts : List ℕ → List (List Qual)) (types : List (List ℕ)) → of_types parts types ≡ true → sees t us ≡ true
  some-sees parts types h = any-elim (λ n. bytes_eq t n && among n (parts n)) types h (λ n one.
      let first = and_parts (bytes_eq t n) (among n (parts n)) one in
      any-elim (part n) (parts n) first.1 (λ q two.
      let both = and_parts (same_quals us q) (sees n q) two in
      ap (λ x. sees x us) ((bytes_decides t n).0 first.0) ∙ ap (sees n) ((same_quals-decides us q).0 both.0) ∙ both.1))

  at-part : (qs : List (List Qual)) → list_any (same_quals us) qs ≡ true → sees t us ≡ true → among t qs ≡ true
  at-part [] h is = absurd (false≢true h)
  at-part (q ∷ qs) h is = elim (or_cases (same_quals us q) (list_any (same_quals us) qs) h) [
    | inl here ↦ or_left (part t q) (among t qs)
        (and_from (same_quals us q) (sees t q) here (ap (sees t) (sym ((same_quals-decides us q).0 here)) ∙ is))
    | inr later ↦ or_right (part t q) (among t qs) (at-part qs later is)
  ]

  at-type : (parts : List ℕ → List (List Qual)) → list_any (same_quals us) (parts t) ≡ true → (ns : List (List ℕ))
      → list_any (bytes_eq t) ns ≡ true → sees t us ≡ true → of_types parts ns ≡ true
  at-type parts own [] h is = absurd (false≢true h)
  at-type parts own (n ∷ ns) h is =
      let here : Bool = bytes_eq t n && among n (parts n) in
      elim (or_cases (bytes_eq t n) (list_any (bytes_eq t) ns) h) [
        | inl one ↦ or_left here (of_types parts ns)
            (and_from (bytes_eq t n) (among n (parts n)) one
            (ap (λ x. among x (parts x)) (sym ((bytes_decides t n).0 one)) ∙ at-part (parts t) own is))
        | inr later ↦ or_right here (of_types parts ns) (at-type parts own ns later is)
      ]

  -- what of some types sees something is what sees it, where each other does not
  sees-by-type : (parts : List ℕ → List (List Qual)) → list_any (same_quals us) (parts t) ≡ true
      → (types : List (List ℕ)) (is_among_them : Bool)
      → list_any (bytes_eq t) types ≡ is_among_them → (is_among_them ≡ false → sees t us ≡ false) → of_types parts types ≡ sees t us
  sees-by-type parts own types is_among_them same spared = grind (arith, same-bool, some-sees, at-type, false≢true)

-- ---- by who fires

module _ (edits : List Edit) (ds : List Decl) (distinct : AreDistinct ds) (apart : AreDistinct (edited_all ds edits)) (m : Events)
    (t : List ℕ) (us : List Qual) (kept : is_kept m t us ≡ true) (wanted : is_wanted ds (EventKey t us) ≡ true) (drops : Drops)
    (are : (s : List ℕ) (vs : List Qual) → drops s
    vs ≡ (is_kept m s vs && not (is_asked (edited_all ds edits) questions.Event s vs))) where
  abbrev es : List Decl
  es = edited_all ds edits

  abbrev keys : List DeclKey
  keys = edited_keys edits

  abbrev unwanted : Bool
  unwanted = not (is_wanted es (EventKey t us))

  fired : list_any (asks_for questions.Event t us) ds ≡ true
  fired = sym (event-wanted-is t us ds) ∙ wanted

  drops-own : drops t us ≡ unwanted
  drops-own = are t us ∙ ap (λ b. b && not (is_asked es questions.Event t us)) kept ∙ ap not (sym (event-wanted-is t us es))

  -- what a declaration drops is what it fires, and is not wanted
  dropped-in : (x : Mention) → is_dropped_in drops t us x ≡ (asks_in questions.Event t us x && unwanted)
  dropped-in (EventOf e) = by (asks_in questions.Event t us (EventOf e)) refl
    where
      by : (b : Bool) → asks_in questions.Event t us (EventOf e) ≡ b → (b && drops e.event_type e.qualifiers) ≡ (b && unwanted)
      by false is = refl
      by true is =
          let both = and_parts (bytes_eq t e.event_type) (same_quals us e.qualifiers) is in
          ap (λ s. drops s e.qualifiers) (sym ((bytes_decides t e.event_type).0 both.0))
          ∙ ap (drops t) (sym ((same_quals-decides us e.qualifiers).0 both.1)) ∙ drops-own
  dropped-in other = refl

  dropped-any : (xs : List Mention) → list_any (is_dropped_in drops t us) xs ≡ (list_any (asks_in questions.Event t us) xs && unwanted)
  dropped-any [] = refl
  dropped-any (x ∷ xs) =
      (λ i. dropped-in x i || dropped-any xs i)
      ∙ both (asks_in questions.Event t us x) (list_any (asks_in questions.Event t us) xs) unwanted
    where
      both : (a b c : Bool) → ((a && c) || (b && c)) ≡ ((a || b) && c)
      both true true true = refl
      both true true false = refl
      both true false true = refl
      both true false false = refl
      both false b c = refl

  dropped-by : (d : Decl) → is_dropped_by drops t us d ≡ (asks_for questions.Event t us d && unwanted)
  unfolding is_dropped_by asks_for
  dropped-by d = dropped-any (mentions d)

  pub by-firer : list_any (is_dropped_at ds drops t us) keys ≡ unwanted
  by-firer = same-bool (list_any (is_dropped_at ds drops t us) keys) unwanted there back
    where
      there : list_any (is_dropped_at ds drops t us) keys ≡ true → unwanted ≡ true
      there h = any-elim (is_dropped_at ds drops t us) keys h (λ k dropped. by (find_decl k.kind k.name ds) dropped)
        where
          by : (o : Option Decl) → option_map_or (is_dropped_by drops t us) o false ≡ true → unwanted ≡ true
          by None none = absurd (false≢true none)
          by (Some d) dropped = (and_parts (asks_for questions.Event t us d) unwanted (sym (dropped-by d) ∙ dropped)).1

      back : unwanted ≡ true → list_any (is_dropped_at ds drops t us) keys ≡ true
      back none =
          let it = witness (IsPresent ds) (asks_for questions.Event t us) ds (all_present ds distinct) fired in
          by it.0 it.1 it.2 (is_among keys (key_of it.0)) refl
        where
          by : (d : Decl) → IsPresent ds d → asks_for questions.Event t us d ≡ true → (b : Bool) → is_among keys (key_of d) ≡ b
              → list_any (is_dropped_at ds drops t us) keys ≡ true
          by d found firing true among = any-among (is_dropped_at ds drops t us) keys (key_of d) among
              (ap (λ o. option_map_or (is_dropped_by drops t us) o false) found ∙ dropped-by d
              ∙ and_from (asks_for questions.Event t us d) unwanted firing none)
          by d found firing false apart_from = absurd (false≢true (sym (not-true (is_wanted es (EventKey t us)) none)
              ∙ event-wanted-is t us es
              ∙ found_any (kind_of d) (name_of_decl d) es d (asks_for questions.Event t us)
              (edits_keep_decl edits ds (kind_of d) (name_of_decl d) apart_from ∙ found) firing))

  -- ---- both

  pub goes : (told : List DeclKey) → Tells ds es keys told → (types : List (List ℕ))
      → ((n : List ℕ) → list_any (bytes_eq n) types ≡ is_suspect ds es keys told (keys_of m) n)
      → (is_touched_of ds es m types t us || list_any (is_dropped_at ds drops t us) keys) ≡ not (event_stays ds es t us)
  goes told tells types suspects =
      let sees : List ℕ → List Qual → Bool = λ n q. is_touched ds es (EventKey n q) in
      (λ i. sees-by-type sees t us (parts_under m) (sym (parts-kept same_quals m t us) ∙ kept) types
      (is_suspect ds es keys told (keys_of m) t) (suspects t)
      (λ clear. untouched edits ds told distinct apart tells (keys_of m) t (type-kept m t us kept) clear us fired) i || by-firer i)
      ∙ turned (is_touched ds es (EventKey t us)) (is_wanted es (EventKey t us))
    where
      turned : (a b : Bool) → (a || not b) ≡ not (b && not a)
      turned true true = refl
      turned true false = refl
      turned false true = refl
      turned false false = refl

-- what goes is known of declarations that edits lead to
abbrev GoesOn : List Decl → List DeclKey → Events → Drops → List (List ℕ) → List ℕ → List Qual → List Decl → List DeclKey → Type 0
GoesOn ds told m drops types t us e ks = Tells ds e ks told → AreDistinct e
    → ((s : List ℕ) (vs : List Qual) → drops s vs ≡ (is_kept m s vs && not (is_asked e questions.Event s vs)))
    → ((n : List ℕ) → list_any (bytes_eq n) types ≡ is_suspect ds e ks told (keys_of m) n)
    → (is_touched_of ds e m types t us || list_any (is_dropped_at ds drops t us) ks) ≡ not (event_stays ds e t us)

-- the same where edits lead from one side to the other
pub gone-between : (sides : Sides) → IsBetween sides → AreDistinct sides.index.now.decls → AreDistinct sides.next.now
    → (m : Events) → EventsAreWanted sides.index.now.decls m → (drops : Drops)
    → ((s : List ℕ) (vs : List Qual) → drops s vs
    ≡ (is_kept m s vs && not (is_asked sides.next.now questions.Event s vs)))
    → (types : List (List ℕ))
    → ((n : List ℕ) → list_any (bytes_eq n) types
    ≡ is_suspect sides.index.now.decls sides.next.now sides.edited.now sides.affected.now (keys_of m) n)
    → (t : List ℕ) (us : List Qual) → is_kept m t us ≡ true
    → (is_touched_of sides.index.now.decls sides.next.now m types t us
    || list_any (is_dropped_at sides.index.now.decls drops t us) sides.edited.now)
    ≡ not (event_stays sides.index.now.decls sides.next.now t us)
gone-between sides between distinct apart m wanted drops are types suspects t us kept =
    grind (arith, between.edited.decls, between.edited.keys, between.told, goes)
