-- Of the kept choices exactly those go that are asked for no more, or see something else.
use Rattle.cdi_live.proofs.Common.{same-bool, ◌≡◌, Bool, true, false, not, ◌&&◌, List, [], ◌∷◌, refl, sym, ap, ◌∙◌, inl, inr, list_any}
use Rattle.cdi_live.proofs.Common.{bytes_eq, and_from, and_parts, false≢true, or_cases, or_left, or_right, Decl, Qual, ℕ, ◌||◌, Option}
use Rattle.cdi_live.proofs.Common.{Some, None, option_map_or, Edit, DeclKey, key_of, kind_of, name_of_decl, find_decl, AreDistinct}
use Rattle.cdi_live.proofs.Common.{edited_all, edited_keys, is_among, mentions, Mention, PointOf, asks_for, asks_in, ChoiceKey, is_wanted}
use Rattle.cdi_live.proofs.Common.{IsPresent, all_present, found_any, witness, edits_keep_decl, subst, bytes_decides, Tells, parts_under}
use Rattle.cdi_live.proofs.Common.{parts-kept, is_touched, IsBetween, Sides, holds, same_quals, same_quals-decides, required, Answers}
use Rattle.cdi_live.proofs.Common.{Choice, are_alike, sees_other, suspects, is_dropped_at}
use Rattle.cdi_index.specs.Asked.{is_asked}
use Rattle.cdi_index.specs.declared.asked.Question.TheVariants as questions
use Rattle.cdi_seen.proofs.TouchedLemmas.{touched_by_parts}
use Rattle.cdi_live.proofs.AskedLemmas.{any-among, any-elim, wanted-is}
use Rattle.cdi_live.proofs.SuspectLemmas.{beans-same, uses-alike}
use Rattle.cdi_live.specs.{Dropped.is_dropped_by, Dropped.is_dropped_in, Dropped.is_kept, Dropped.Asks, Gone.stays_known, Stage.AreWanted}

-- the kept choices for types that see something else
abbrev pub goes_by_type : (List ℕ → List Qual → Bool) → Answers (List Qual) Choice → List (List ℕ) → List ℕ → List Qual → Bool
goes_by_type sees m types t us = list_any (λ n. bytes_eq t n && list_any (λ q. same_quals us q && sees n q) (parts_under m n)) types

module _ (edits : List Edit) (ds : List Decl) (told : List DeclKey) (distinct : AreDistinct ds) (apart : AreDistinct (edited_all ds edits))
    (tells : Tells ds (edited_all ds edits) (edited_keys edits) told) (m : Answers (List Qual) Choice)
    (t : List ℕ) (us : List Qual) (kept : is_kept m t us ≡ true) (parts : list_any (same_quals us) (parts_under m t) ≡ true)
    (wanted : is_wanted ds (ChoiceKey t us) ≡ true) where
  abbrev es : List Decl
  es = edited_all ds edits

  abbrev keys : List DeclKey
  keys = edited_keys edits

  asked : list_any (asks_for questions.Choice t us) ds ≡ true
  asked = sym (wanted-is t us ds) ∙ wanted

  -- ---- by what is seen

  -- a choice for a type that is not suspect sees the same
  spared : holds (suspects ds es keys told) t ≡ false → sees_other ds es t us ≡ false
  spared clear = ap (λ b. not (b && are_alike ds es us)) (beans-same edits ds told distinct apart tells t clear)
      ∙ ap not (uses-alike edits ds told distinct apart tells t clear us asked)

  pub by-type : (types : List (List ℕ)) → ((n : List ℕ) → list_any (bytes_eq n) types ≡ holds (suspects ds es keys told) n)
      → goes_by_type (sees_other ds es) m types t us ≡ sees_other ds es t us
  by-type types are = same-bool (goes_by_type (sees_other ds es) m types t us) (sees_other ds es t us) there back
    where
      there : goes_by_type (sees_other ds es) m types t us ≡ true → sees_other ds es t us ≡ true
      there h = any-elim (λ n. bytes_eq t n && list_any (λ q. same_quals us q && sees_other ds es n q) (parts_under m n)) types h (λ n one.
          let first = and_parts (bytes_eq t n) (list_any (λ q. same_quals us q && sees_other ds es n q) (parts_under m n)) one in
          any-elim (λ q. same_quals us q && sees_other ds es n q) (parts_under m n) first.1 (λ q two.
          let both = and_parts (same_quals us q) (sees_other ds es n q) two in
          ap (λ x. sees_other ds es x us) ((bytes_decides t n).0 first.0)
          ∙ ap (sees_other ds es n) ((same_quals-decides us q).0 both.0) ∙ both.1))

      at-part : (qs : List (List Qual)) → list_any (same_quals us) qs ≡ true → sees_other ds es t us ≡ true
          → list_any (λ q. same_quals us q && sees_other ds es t q) qs ≡ true
      at-part [] h sees = absurd (false≢true h)
      at-part (q ∷ qs) h sees = elim (or_cases (same_quals us q) (list_any (same_quals us) qs) h) [
        | inl here ↦ or_left (same_quals us q && sees_other ds es t q) (list_any (λ q. same_quals us q && sees_other ds es t q) qs)
            (and_from (same_quals us q) (sees_other ds es t q) here
            (ap (sees_other ds es t) (sym ((same_quals-decides us q).0 here)) ∙ sees))
        | inr later ↦ or_right (same_quals us q && sees_other ds es t q) (list_any (λ q. same_quals us q && sees_other ds es t q) qs)
            (at-part qs later sees)
      ]

      at-type : (ns : List (List ℕ)) → list_any (bytes_eq t) ns ≡ true → sees_other ds es t us ≡ true
          → goes_by_type (sees_other ds es) m ns t us ≡ true
      at-type [] h sees = absurd (false≢true h)
      at-type (n ∷ ns) h sees =
          let here : Bool = bytes_eq t n && list_any (λ q. same_quals us q && sees_other ds es n q) (parts_under m n) in
          elim (or_cases (bytes_eq t n) (list_any (bytes_eq t) ns) h) [
            | inl one ↦ or_left here (goes_by_type (sees_other ds es) m ns t us)
                (and_from (bytes_eq t n) (list_any (λ q. same_quals us q && sees_other ds es n q) (parts_under m n)) one
                (ap (λ x. list_any (λ q. same_quals us q && sees_other ds es x q) (parts_under m x)) (sym ((bytes_decides t n).0 one))
                ∙ at-part (parts_under m t) parts sees))
            | inr later ↦ or_right here (goes_by_type (sees_other ds es) m ns t us) (at-type ns later sees)
          ]

      back : sees_other ds es t us ≡ true → goes_by_type (sees_other ds es) m types t us ≡ true
      back sees = by (holds (suspects ds es keys told) t) refl
        where
          by : (b : Bool) → holds (suspects ds es keys told) t ≡ b → goes_by_type (sees_other ds es) m types t us ≡ true
          by true e = at-type types (are t ∙ e) sees
          by false e = absurd (false≢true (sym (spared e) ∙ sees))

  -- ---- by who asks

  module _ (asks : Asks) (at_before : asks.before ≡ ds)
      (drops : (s : List ℕ) (vs : List Qual) → asks.drops s
      vs ≡ (is_kept m s vs && not (is_asked es questions.Choice s vs))) where
    un-not : (b : Bool) → not b ≡ true → b ≡ false
    un-not true h = absurd (false≢true h)
    un-not false h = refl

    drops-own : asks.drops t us ≡ not (is_wanted es (ChoiceKey t us))
    drops-own = drops t us ∙ ap (λ b. b && not (is_asked es questions.Choice t us)) kept ∙ ap not (sym (wanted-is t us es))

    -- what a declaration drops is what it asks for, and is not wanted
    dropped-in : (x : Mention) → is_dropped_in asks t us x ≡ (asks_in questions.Choice t us x && not (is_wanted es (ChoiceKey t us)))
    dropped-in (PointOf place point) = by (asks_in questions.Choice t us (PointOf place point)) refl
      where
        by : (b : Bool) → asks_in questions.Choice t us (PointOf place point) ≡ b
            → (b && asks.drops point.required_type (required point.qualifiers)) ≡ (b && not (is_wanted es (ChoiceKey t us)))
        by false e = refl
        by true e =
            let both = and_parts (bytes_eq t point.required_type) (same_quals us (required point.qualifiers)) e in
            ap (λ s. asks.drops s (required point.qualifiers)) (sym ((bytes_decides t point.required_type).0 both.0))
            ∙ ap (asks.drops t) (sym ((same_quals-decides us (required point.qualifiers)).0 both.1)) ∙ drops-own
    dropped-in other = refl

    dropped-any : (xs : List Mention) → list_any (is_dropped_in asks t us) xs
        ≡ (list_any (asks_in questions.Choice t us) xs && not (is_wanted es (ChoiceKey t us)))
    dropped-any [] = refl
    dropped-any (x ∷ xs) =
        (λ i. dropped-in x i || dropped-any xs i)
        ∙ both (asks_in questions.Choice t us x) (list_any (asks_in questions.Choice t us) xs) (not (is_wanted es (ChoiceKey t us)))
      where
        both : (a b c : Bool) → ((a && c) || (b && c)) ≡ ((a || b) && c)
        both true true true = refl
        both true true false = refl
        both true false true = refl
        both true false false = refl
        both false b c = refl

    dropped-by : (d : Decl) → is_dropped_by asks t us d ≡ (asks_for questions.Choice t us d && not (is_wanted es (ChoiceKey t us)))
    unfolding is_dropped_by asks_for
    dropped-by d = dropped-any (mentions d)

    pub by-asker : list_any (is_dropped_at asks t us) keys ≡ not (is_wanted es (ChoiceKey t us))
    by-asker = same-bool (list_any (is_dropped_at asks t us) keys) (not (is_wanted es (ChoiceKey t us))) there back
      where
        there : list_any (is_dropped_at asks t us) keys ≡ true → not (is_wanted es (ChoiceKey t us)) ≡ true
        there h = any-elim (is_dropped_at asks t us) keys h (λ k dropped. by (find_decl k.kind k.name asks.before) dropped)
          where
            by : (o : Option Decl) → option_map_or (is_dropped_by asks t us) o false ≡ true → not (is_wanted es (ChoiceKey t us)) ≡ true
            by None none = absurd (false≢true none)
            by (Some d) dropped = (and_parts (asks_for questions.Choice t us d) (not (is_wanted es (ChoiceKey t us)))
                (sym (dropped-by d) ∙ dropped)).1

        back : not (is_wanted es (ChoiceKey t us)) ≡ true → list_any (is_dropped_at asks t us) keys ≡ true
        back unwanted =
            let it = witness (IsPresent ds) (asks_for questions.Choice t us) ds (all_present ds distinct) asked in
            by it.0 it.1 it.2 (is_among keys (key_of it.0)) refl
          where
            by : (d : Decl) → IsPresent ds d → asks_for questions.Choice t us d ≡ true → (b : Bool) → is_among keys (key_of d) ≡ b
                → list_any (is_dropped_at asks t us) keys ≡ true
            by d found asking true among = any-among (is_dropped_at asks t us) keys (key_of d) among
                (ap (λ list. option_map_or (is_dropped_by asks t us) (find_decl (kind_of d) (name_of_decl d) list) false) at_before
                ∙ ap (λ o. option_map_or (is_dropped_by asks t us) o false) found ∙ dropped-by d
                ∙ and_from (asks_for questions.Choice t us d) (not (is_wanted es (ChoiceKey t us))) asking unwanted)
            by d found asking false none = absurd (false≢true (sym (un-not (is_wanted es (ChoiceKey t us)) unwanted)
                ∙ wanted-is t us es
                ∙ found_any (kind_of d) (name_of_decl d) es d (asks_for questions.Choice t us)
                (edits_keep_decl edits ds (kind_of d) (name_of_decl d) none ∙ found) asking))

    -- ---- both

    pub goes : (types : List (List ℕ)) → ((n : List ℕ) → list_any (bytes_eq n) types ≡ holds (suspects ds es keys told) n)
        → (goes_by_type (sees_other ds es) m types t us || list_any (is_dropped_at asks t us) keys) ≡ not (stays_known ds es t us)
    goes types are =
        (λ i. by-type types are i || by-asker i)
        ∙ ap (λ b. b || not (is_wanted es (ChoiceKey t us))) (sym (touched_by_parts ds es t us))
        ∙ turned (is_touched ds es (ChoiceKey t us)) (is_wanted es (ChoiceKey t us))
      where
        turned : (a b : Bool) → (a || not b) ≡ not (b && not a)
        turned true true = refl
        turned true false = refl
        turned false true = refl
        turned false false = refl

-- what goes is known of declarations that edits lead to
abbrev GoesOn : List Decl → List DeclKey → Answers (List Qual) Choice → Asks → List (List ℕ) → List ℕ → List Qual → List Decl
    → List DeclKey → Type 0
GoesOn ds told m asks types t us e ks = Tells ds e ks told → AreDistinct e
    → ((s : List ℕ) (vs : List Qual) → asks.drops s vs ≡ (is_kept m s vs && not (is_asked e questions.Choice s vs)))
    → ((n : List ℕ) → list_any (bytes_eq n) types ≡ holds (suspects ds e ks told) n)
    → (goes_by_type (sees_other ds e) m types t us || list_any (is_dropped_at asks t us) ks) ≡ not (stays_known ds e t us)

-- the same where edits lead from one side to the other
pub gone-between : (sides : Sides) → IsBetween sides → AreDistinct sides.index.now.decls → AreDistinct sides.next.now
    → (m : Answers (List Qual) Choice) → AreWanted sides.index.now.decls m → (asks : Asks) → asks.before ≡ sides.index.now.decls
    → ((s : List ℕ) (vs : List Qual) → asks.drops s vs
    ≡ (is_kept m s vs && not (is_asked sides.next.now questions.Choice s vs)))
    → (types : List (List ℕ))
    → ((n : List ℕ) → list_any (bytes_eq n) types ≡ holds
    (suspects sides.index.now.decls sides.next.now sides.edited.now sides.affected.now) n)
    → (t : List ℕ) (us : List Qual) → is_kept m t us ≡ true
    → (goes_by_type (sees_other sides.index.now.decls sides.next.now) m types t us || list_any (is_dropped_at asks t us) sides.edited.now)
    ≡ not (stays_known sides.index.now.decls sides.next.now t us)
gone-between sides between distinct apart m wanted asks before drops types are t us kept =
    let ds = sides.index.now.decls in
    let edits = between.edited.edits in
    let told = sides.affected.now in
    subst (λ e. GoesOn ds told m asks types t us e sides.edited.now) (sym between.edited.decls)
    (subst (GoesOn ds told m asks types t us (edited_all ds edits)) (sym between.edited.keys)
    (λ tells apart drops are. goes edits ds told distinct apart tells m t us kept (sym (parts-kept same_quals m t us) ∙ kept)
    (wanted t us kept) asks before drops types are))
    between.told apart drops are
