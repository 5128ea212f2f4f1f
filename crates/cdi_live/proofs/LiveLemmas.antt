-- What is known after a commit, and after an evaluation.
use Rattle.cdi_live.proofs.Common.{◌≡◌, Bool, true, false, not, ◌&&◌, List, [], ◌∷◌, length, is_some, refl, sym, ap, ◌∙◌, inl, inr}
use Rattle.cdi_live.proofs.Common.{bytes_eq, and_parts, false≢true, Decl, BeanPlace, Qual, ℕ, ◌||◌, Option, Some, None, bytes_eq-turned}
use Rattle.cdi_live.proofs.Common.{list_any-append, ChoiceKey, is_wanted, ◌++◌, subst, bytes_decides, same_place, ChainKey, is_touched}
use Rattle.cdi_live.proofs.Common.{Chains, touched_where_seen_differs, beans, EventKey, same_quals, same_quals-decides, ObserverId, Events}
use Rattle.cdi_live.proofs.Common.{required, Answers, Choice, Key, knows_in, Memos, Ok, if◌then◌else◌, chain_of, answer, Removes, IfSome}
use Rattle.cdi_live.proofs.Common.{eqb-true, after_key, with_known, is_gone, Gone, arith}
use Rattle.std.proofs.Common.{◌==◌}
use Rattle.std.proofs.lemmas.List.{nil_from_length}
use Rattle.cdi_model.specs.{Quals.put_use, SameUse.same_quals_equiv, Work.with_one}
use Rattle.cdi_effective.specs.Qualifiers.{default_use}
use Rattle.cdi_index.specs.State.{committed as index_committed, committed_to, State as IndexState}
use Rattle.cdi_resolve.specs.{Choices.chosen, Choices.eligible}
use Rattle.cdi_resolve.proofs.SeenLemmas.{choice_rests_on_seen}
use Rattle.cdi_observe.specs.{Kept.Kept, Observers.notified}
use Rattle.cdi_observe.proofs.SeenLemmas.{notified_rest_on_seen}
use Rattle.cdi_live.proofs.LiveChainLemmas.{known-chain-with, places-after, places-with, right-chains-after, right-chains-with}
use Rattle.cdi_live.proofs.PartLemmas.{nothing-more}
use Rattle.std.specs.List.{AllByRecursion}
use Rattle.cdi_live.specs.{EventLists.AreRightLists, declared.event_lists.EventLists.EventLists}
use Rattle.cdi_live.specs.State.{AreKept, AreRight, HasDefault, IsDefaultOrNone, IsGoing, IsLive, MayGo}
use Rattle.cdi_live.specs.{Kept.AreGoing, Kept.Forgets, declared.memos.Going.Going}

abbrev pub Choices : Type 0
Choices = Answers (List Qual) Choice

abbrev pub keeping : (Key → Bool) → ℕ → Kept
keeping knows work = record { keeps = true; knows = knows; work = work }

-- ---- answers by types and qualifiers

module _ {A : Type 0} (key : List ℕ → List Qual → Key) (value : List Decl → List ℕ → List Qual → A) where
  abbrev kept : Answers (List Qual) A → List ℕ → List Qual → Bool
  kept m t us = is_some (answer same_quals m t us)

  abbrev Right : List Decl → Answers (List Qual) A → Type 0
  Right ds m = (t : List ℕ) (us : List Qual) (a : A) → answer same_quals m t us ≡ Some a → a ≡ value ds t us

  abbrev Wanted : List Decl → Answers (List Qual) A → Type 0
  Wanted ds m = (t : List ℕ) (us : List Qual) → kept m t us ≡ true → is_wanted ds (key t us) ≡ true

  abbrev staying : List Decl → List Decl → List ℕ → List Qual → Bool
  staying ds es t us = is_wanted es (key t us) && not (is_touched ds es (key t us))

  -- after a commit
  module _ (ds es : List Decl) (rests : (t : List ℕ) (us : List Qual) → not (is_touched ds es (key t us)) ≡ true
      → value ds t us ≡ value es t us)
      (m new : Answers (List Qual) A) (list : List Gone)
      (gone : (t : List ℕ) (us : List Qual) → kept m t us ≡ true → is_gone list t us ≡ not (staying ds es t us))
      (forgets : (t : List ℕ) (us : List Qual)
      → answer same_quals new t us ≡ (if is_gone list t us then None else answer same_quals m t us)) where
    -- an answer that is kept after was kept before, and stays
    record Stays (t : List ℕ) (us : List Qual) : Type 0 where
      same : answer same_quals new t us ≡ answer same_quals m t us
      stays_it : staying ds es t us ≡ true

    un-not : (b : Bool) → false ≡ not b → b ≡ true
    un-not true h = refl
    un-not false h = absurd (false≢true h)

    stays : (t : List ℕ) (us : List Qual) → kept new t us ≡ true → Stays t us
    stays t us there = by (is_gone list t us) refl (forgets t us)
      where
        by : (b : Bool) → is_gone list t us ≡ b → answer same_quals new t us ≡ (if b then None else answer same_quals m t us) → Stays t us
        by true e f = absurd (false≢true (sym (ap is_some f) ∙ there))
        by false e f = record { same = f; stays_it = un-not (staying ds es t us) (sym e ∙ gone t us (sym (ap is_some f) ∙ there)) }

    -- it sees the same, so it is the same
    right-after : Right ds m → Right es new
    right-after right t us a there =
        let it = stays t us (ap is_some there) in
        right t us a (sym it.same ∙ there)
        ∙ rests t us (and_parts (is_wanted es (key t us)) (not (is_touched ds es (key t us))) it.stays_it).1

    wanted-after : Wanted es new
    wanted-after t us there = (and_parts (is_wanted es (key t us)) (not (is_touched ds es (key t us))) (stays t us there).stays_it).0

  -- after an evaluation
  module _ (ds : List Decl) (m new : Answers (List Qual) A) (t : List ℕ) (us : List Qual) (a : A)
      (keeps : (s : List ℕ) (vs : List Qual) → answer same_quals new s vs
      ≡ (if is_wanted ds (key t us) && (bytes_eq t s && same_quals us vs) then Some a else answer same_quals m s vs)) where
    abbrev is_it : List ℕ → List Qual → Bool
    is_it s vs = is_wanted ds (key t us) && (bytes_eq t s && same_quals us vs)

    known-with : (s : List ℕ) (vs : List Qual) → kept new s vs ≡ (kept m s vs || is_it s vs)
    known-with s vs = ap is_some (keeps s vs) ∙ by (is_it s vs) (answer same_quals m s vs)
      where
        by : (b : Bool) (o : Option A) → is_some (if b then Some a else o) ≡ (is_some o || b)
        by true None = refl
        by true (Some c) = refl
        by false None = refl
        by false (Some c) = refl

    right-with : a ≡ value ds t us → Right ds m → Right ds new
    right-with is right s vs other there = by (is_it s vs) refl (sym (keeps s vs) ∙ there)
      where
        by : (b : Bool) → is_it s vs ≡ b → (if b then Some a else answer same_quals m s vs) ≡ Some other → other ≡ value ds s vs
        by true e f =
            let parts = and_parts (bytes_eq t s) (same_quals us vs)
            (and_parts (is_wanted ds (key t us)) (bytes_eq t s && same_quals us vs) e).1 in
            let one : a ≡ other = cc in
            sym one ∙ is ∙ ap (λ x. value ds x us) ((bytes_decides t s).0 parts.0) ∙ ap (value ds s) ((same_quals-decides us vs).0 parts.1)
        by false e f = right s vs other f

    wanted-with : Wanted ds m → Wanted ds new
    wanted-with wanted s vs there = by (is_it s vs) refl (sym (ap is_some (keeps s vs)) ∙ there)
      where
        by : (b : Bool) → is_it s vs ≡ b → is_some (if b then Some a else answer same_quals m s vs) ≡ true → is_wanted ds (key s vs) ≡ true
        by true e f =
            let first = and_parts (is_wanted ds (key t us)) (bytes_eq t s && same_quals us vs) e in
            let parts = and_parts (bytes_eq t s) (same_quals us vs) first.1 in
            ap (λ x. is_wanted ds (key x vs)) (sym ((bytes_decides t s).0 parts.0))
            ∙ ap (λ x. is_wanted ds (key t x)) (sym ((same_quals-decides us vs).0 parts.1)) ∙ first.0
        by false e f = wanted s vs f

-- ---- what rests on what is seen

abbrev pub choice_of : List Decl → List ℕ → List Qual → Choice
choice_of ds t us = chosen ds (beans ds) t us

abbrev pub ids_of : List Decl → List ℕ → List Qual → List ObserverId
ids_of ds t us = notified ds (beans ds) t us

same-choice : (ds es : List Decl) (t : List ℕ) (us : List Qual) → not (is_touched ds es (ChoiceKey t us)) ≡ true
    → choice_of ds t us ≡ choice_of es t us
same-choice ds es t us h = grind (arith, choice_rests_on_seen, touched_where_seen_differs)

same-ids : (ds es : List Decl) (t : List ℕ) (us : List Qual) → not (is_touched ds es (EventKey t us)) ≡ true
    → ids_of ds t us ≡ ids_of es t us
same-ids ds es t us h = grind (arith, notified_rest_on_seen, touched_where_seen_differs)

-- ---- a commit

module _ (ds es : List Decl) (memos new : Memos) (going : Going) (are : AreGoing ds es memos going)
    (forgets : Forgets memos going new) where
  pub kept-after-commit : AreKept ds memos → AreKept es new
  kept-after-commit is = record {
    choices = right-after ChoiceKey choice_of ds es
        (same-choice ds es) memos.choices new.choices going.choices.items are.choices forgets.choices
        is.choices;
    chains = right-chains-after ds es memos.chains new.chains going.chains.items are.chains forgets.chains are.distinct is.chains;
    events = right-after EventKey ids_of ds es
        (same-ids ds es) memos.events new.events going.events.items are.events forgets.events is.events;
    asked = record {
      choices = wanted-after ChoiceKey choice_of ds es
          (same-choice ds es) memos.choices new.choices going.choices.items are.choices forgets.choices;
      chains = places-after ds es memos.chains new.chains going.chains.items are.chains forgets.chains;
      events = wanted-after EventKey ids_of ds es (same-ids ds es) memos.events new.events going.events.items are.events forgets.events;
    };
  }

none-either : (b : Bool) (o : Option Choice) → o ≡ None → (if b then None else o) ≡ None
none-either b o h = grind arith

-- where no choice is kept, none is after some are forgotten
default-after : (us : List Qual) (m new : Choices) (gone : List ℕ → List Qual → Bool)
    → ((t : List ℕ) (vs : List Qual) → answer same_quals new t vs ≡ (if gone t vs then None else answer same_quals m t vs))
    → HasDefault us m → HasDefault us new
default-after us m new gone forgets (inl is) = inl is
default-after us m new gone forgets (inr nothing) =
    inr (nothing.0, λ t vs. forgets t vs ∙ none-either (gone t vs) (answer same_quals m t vs) (nothing.1 t vs))

-- where none are kept all are right
pub no-lists : (ds : List Decl) (lists : EventLists) → lists.lists.items ≡ [] → AreRightLists ds lists
no-lists ds lists none = subst (AllByRecursion _) (sym none) tt

pub live-after : (index after : IndexState) (memos new : Memos) (lists none_yet : EventLists) (by_default : List Qual)
    (before now : Option Going) (going : Going)
    → none_yet.lists.items ≡ [] → IsLive index memos lists by_default before → before ≡ Some going → now ≡ None → after ≡ index_committed index → Forgets memos going new
    → IsLive after new none_yet by_default now
live-after index after memos new lists none_yet by_default before now going empty live was none is forgets =
    let staged : IsGoing index memos going = subst (MayGo index memos) was live.staged in
    let decls : after.decls ≡ staged.next.decls =
    ap (λ (s : IndexState). s.decls) is ∙ ap (λ o. (committed_to index o).decls) staged.staged in
    record {
      default = default-after by_default memos.choices new.choices (is_gone going.choices.items) forgets.choices live.default;
      kept = subst (λ d. AreKept d new) (sym decls)
          (kept-after-commit index.decls staged.next.decls memos new going staged.are forgets live.kept);
      shared = no-lists after.decls none_yet empty;
      staged = subst (MayGo after new) (sym none) tt;
    }

-- ---- an evaluation

-- a choice by what is required is the choice
pub chosen-by-required : (ds : List Decl) (t : List ℕ) (us : List Qual) → choice_of ds t (required us) ≡ choice_of ds t us
unfolding chosen eligible
chosen-by-required ds t us = grind arith

-- one more choice
module _ (ds : List Decl) (memos : Memos) (new : Choices) (t : List ℕ) (us : List Qual) (choice : Choice)
    (keeps : (s : List ℕ) (vs : List Qual) → answer same_quals new s vs
    ≡ (if is_wanted ds (ChoiceKey t us) && (bytes_eq t s && same_quals us vs) then Some choice else answer same_quals memos.choices s
    vs)) where
  abbrev with_choice : Memos
  with_choice = record { choices = new; chains = memos.chains; events = memos.events }

  one-choice : (k : Key) → knows_in with_choice k ≡ with_known ds (knows_in memos) (ChoiceKey t us) k
  one-choice (ChoiceKey s vs) = known-with ChoiceKey choice_of ds memos.choices new t us choice keeps s vs
  one-choice (ChainKey class place) = nothing-more (knows_in memos (ChainKey class place)) (is_wanted ds (ChoiceKey t us))
  one-choice (EventKey s vs) = nothing-more (knows_in memos (EventKey s vs)) (is_wanted ds (ChoiceKey t us))

  pub known-with-choice : knows_in with_choice ≡ with_known ds (knows_in memos) (ChoiceKey t us)
  known-with-choice = λ i k. one-choice k i

  pub kept-with-choice : choice ≡ choice_of ds t us → AreKept ds memos → AreKept ds with_choice
  kept-with-choice is kept = record {
    choices = right-with ChoiceKey choice_of ds memos.choices new t us choice keeps is kept.choices;
    chains = kept.chains;
    events = kept.events;
    asked = record {
      choices = wanted-with ChoiceKey choice_of ds memos.choices new t us choice keeps kept.asked.choices;
      chains = kept.asked.chains;
      events = kept.asked.events;
    };
  }

-- the observer methods of one more event
module _ (ds : List Decl) (memos : Memos) (new : Events) (t : List ℕ) (us : List Qual) (ids : List ObserverId)
    (keeps : (s : List ℕ) (vs : List Qual) → answer same_quals new s vs
    ≡ (if is_wanted ds (EventKey t us) && (bytes_eq t s && same_quals us vs) then Some ids else answer same_quals memos.events s vs)) where
  abbrev with_event : Memos
  with_event = record { choices = memos.choices; chains = memos.chains; events = new }

  one-event : (k : Key) → knows_in with_event k ≡ with_known ds (knows_in memos) (EventKey t us) k
  one-event (EventKey s vs) = known-with EventKey ids_of ds memos.events new t us ids keeps s vs
  one-event (ChainKey class place) = nothing-more (knows_in memos (ChainKey class place)) (is_wanted ds (EventKey t us))
  one-event (ChoiceKey s vs) = nothing-more (knows_in memos (ChoiceKey s vs)) (is_wanted ds (EventKey t us))

  pub known-with-event : knows_in with_event ≡ with_known ds (knows_in memos) (EventKey t us)
  known-with-event = λ i k. one-event k i

  pub kept-with-event : ids ≡ ids_of ds t us → AreKept ds memos → AreKept ds with_event
  kept-with-event is kept = record {
    choices = kept.choices;
    chains = kept.chains;
    events = right-with EventKey ids_of ds memos.events new t us ids keeps is kept.events;
    asked = record {
      choices = kept.asked.choices;
      chains = kept.asked.chains;
      events = wanted-with EventKey ids_of ds memos.events new t us ids keeps kept.asked.events;
    };
  }

-- one more chain
module _ (ds : List Decl) (memos : Memos) (new : Chains) (class : List ℕ) (place : BeanPlace) (names : List (List ℕ))
    (wanted : is_wanted ds (ChainKey class place) ≡ true)
    (keeps : (c : List ℕ) (p : BeanPlace) → answer same_place new c p
    ≡ (if bytes_eq class c && same_place place p then Some names else answer same_place memos.chains c p)) where
  abbrev with_chain : Memos
  with_chain = record { choices = memos.choices; chains = new; events = memos.events }

  one-chain : (k : Key) → knows_in with_chain k ≡ with_known ds (knows_in memos) (ChainKey class place) k
  one-chain (ChainKey c p) = known-chain-with ds memos.chains new class place names keeps c p
      ∙ ap (λ b. knows_in memos (ChainKey c p) || (b && (bytes_eq class c && same_place place p))) (sym wanted)
  one-chain (ChoiceKey s vs) = nothing-more (knows_in memos (ChoiceKey s vs)) (is_wanted ds (ChainKey class place))
  one-chain (EventKey s vs) = nothing-more (knows_in memos (EventKey s vs)) (is_wanted ds (ChainKey class place))

  pub known-with-one-chain : knows_in with_chain ≡ with_known ds (knows_in memos) (ChainKey class place)
  known-with-one-chain = λ i k. one-chain k i

  pub kept-with-chain : chain_of ds class place ≡ Ok names → AreKept ds memos → AreKept ds with_chain
  kept-with-chain is kept = record {
    choices = kept.choices;
    chains = right-chains-with ds memos.chains new class place names keeps is kept.chains;
    events = kept.events;
    asked = record {
      choices = kept.asked.choices;
      chains = places-with ds memos.chains new class place names keeps wanted kept.asked.chains;
      events = kept.asked.events;
    };
  }

pub default-there : (us : List Qual) → IsDefaultOrNone us → (length us == 0) ≡ false → us ≡ default_use ∷ []
default-there us (inl is) some = is
default-there us (inr none) some = absurd (let no : true ≡ false = ap (λ (l : List Qual). length l == 0) (sym none) ∙ some in cc)

-- what is made where none is there
pub made-default : (us : List Qual) (now : List Qual) → (length us == 0) ≡ true → now ≡ put_use us default_use → now ≡ default_use ∷ []
made-default us now none made = made ∙ ap (λ l. put_use l default_use) (nil_from_length us (eqb-true (length us) 0 none))

pub ruleset default_or_none = (default-there, made-default)

-- what is lent is right
pub right-lent : (ds : List Decl) (m : Choices) (t : List ℕ) (us uses : List Qual) → AreRight ds m → uses ≡ required us
    → (o : Option Choice)
    → o ≡ answer same_quals m t uses → IfSome o (λ choice. choice ≡ choice_of ds t us)
right-lent ds m t us uses right same None is = tt
right-lent ds m t us uses right same (Some choice) is =
    right t uses choice (sym is) ∙ ap (choice_of ds t) same ∙ chosen-by-required ds t us

-- what is kept after an evaluation of a key that was not known
pub kept-after : (ds : List Decl) (knows knows_now : Key → Bool) (work counted : ℕ) (k : Key) → knows_now ≡ with_known ds knows k
    → false ≡ knows k → counted ≡ with_one work → keeping knows_now counted ≡ after_key ds k (keeping knows work)
unfolding after_key
kept-after ds knows knows_now work counted k known unknown one = grind arith

-- ---- what is forgotten, one after another

pub forget-next : {A : Type 0} (items rest : List Gone) (one : Gone) (old new : Answers (List Qual) A) → items ≡ rest ++ one ∷ []
    → Removes same_quals one.bean_type one.uses old new → (t : List ℕ) (us : List Qual)
    → (if is_gone rest t us then None else answer same_quals new t us) ≡ (if is_gone items t us then None else answer same_quals old t us)
forget-next {A = A} items rest one old new are removes t us =
    grind (arith, one.bean_type, one.uses, bytes_eq-turned, same_quals_equiv.symm, list_any-append)
