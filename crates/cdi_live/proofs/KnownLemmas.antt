-- Each known key is wanted, and as many of the wanted keys are known as answers are kept.
use Rattle.cdi_live.proofs.Common.{◌≡◌, Bool, true, ◌&&◌, List, [], ◌∷◌, length, filter, refl, sym, ap, ◌∙◌, list_any, bytes_eq, Decl}
use Rattle.cdi_live.proofs.Common.{BeanPlace, Qual, ℕ, ◌||◌, ChoiceKey, is_wanted, same_place, ChainKey, suc, ◌+◌, arith, has_key, EventKey}
use Rattle.cdi_live.proofs.Common.{same_quals, Key, knows_in, Memos}
use Rattle.std.specs.List.{IsDistinct}
use Rattle.std.proofs.lemmas.Map.Keys.{IsDistinct-cons, IsDistinct-head, IsDistinct-tail}
use Rattle.base_lists.proofs.Any.{none-passes, each-fails}
use Rattle.cdi_memo.specs.{Answers.how_many, Answers.is_kept, Answers.same_question, Answers.Question, Laws.CountsAnswered}
use Rattle.cdi_memo.proofs.QuestionLemmas.{differ-nil}
use Rattle.cdi_observe.specs.{Wanted.wanted, Keys.same_key}
use Rattle.cdi_observe.proofs.WantedLemmas.{has-wanted, wanted-distinct}
use Rattle.cdi_live.specs.Kept.{AreAsked}

-- ---- the known keys are wanted

pub known-wanted : (ds : List Decl) (memos : Memos) → AreAsked ds memos → (key : Key) → knows_in memos key ≡ true → is_wanted ds key ≡ true
known-wanted ds memos asked (ChoiceKey t us) known = asked.choices t us known
known-wanted ds memos asked (ChainKey class place) known = asked.chains class place known
known-wanted ds memos asked (EventKey t us) known = asked.events t us known

-- ---- the questions of each kind among some keys

abbrev choices_in : List Key → List (Question (List Qual))
choices_in [] = []
choices_in (ChoiceKey t us ∷ keys) = (t, us) ∷ choices_in keys
choices_in (other ∷ keys) = choices_in keys

abbrev chains_in : List Key → List (Question BeanPlace)
chains_in [] = []
chains_in (ChainKey class place ∷ keys) = (class, place) ∷ chains_in keys
chains_in (other ∷ keys) = chains_in keys

abbrev events_in : List Key → List (Question (List Qual))
events_in [] = []
events_in (EventKey t us ∷ keys) = (t, us) ∷ events_in keys
events_in (other ∷ keys) = events_in keys

has-choice : (keys : List Key) (q : Question (List Qual))
    → list_any (same_question same_quals q) (choices_in keys) ≡ has_key keys (ChoiceKey q.0 q.1)
has-choice [] q = refl
has-choice (ChoiceKey t us ∷ keys) q = ap (λ b. (bytes_eq q.0 t && same_quals q.1 us) || b) (has-choice keys q)
has-choice (ChainKey class place ∷ keys) q = has-choice keys q
has-choice (EventKey t us ∷ keys) q = has-choice keys q

has-chain : (keys : List Key) (q : Question BeanPlace)
    → list_any (same_question same_place q) (chains_in keys) ≡ has_key keys (ChainKey q.0 q.1)
has-chain [] q = refl
has-chain (ChoiceKey t us ∷ keys) q = has-chain keys q
has-chain (ChainKey class place ∷ keys) q = ap (λ b. (bytes_eq q.0 class && same_place q.1 place) || b) (has-chain keys q)
has-chain (EventKey t us ∷ keys) q = has-chain keys q

has-event : (keys : List Key) (q : Question (List Qual))
    → list_any (same_question same_quals q) (events_in keys) ≡ has_key keys (EventKey q.0 q.1)
has-event [] q = refl
has-event (ChoiceKey t us ∷ keys) q = has-event keys q
has-event (ChainKey class place ∷ keys) q = has-event keys q
has-event (EventKey t us ∷ keys) q = ap (λ b. (bytes_eq q.0 t && same_quals q.1 us) || b) (has-event keys q)

-- ---- those of distinct keys are distinct

-- a question of a key in front of those of others
one-more : {Q : Type 0} (eq : Q → Q → Bool) (q : Question Q) (qs : List (Question Q)) (key : Key) (keys : List Key)
    → list_any (same_question eq q) qs ≡ has_key keys key → IsDistinct same_key (key ∷ keys) → IsDistinct (same_question eq) qs
    → IsDistinct (same_question eq) (q ∷ qs)
one-more eq q qs key keys has apart rest =
    IsDistinct-cons (same_question eq) q qs
    (each-fails (same_question eq q) qs (has ∙ none-passes (same_key key) keys (IsDistinct-head same_key key keys apart))) rest

choices-distinct : (keys : List Key) → IsDistinct same_key keys → IsDistinct (same_question same_quals) (choices_in keys)
choices-distinct [] apart = differ-nil (same_question same_quals)
choices-distinct (ChoiceKey t us ∷ keys) apart = one-more same_quals (t, us) (choices_in keys) (ChoiceKey t us) keys
    (has-choice keys (t, us)) apart
    (choices-distinct keys (IsDistinct-tail same_key (ChoiceKey t us) keys apart))
choices-distinct (ChainKey class place ∷ keys) apart = choices-distinct keys (IsDistinct-tail same_key (ChainKey class place) keys apart)
choices-distinct (EventKey t us ∷ keys) apart = choices-distinct keys (IsDistinct-tail same_key (EventKey t us) keys apart)

chains-distinct : (keys : List Key) → IsDistinct same_key keys → IsDistinct (same_question same_place) (chains_in keys)
chains-distinct [] apart = differ-nil (same_question same_place)
chains-distinct (ChoiceKey t us ∷ keys) apart = chains-distinct keys (IsDistinct-tail same_key (ChoiceKey t us) keys apart)
chains-distinct (ChainKey class place ∷ keys) apart =
    one-more same_place (class, place) (chains_in keys) (ChainKey class place) keys (has-chain keys (class, place)) apart
    (chains-distinct keys (IsDistinct-tail same_key (ChainKey class place) keys apart))
chains-distinct (EventKey t us ∷ keys) apart = chains-distinct keys (IsDistinct-tail same_key (EventKey t us) keys apart)

events-distinct : (keys : List Key) → IsDistinct same_key keys → IsDistinct (same_question same_quals) (events_in keys)
events-distinct [] apart = differ-nil (same_question same_quals)
events-distinct (ChoiceKey t us ∷ keys) apart = events-distinct keys (IsDistinct-tail same_key (ChoiceKey t us) keys apart)
events-distinct (ChainKey class place ∷ keys) apart = events-distinct keys (IsDistinct-tail same_key (ChainKey class place) keys apart)
events-distinct (EventKey t us ∷ keys) apart = one-more same_quals (t, us) (events_in keys) (EventKey t us) keys
    (has-event keys (t, us)) apart
    (events-distinct keys (IsDistinct-tail same_key (EventKey t us) keys apart))

-- ---- how many are known

first-more : (n choices chains events : ℕ) → n ≡ choices + (chains + events) → suc n ≡ suc choices + (chains + events)
first-more n choices chains events h = omega (arith, h)

second-more : (n choices chains events : ℕ) → n ≡ choices + (chains + events) → suc n ≡ choices + (suc chains + events)
second-more n choices chains events h = omega (arith, h)

third-more : (n choices chains events : ℕ) → n ≡ choices + (chains + events) → suc n ≡ choices + (chains + suc events)
third-more n choices chains events h = omega (arith, h)

module _ (memos : Memos) where
  abbrev known : List Key → List Key
  known keys = filter (knows_in memos) keys

  abbrev choices : List Key → List (Question (List Qual))
  choices keys = filter (is_kept same_quals memos.choices) (choices_in keys)

  abbrev chains : List Key → List (Question BeanPlace)
  chains keys = filter (is_kept same_place memos.chains) (chains_in keys)

  abbrev events : List Key → List (Question (List Qual))
  events keys = filter (is_kept same_quals memos.events) (events_in keys)

  -- a key is known where its question has an answer
  count-known : (keys : List Key) → length (known keys) ≡ length (choices keys) + (length (chains keys) + length (events keys))
  count-known [] = refl
  count-known (ChoiceKey t us ∷ keys) = grind (arith, count-known keys, first-more)
  count-known (ChainKey class place ∷ keys) = grind (arith, count-known keys, second-more)
  count-known (EventKey t us ∷ keys) = grind (arith, count-known keys, third-more)

  pub count-wanted : (ds : List Decl) → AreAsked ds memos → CountsAnswered same_quals memos.choices → CountsAnswered same_place memos.chains
      → CountsAnswered same_quals memos.events
      → how_many memos.choices + (how_many memos.chains + how_many memos.events) ≡ length (known (wanted ds))
  count-wanted ds asked choices-counted chains-counted events-counted =
      let all : List Key = wanted ds in
      let apart : IsDistinct same_key all = wanted-distinct ds in
      let choices-are : how_many memos.choices ≡ length (choices all) =
      choices-counted (choices_in all) (choices-distinct all apart)
      (λ q kept. has-choice all q ∙ has-wanted ds (ChoiceKey q.0 q.1) ∙ asked.choices q.0 q.1 kept) in
      let chains-are : how_many memos.chains ≡ length (chains all) =
      chains-counted (chains_in all) (chains-distinct all apart)
      (λ q kept. has-chain all q ∙ has-wanted ds (ChainKey q.0 q.1) ∙ asked.chains q.0 q.1 kept) in
      let events-are : how_many memos.events ≡ length (events all) =
      events-counted (events_in all) (events-distinct all apart)
      (λ q kept. has-event all q ∙ has-wanted ds (EventKey q.0 q.1) ∙ asked.events q.0 q.1 kept) in
      (λ i. choices-are i + (chains-are i + events-are i)) ∙ sym (count-known all)
