-- What calls leave of a deployment that evaluate keys.
use Rattle.cdi_container.proofs.Common.{◌≡◌, ℕ, List, Bool, true, false, refl, subst, sym, Result, Ok, Err, if◌then◌else◌, Decl, Qual}
use Rattle.cdi_container.proofs.Common.{Promised, ◌≢◌, ◌&&◌, [], ◌∷◌, length, ap, ◌∙◌, AllPairs, IsErrAnd, list_all, Error, KnownAreWanted}
use Rattle.cdi_container.proofs.Common.{kept_in, knows, after_key, evaluated, EvaluatesSome, Key, EventKey, choice_key, has_key, with_key}
use Rattle.cdi_container.proofs.Common.{wanted, is_wanted, same_key-decides, has-wanted, are_known, faults, can_be_fired, keys_of_event}
use Rattle.cdi_container.proofs.Common.{keys_of_use, IsInOrder, Deployed, Evaluates, IsAsked, IsAskedSome, arith}
use Rattle.std.proofs.Common.{inl, inr, ◌==◌, ◌<◌, get_or}
use Rattle.std.specs.List.{IsDistinct}
use Rattle.std.proofs.lemmas.{Bool.eqb-true, List.Sums.AllPass-from_list_all, List.Sums.list_all-from_AllPass}
use Rattle.std.proofs.lemmas.Map.Made.{AllPairs-from_IsDistinct}
use Rattle.cdi_model.specs.declared.refusal.Error.TheVariants as errors
use Rattle.cdi_observe.proofs.{KeptLemmas.after_known, KeyLemmas.all-pass, KeyLemmas.each-passes}
use Rattle.cdi_observe.proofs.WantedLemmas.{distinct-with_key, wanted-distinct}
use Rattle.cdi_live.specs.State.{State as Live}
use Rattle.cdi_report.proofs.SettledLemmas.{all-still}
use Rattle.cdi_container.proofs.Committing.{deployed_on}
use Rattle.cdi_container.proofs.KnownLemmas.{KnowsAfter, asked_evaluated, asked_one, filter-all, has-with_key, known-then}
use Rattle.cdi_container.proofs.KnownLemmas.{known_with-wanted, in_order, none-unknown, same-knows, work-then}
use Rattle.cdi_container.specs.{Known.keys_of_run, Wired.AsksOwn}

-- ---- lists of keys

pub apart-none : AllPairs (λ (k l : Key). k ≢ l) []
unfolding IsDistinct
apart-none = AllPairs-from_IsDistinct same_key-decides [] tt

pub wanted-apart : (ds : List Decl) → AllPairs (λ k l. k ≢ l) (wanted ds)
wanted-apart ds = AllPairs-from_IsDistinct same_key-decides (wanted ds) (wanted-distinct ds)

-- the keys of a run stand apart, and all wanted ones are among them
run-apart : (ds : List Decl) (count : ℕ) (known : Bool) (key : Key) → AllPairs (λ k l. k ≢ l) (keys_of_run ds count known key)
run-apart ds count known key = by (count == 0 && known)
  where
    by : (b : Bool) → AllPairs (λ k l. k ≢ l) (if b then with_key (wanted ds) key else wanted ds)
    by true = AllPairs-from_IsDistinct same_key-decides (with_key (wanted ds) key) (distinct-with_key (wanted ds) key (wanted-distinct ds))
    by false = wanted-apart ds

run-within : (ds : List Decl) (count : ℕ) (known : Bool) (key : Key)
    → list_all (has_key (keys_of_run ds count known key)) (wanted ds) ≡ true
run-within ds count known key = by (count == 0 && known)
  where
    by : (b : Bool) → list_all (has_key (if b then with_key (wanted ds) key else wanted ds)) (wanted ds) ≡ true
    by true = all-pass (has_key (with_key (wanted ds) key)) (wanted ds) (λ k h. has-with_key (wanted ds) key k h)
    by false = all-pass (has_key (wanted ds)) (wanted ds) (λ k h. h)

run-faulty : (ds : List Decl) (count : ℕ) (known : Bool) (key : Key) → (count == 0) ≡ false → keys_of_run ds count known key ≡ wanted ds
run-faulty ds count known key h = rw h refl

run-unknown : (ds : List Decl) (count : ℕ) (known : Bool) (key : Key) → known ≡ false → keys_of_run ds count known key ≡ wanted ds
run-unknown ds count known key h = grind arith

run-own : (ds : List Decl) (count : ℕ) (known : Bool) (key : Key) → count ≡ 0 → known ≡ true
    → keys_of_run ds count known key ≡ with_key (wanted ds) key
run-own ds count known key none h = rw none (rw h refl)

-- ---- what is evaluated of a view

pub asked_by : (old new : Live) (book : List Promised) (wired after : Bool) (keys : List Key) → new.decls ≡ old.decls
    → new.counts ≡ old.counts
    → KnowsAfter keys old new → (wired ≡ true → after ≡ true) → IsAsked keys (deployed_on old book wired) (deployed_on new book after)
asked_by old new book wired after keys same counted knows stays = grind (arith, knows.known, knows.work, new.staged)

pub asks_one : (old new : Live) (book : List Promised) (wired : Bool) (key : Key) → new.decls ≡ old.decls → new.counts ≡ old.counts
    → KnownAreWanted old → kept_in new ≡ after_key old.decls key (kept_in old)
    → IsAsked (key ∷ []) (deployed_on old book wired) (deployed_on new book wired)
asks_one old new book wired key same counted within are =
    asked_by old new book wired wired (key ∷ []) same counted (asked_one old new key same within are) (λ h. h)

-- a key is known already
pub asks_known : (live : Live) (book : List Promised) (wired : Bool) (key : Key) → KnownAreWanted live → knows live key ≡ true
    → IsAsked (key ∷ []) (deployed_on live book wired) (deployed_on live book wired)
asks_known live book wired key within known =
    asks_one live live book wired key refl refl within (sym (after_known live.decls key (kept_in live) known))

pub asks_wanted : (old new : Live) (book : List Promised) (wired after : Bool) → new.decls ≡ old.decls → new.counts ≡ old.counts
    → KnownAreWanted old → kept_in new ≡ evaluated old.decls (wanted old.decls) (kept_in old) → (wired ≡ true → after ≡ true)
    → IsAsked (wanted old.decls) (deployed_on old book wired) (deployed_on new book after)
asks_wanted old new book wired after same counted within are stays =
    asked_by old new book wired after (wanted old.decls) same counted
    (asked_evaluated old new (wanted old.decls) same within
    (λ i d lt. sym (has-wanted old.decls _) ∙ each-there i d lt) (wanted-apart old.decls) are) stays
  where
    each-there : (i : ℕ) (d : Key) → i < length (wanted old.decls) → has_key (wanted old.decls) (get_or (wanted old.decls) i d) ≡ true
    each-there = AllPass-from_list_all (has_key (wanted old.decls)) (wanted old.decls)
        (all-pass (has_key (wanted old.decls)) (wanted old.decls) (λ k h. h))

pub asks_some : (old new : Live) (book : List Promised) (wired : Bool) → new.decls ≡ old.decls → new.counts ≡ old.counts
    → KnownAreWanted old → EvaluatesSome old.decls (kept_in old) (kept_in new)
    → IsAskedSome (wanted old.decls) (deployed_on old book wired) (deployed_on new book wired)
asks_some old new book wired same counted within some =
    grind (arith, some.keys, old.decls, some.wanted, some.apart, some.are, list_all-from_AllPass, has-wanted, asked_by, asked_evaluated)

-- all is known already
pub asks_nothing_more : (live : Live) (book : List Promised) (wired : Bool) → KnownAreWanted live
    → ((key : Key) → is_wanted live.decls key ≡ true → knows live key ≡ true)
    → IsAsked (wanted live.decls) (deployed_on live book wired) (deployed_on live book wired)
asks_nothing_more live book wired within all =
    grind (arith, live.decls, live.work, asked_by, known_with-wanted, in_order, none-unknown, same-knows, filter-all, has-wanted)

-- ---- the keys of a run

pub then_asks : (d e f : Deployed) (key : Key) → IsInOrder d.decls d.known → IsAsked (wanted d.decls) d e → IsAsked (key ∷ []) e f
    → IsAsked (with_key (wanted d.decls) key) d f
then_asks d e f key ordered first own =
    grind (arith, own.rest, f.staged, f.is_wired, first.rest, d.decls, d.known, d.work, own.wired, first.wired, known-then, work-then)

not-none : (n : ℕ) → n ≢ 0 → (n == 0) ≡ false
not-none n some = grind (arith, eqb-true)

-- where a run does not come to its own key
abbrev asked_if : List Key → List Key → Deployed → Deployed → Type 0
asked_if keys others d e = keys ≡ others → IsAsked others d e → IsAsked keys d e

asked-alike : (keys others : List Key) (d e : Deployed) → asked_if keys others d e
asked-alike keys others d e same h = subst (λ ks. IsAsked ks d e) (sym same) h

module _ (d : Deployed) (t : List ℕ) (quals : List Qual) where
  abbrev use_keys : List Key
  use_keys = keys_of_use d.decls d.book t quals

  abbrev event_keys : List Key
  event_keys = keys_of_event d.decls d.book t quals

  -- the deployment has faults
  pub use-faulty : (e : Deployed) (count : ℕ) → count ≡ length (faults d.decls d.book) → count ≢ 0 → IsAsked (wanted d.decls) d e
      → IsAsked use_keys d e
  unfolding keys_of_use
  use-faulty e count is many h = asked-alike use_keys (wanted d.decls) d e
      (run-faulty d.decls (length (faults d.decls d.book)) (are_known d.decls t quals) (choice_key t quals)
      (ap (λ n. n == 0) (sym is) ∙ not-none count many)) h

  pub event-faulty : (e : Deployed) (count : ℕ) → count ≡ length (faults d.decls d.book) → count ≢ 0 → IsAsked (wanted d.decls) d e
      → IsAsked event_keys d e
  unfolding keys_of_event
  event-faulty e count is many h = asked-alike event_keys (wanted d.decls) d e
      (run-faulty d.decls (length (faults d.decls d.book)) (can_be_fired d.decls t quals) (EventKey t quals)
      (ap (λ n. n == 0) (sym is) ∙ not-none count many)) h

  -- what is named is not known
  pub use-unknown : (e : Deployed) → are_known d.decls t quals ≡ false → IsAsked (wanted d.decls) d e → IsAsked use_keys d e
  unfolding keys_of_use
  use-unknown e none h = asked-alike use_keys (wanted d.decls) d e
      (run-unknown d.decls (length (faults d.decls d.book)) (are_known d.decls t quals) (choice_key t quals) none) h

  pub event-unknown : (e : Deployed) → can_be_fired d.decls t quals ≡ false → IsAsked (wanted d.decls) d e → IsAsked event_keys d e
  unfolding keys_of_event
  event-unknown e none h = asked-alike event_keys (wanted d.decls) d e
      (run-unknown d.decls (length (faults d.decls d.book)) (can_be_fired d.decls t quals) (EventKey t quals) none) h

  -- its own key comes after
  pub use-own : (e f : Deployed) → IsInOrder d.decls d.known → length (faults d.decls d.book) ≡ 0 → are_known d.decls t quals ≡ true
      → IsAsked (wanted d.decls) d e → IsAsked (choice_key t quals ∷ []) e f → IsAsked use_keys d f
  unfolding keys_of_use
  use-own e f ordered none known first own =
      asked-alike use_keys (with_key (wanted d.decls) (choice_key t quals)) d f
      (run-own d.decls (length (faults d.decls d.book)) (are_known d.decls t quals) (choice_key t quals) none known)
      (then_asks d e f (choice_key t quals) ordered first own)

  pub event-own : (e f : Deployed) → IsInOrder d.decls d.known → length (faults d.decls d.book) ≡ 0 → can_be_fired d.decls t quals ≡ true
      → IsAsked (wanted d.decls) d e → IsAsked (EventKey t quals ∷ []) e f → IsAsked event_keys d f
  unfolding keys_of_event
  event-own e f ordered none known first own =
      asked-alike event_keys (with_key (wanted d.decls) (EventKey t quals)) d f
      (run-own d.decls (length (faults d.decls d.book)) (can_be_fired d.decls t quals) (EventKey t quals) none known)
      (then_asks d e f (EventKey t quals) ordered first own)

  -- some of the wanted ones were evaluated, or all of them
  pub use-some : (e : Deployed) → IsAskedSome (wanted d.decls) d e → IsAskedSome use_keys d e
  unfolding keys_of_use
  use-some e h = record {
    some = h.some;
    among = all-still (has_key (wanted d.decls)) (has_key use_keys) h.some
        (λ k has. each-passes (has_key use_keys) (wanted d.decls) k
        (run-within d.decls (length (faults d.decls d.book)) (are_known d.decls t quals) (choice_key t quals)) has) h.among;
    apart = h.apart;
    are = h.are;
  }

  pub event-some : (e : Deployed) → IsAskedSome (wanted d.decls) d e → IsAskedSome event_keys d e
  unfolding keys_of_event
  event-some e h = record {
    some = h.some;
    among = all-still (has_key (wanted d.decls)) (has_key event_keys) h.some
        (λ k has. each-passes (has_key event_keys) (wanted d.decls) k
        (run-within d.decls (length (faults d.decls d.book)) (can_be_fired d.decls t quals) (EventKey t quals)) has) h.among;
    apart = h.apart;
    are = h.are;
  }

  pub use-apart : AllPairs (λ k l. k ≢ l) use_keys
  unfolding keys_of_use
  use-apart = run-apart d.decls (length (faults d.decls d.book)) (are_known d.decls t quals) (choice_key t quals)

  pub event-apart : AllPairs (λ k l. k ≢ l) event_keys
  unfolding keys_of_event
  event-apart = run-apart d.decls (length (faults d.decls d.book)) (can_be_fired d.decls t quals) (EventKey t quals)

-- all of these keys are some of them
pub some-all : (keys : List Key) (d e : Deployed) → AllPairs (λ k l. k ≢ l) keys → IsAsked keys d e → IsAskedSome keys d e
some-all keys d e apart h = record { some = keys; among = all-pass (has_key keys) keys (λ k i. i); apart = apart; are = h }

-- ---- how a call ends

pub ends_without_memory : {X : Type 0} (r : Result X Error) (keys : List Key) (d e : Deployed)
    → IsErrAnd r (λ error. error ≡ errors.OutOfMemory)
    → IsAskedSome keys d e → Evaluates keys r d e
ends_without_memory (Ok x) keys d e out some = absurd out
ends_without_memory (Err errors.OutOfMemory) keys d e out some = some
ends_without_memory (Err (errors.Refused refusal)) keys d e out some =
    absurd (let no : errors.Refused refusal ≡ errors.OutOfMemory = out in cc)

-- a call of its own key, after all wanted ones
pub own_ends : {X : Type 0} (r : Result X Error) (key : Key) (keys : List Key) (d e f : Deployed) → IsAskedSome keys d e
    → (IsAsked (key ∷ []) e f → IsAsked keys d f) → AllPairs (λ k l. k ≢ l) keys → AsksOwn key r e f → Evaluates keys r d f
own_ends (Ok x) key keys d e f some all apart own = all own
own_ends (Err (errors.Refused refusal)) key keys d e f some all apart own = all own
own_ends (Err errors.OutOfMemory) key keys d e f some all apart (inl same) = subst (λ (x : Deployed). IsAskedSome keys d x) (sym same) some
own_ends (Err errors.OutOfMemory) key keys d e f some all apart (inr own) = some-all keys d f apart (all own)

-- where nothing was evaluated, or the own key was and then memory ran out
pub own_without_memory : {X : Type 0} (r : Result X Error) (key : Key) (d e : Deployed) → IsErrAnd r (λ error. error ≡ errors.OutOfMemory)
    → e ≡ d → AsksOwn key r d e
own_without_memory (Ok x) key d e out same = absurd out
own_without_memory (Err errors.OutOfMemory) key d e out same = inl same
own_without_memory (Err (errors.Refused refusal)) key d e out same =
    absurd (let no : errors.Refused refusal ≡ errors.OutOfMemory = out in cc)

pub own_asked : {X : Type 0} (r : Result X Error) (key : Key) (d e : Deployed) → IsAsked (key ∷ []) d e → AsksOwn key r d e
own_asked (Ok x) key d e asked = asked
own_asked (Err errors.OutOfMemory) key d e asked = inr asked
own_asked (Err (errors.Refused refusal)) key d e asked = asked
