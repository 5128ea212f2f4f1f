-- The known keys as a list, and what evaluations make of it.
use Rattle.cdi_container.proofs.Common.{◌≡◌, ℕ, List, Bool, true, false, refl, sym, Decl, ◌≢◌, ◌&&◌, ◌||◌, [], ◌∷◌, ◌++◌, length, ap, ◌∙◌}
use Rattle.cdi_container.proofs.Common.{AllPairs, and_parts, false≢true, or_left, or_right, KnownAreWanted, known_of, kept_in, knows}
use Rattle.cdi_container.proofs.Common.{after_key, evaluated, Key, has_key, same_key, with_key, wanted, is_wanted, same_key-decides}
use Rattle.cdi_container.proofs.Common.{same_key-equiv, has-wanted, known_with, work_with, IsInOrder, filter, Kept, evaluated-apart, suc}
use Rattle.cdi_container.proofs.Common.{list_any-append, arith}
use Rattle.std.proofs.{Common.zero, Common.cond, Common.not, Math.Bool.or-false, lemmas.Map.Views.any-filter_same}
use Rattle.std.specs.{Prelude.All, Fn.iterate}
use Rattle.base_lists.proofs.Filters.{filter-each}
use Rattle.cdi_model.specs.Work.{with_one}
use Rattle.cdi_observe.specs.Kept.{unknown, with_all}
use Rattle.cdi_live.specs.State.{State as Live, empty}

-- ---- lists of keys

filter-within : (p q : Key → Bool) (keys : List Key) → ((k : Key) → has_key keys k ≡ true → p k ≡ q k) → filter p keys ≡ filter q keys
filter-within p q [] same = refl
filter-within p q (k ∷ keys) same =
    ap (λ b. cond b (k ∷ filter p keys) (filter p keys)) (same k (or_left (same_key k k) (has_key keys k) (same_key-equiv.refl k)))
    ∙ ap (λ ks. cond (q k) (k ∷ ks) ks) (filter-within p q keys (λ l h. same l (or_right (same_key l k) (has_key keys l) h)))

pub filter-all : (p : Key → Bool) (keys : List Key) → ((k : Key) → has_key keys k ≡ true → p k ≡ true) → filter p keys ≡ keys
filter-all p keys each = filter-within p (λ k. true) keys each ∙ filter-each keys

has-filter : (p : Key → Bool) (keys : List Key) (key : Key) → has_key (filter p keys) key ≡ (p key && has_key keys key)
has-filter p keys key = any-filter_same (same_key key) p (p key) (λ k same. sym (ap p ((same_key-decides key k).0 same))) keys

pub has-with_key : (keys : List Key) (key k : Key) → has_key keys k ≡ true → has_key (with_key keys key) k ≡ true
has-with_key keys key k h = grind (arith, list_any-append)

-- ---- known keys in the order of the wanted ones

and-within : (b c : Bool) → (b ≡ true → c ≡ true) → (b && c) ≡ b
and-within b c h = grind arith

has-known : (ds : List Decl) (p : Key → Bool) → ((key : Key) → p key ≡ true → is_wanted ds key ≡ true) → (key : Key)
    → has_key (filter p (wanted ds)) key ≡ p key
has-known ds p within key =
    has-filter p (wanted ds) key ∙ ap (λ b. p key && b) (has-wanted ds key) ∙ and-within (p key) (is_wanted ds key) (within key)

pub same-knows : (live : Live) → KnownAreWanted live → has_key (known_of live) ≡ knows live
same-knows live within = λ j key. has-known live.decls (knows live) within key j

pub in_order : (live : Live) → KnownAreWanted live → IsInOrder live.decls (known_of live)
in_order live within =
    sym (ap (λ (f : Key → Bool). filter f (wanted live.decls)) (same-knows live within))

-- each wanted key is known where all are listed
pub knows-listed : (live : Live) → known_of live ≡ wanted live.decls → (key : Key) → is_wanted live.decls key ≡ true → knows live key ≡ true
knows-listed live all key wants =
    (and_parts (knows live key) (has_key (wanted live.decls) key)
    (sym (has-filter (knows live) (wanted live.decls) key) ∙ ap (λ ks. has_key ks key) all ∙ has-wanted live.decls key ∙ wants)).0

module _ (ds : List Decl) (known : List Key) (ordered : IsInOrder ds known) where
  pub known-within : (key : Key) → has_key known key ≡ true → is_wanted ds key ≡ true
  known-within key h = grind (arith, has-wanted, has-filter)

  known_with-list : (keys : List Key) → known_with ds known keys ≡ filter (λ key. has_key known key || has_key keys key) (wanted ds)
  known_with-list [] =
      ordered ∙ sym (filter-within (λ key. has_key known key || false) (has_key known) (wanted ds) (λ k h. or-false (has_key known k)))
  known_with-list (k ∷ keys) = refl

  -- where each wanted key is evaluated, each is known
  pub known_with-all : (keys : List Key) → ((k : Key) → has_key (wanted ds) k ≡ true → has_key keys k ≡ true)
      → known_with ds known keys ≡ wanted ds
  known_with-all keys each = known_with-list keys ∙ filter-all (λ key. has_key known key || has_key keys key) (wanted ds)
      (λ k h. or_right (has_key known k) (has_key keys k) (each k h))

  pub known_with-wanted : known_with ds known (wanted ds) ≡ wanted ds
  known_with-wanted = known_with-all (wanted ds) (λ k h. h)

  -- ---- the wanted keys, and then one more

  pub known-then : (key : Key)
      → known_with ds (known_with ds known (wanted ds)) (key ∷ []) ≡ known_with ds known (with_key (wanted ds) key)
  known-then key = grind (arith, known_with-wanted, filter-all, known_with-all, has-with_key)

  last-of : (n : ℕ) (work : ℕ) → iterate with_one (suc n) work ≡ with_one (iterate with_one n work)
  last-of zero work = refl
  last-of (suc n) work = last-of n (with_one work)

  length-end : (p : Key → Bool) (keys : List Key) (key : Key) → p key ≡ true
      → length (filter p (keys ++ key ∷ [])) ≡ suc (length (filter p keys))
  length-end p [] key h = rw h refl
  length-end p (k ∷ keys) key h = grind (arith, length-end p keys key h)

  pub work-then : (key : Key) (work : ℕ)
      → work_with (known_with ds known (wanted ds)) (key ∷ []) (work_with known (wanted ds) work)
      ≡ work_with known (with_key (wanted ds) key) work
  work-then key work = grind (arith, known_with-wanted, false≢true, has-wanted, known-within, last-of, length-end)

  -- where all wanted keys are known, none counts
  pub none-unknown : (work : ℕ) → ((key : Key) → is_wanted ds key ≡ true → has_key known key ≡ true)
      → work_with known (wanted ds) work ≡ work
  none-unknown work each = ap (λ ks. iterate with_one (length ks) work)
      (filter-within (λ k. not (has_key known k)) (λ k. false) (wanted ds)
      (λ k h. ap not (each k (sym (has-wanted ds k) ∙ h))) ∙ filter-none (wanted ds))
    where
      filter-none : (keys : List Key) → filter (λ k. false) keys ≡ []
      filter-none [] = refl
      filter-none (k ∷ keys) = filter-none keys

-- ---- what a view evaluated

-- the known keys and the work after the evaluation of some keys
pub record KnowsAfter (keys : List Key) (old new : Live) : Type 0 where
  pub known : known_of new ≡ known_with old.decls (known_of old) keys
  pub work : new.work ≡ work_with (known_of old) keys old.work

pub asked_all : (old new : Live) (keys : List Key) → new.decls ≡ old.decls → KnownAreWanted old → kept_in new ≡ with_all keys (kept_in old)
    → KnowsAfter keys old new
asked_all old new keys same within are = record {
  known = ap (λ ds. filter (knows new) (wanted ds)) same
      ∙ ap (λ (kept : Kept). filter kept.knows (wanted old.decls)) are
      ∙ ap (λ (f : Key → Bool). filter (λ key. f key || has_key keys key) (wanted old.decls)) (sym (same-knows old within))
      ∙ sym (known_with-list old.decls (known_of old) (in_order old within) keys);
  work = ap (λ (kept : Kept). kept.work) are
      ∙ ap (λ (f : Key → Bool). iterate with_one (unknown f keys) old.work) (sym (same-knows old within));
}

pub asked_evaluated : (old new : Live) (keys : List Key) → new.decls ≡ old.decls → KnownAreWanted old
    → All (λ key. is_wanted old.decls key ≡ true) keys → AllPairs (λ k l. k ≢ l) keys
    → kept_in new ≡ evaluated old.decls keys (kept_in old) → KnowsAfter keys old new
asked_evaluated old new keys same within wants apart are =
    asked_all old new keys same within (are ∙ evaluated-apart old.decls keys (kept_in old) refl wants apart)

-- one key, which may not be wanted
one-same : (ds : List Decl) (key k : Key) → has_key (wanted ds) k ≡ true → (is_wanted ds key && same_key key k) ≡ has_key (key ∷ []) k
one-same ds key k wants = grind (arith, same_key-equiv.symm, or-false, same_key-decides, has-wanted)

one-counts : (b : Bool) (key : Key) (work : ℕ)
    → cond b work (with_one work) ≡ iterate with_one (length (cond (not b) (key ∷ []) [])) work
one-counts b key work = grind arith

pub asked_one : (old new : Live) (key : Key) → new.decls ≡ old.decls → KnownAreWanted old
    → kept_in new ≡ after_key old.decls key (kept_in old) → KnowsAfter (key ∷ []) old new
unfolding after_key
asked_one old new key same within are = record {
  known = ap (λ ds. filter (knows new) (wanted ds)) same
      ∙ ap (λ (kept : Kept). filter kept.knows (wanted old.decls)) are
      ∙ filter-within (λ k. knows old k || (is_wanted old.decls key && same_key key k)) (λ k. knows old k || has_key (key ∷ []) k)
      (wanted old.decls) (λ k h. ap (λ b. knows old k || b) (one-same old.decls key k h))
      ∙ ap (λ (f : Key → Bool). filter (λ k. f k || has_key (key ∷ []) k) (wanted old.decls)) (sym (same-knows old within));
  work = ap (λ (kept : Kept). kept.work) are
      ∙ one-counts (knows old key) key old.work
      ∙ ap (λ (f : Key → Bool). iterate with_one (unknown f (key ∷ [])) old.work) (sym (same-knows old within));
}

-- ---- nothing is known of no declarations

pub nothing_known : known_of empty ≡ []
unfolding wanted
nothing_known = refl

pub ruleset nothing = (nothing_known)
