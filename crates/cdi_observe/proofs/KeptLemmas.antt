-- What evaluations of keys leave.
use Rattle.cdi_observe.proofs.Common.{◌≡◌, ℕ, Bool, true, false, cond, not, ◌||◌, List, [], ◌∷◌, ◌++◌, length, get_or, refl, sym, ap, ◌∙◌}
use Rattle.cdi_observe.proofs.Common.{AllByRecursion, false≢true, or_left, or_right, recursion_from_All, Decl, take, list_all, and_parts}
use Rattle.cdi_observe.proofs.Common.{All-from_recursion, with_one, Key, same_key, has_key, is_wanted, Kept, work_with, after_key}
use Rattle.cdi_observe.proofs.Common.{evaluated, EvaluatesSome, All, ◌≢◌, ◌<◌, ◌+◌, AllPairs, IsDistinct, or_assoc, or-false}
use Rattle.cdi_observe.proofs.Common.{AllPass-from_list_all, wanted, filter, arith}
use Rattle.std.specs.Fn.{iterate}
use Rattle.std.proofs.lemmas.List.{take_more, Elements.All-take, Sums.fold-append, Sums.list_all-from_AllPass}
use Rattle.std.proofs.lemmas.Map.Made.{IsDistinct-from_AllPairs}
use Rattle.cdi_observe.proofs.KeyLemmas.{same_key-decides, same_key-equiv}
use Rattle.cdi_observe.proofs.WantedLemmas.{has-wanted, wanted-distinct, wanted_stand_once}
use Rattle.cdi_observe.specs.Kept.{with_all, unknown, KnowsWanted}

-- ---- keys one after another

pub evaluated-append : (ds : List Decl) (xs ys : List Key) (kept : Kept)
    → evaluated ds (xs ++ ys) kept ≡ evaluated ds ys (evaluated ds xs kept)
evaluated-append ds xs ys kept = fold-append (λ before key. after_key ds key before) kept xs ys

-- one more key of a list
pub evaluated-more : (ds : List Decl) (keys : List Key) (i : ℕ) (d : Key) (kept : Kept) → i < length keys
    → evaluated ds (take (i + 1) keys) kept ≡ after_key ds (get_or keys i d) (evaluated ds (take i keys) kept)
evaluated-more ds keys i d kept lt = ap (λ xs. evaluated ds xs kept) (take_more keys i d lt)
    ∙ evaluated-append ds (take i keys) (get_or keys i d ∷ []) kept

-- the evaluation of the next key
pub evaluated-next : (ds es : List Decl) (keys : List Key) (i : ℕ) (key : Key) (kept before after : Kept) → i < length keys
    → key ≡ get_or keys i key → es ≡ ds
    → before ≡ evaluated ds (take i keys) kept → after ≡ after_key es key before → after ≡ evaluated ds (take (i + 1) keys) kept
evaluated-next ds es keys i key kept before after lt at same is next = grind (arith, evaluated-more)

-- ---- one key

-- what is known to start with stays known
or_same : (b c : Bool) → (c ≡ true → b ≡ true) → (b || c) ≡ b
or_same b c within = grind (arith, false≢true)

-- a known key changes nothing
pub after_known : (ds : List Decl) (key : Key) (kept : Kept) → kept.knows key ≡ true → after_key ds key kept ≡ kept
unfolding after_key
after_known ds key kept known = grind (arith, kept.keeps, kept.knows, kept.work, same_key-decides, false≢true, or_same)

-- ---- keys that are known

pub evaluated-known : (ds : List Decl) (keys : List Key) (kept : Kept) → list_all kept.knows keys ≡ true → evaluated ds keys kept ≡ kept
evaluated-known ds [] kept all = refl
evaluated-known ds (key ∷ keys) kept all =
    let parts = and_parts (kept.knows key) (list_all kept.knows keys) all in
    ap (evaluated ds keys) (after_known ds key kept parts.0) ∙ evaluated-known ds keys kept parts.1

-- where all keys are known the next one still is after those before it
pub known-next : (ds : List Decl) (keys : List Key) (i : ℕ) (key : Key) (kept before : Kept) → i < length keys → key ≡ get_or keys i key
    → before ≡ evaluated ds (take i keys) kept → list_all kept.knows keys ≡ true → before.knows key ≡ true
known-next ds keys i key kept before lt at is all =
    let each = AllPass-from_list_all kept.knows keys all in
    ap (λ now. now.knows key) (is ∙ evaluated-known ds (take i keys) kept
    (list_all-from_AllPass kept.knows (take i keys) (All-take (λ k. kept.knows k ≡ true) i keys each)))
    ∙ ap kept.knows at ∙ each i key lt

-- ---- wanted keys of which no two are one

-- one more key, which is wanted
abbrev with_one_key : Key → Kept → Kept
with_one_key k kept = record { keeps = true; knows = λ key. kept.knows key || same_key k key; work = work_with kept.knows k kept.work }

after_wanted : (ds : List Decl) (k : Key) (kept : Kept) → kept.keeps ≡ true → is_wanted ds k ≡ true
    → after_key ds k kept ≡ with_one_key k kept
unfolding after_key
after_wanted ds k kept keeps wants = grind (arith, kept.knows, kept.work)

-- a key apart from all of some keys leaves how many of these are unknown
unknown-apart : (knows : Key → Bool) (k : Key) (keys : List Key) → AllByRecursion (λ l. same_key k l ≡ false) keys
    → unknown (λ key. knows key || same_key k key) keys ≡ unknown knows keys
unknown-apart knows k [] apart = refl
unknown-apart knows k (l ∷ keys) apart = grind (arith, unknown-apart knows k keys apart.1, apart.0, apart.1, or-false)

counts-one : (k : Key) (keys : List Key) (b : Bool) (w : ℕ)
    → iterate with_one (length keys) (cond b w (with_one w)) ≡ iterate with_one (length (cond (not b) (k ∷ keys) keys)) w
counts-one k keys b w = grind arith

-- wanted keys of which none stands twice
evaluated-distinct : (ds : List Decl) (keys : List Key) (kept : Kept) → kept.keeps ≡ true
    → AllByRecursion (λ key. is_wanted ds key ≡ true) keys → IsDistinct same_key keys
    → evaluated ds keys kept ≡ with_all keys kept
unfolding IsDistinct
evaluated-distinct ds [] kept keeps all apart = grind (arith, kept.knows, kept.work, or-false)
evaluated-distinct ds (k ∷ keys) kept keeps all apart =
    ap (evaluated ds keys) (after_wanted ds k kept keeps all.0)
    ∙ evaluated-distinct ds keys (with_one_key k kept) refl all.1 apart.1
    ∙ (λ j. record {
      keeps = true;
      knows = λ key. (or_assoc (kept.knows key) (same_key k key) (has_key keys key)
          ∙ ap (λ b. kept.knows key || (b || has_key keys key)) (same_key-equiv.symm k key)) j;
      work = (ap (λ n. iterate with_one n (work_with kept.knows k kept.work)) (unknown-apart kept.knows k keys apart.0)
          ∙ counts-one k (filter (λ key. not (kept.knows key)) keys) (kept.knows k) kept.work) j;
    })

pub each-among : (P : Key → Type 0) (keys : List Key) → ((key : Key) → has_key keys key ≡ true → P key) → AllByRecursion P keys
each-among P [] each = tt
each-among P (k ∷ keys) each = (
  each k (or_left (same_key k k) (has_key keys k) (same_key-equiv.refl k)),
  each-among P keys (λ key h. each key (or_right (same_key key k) (has_key keys key) h)),
)

each-wanted : (ds : List Decl) → AllByRecursion (λ key. is_wanted ds key ≡ true) (wanted ds)
each-wanted ds = each-among (λ key. is_wanted ds key ≡ true) (wanted ds) (λ key h. sym (has-wanted ds key) ∙ h)

pub evaluated-apart : (ds : List Decl) (keys : List Key) (kept : Kept) → kept.keeps ≡ true
    → All (λ key. is_wanted ds key ≡ true) keys → AllPairs (λ k l. k ≢ l) keys → evaluated ds keys kept ≡ with_all keys kept
evaluated-apart ds keys kept keeps wants apart =
    evaluated-distinct ds keys kept keeps (recursion_from_All (λ key. is_wanted ds key ≡ true) keys wants)
    (IsDistinct-from_AllPairs same_key-decides keys apart)

pub knows_wanted : KnowsWanted
knows_wanted ds kept keeps = grind (arith, kept.knows, kept.work, evaluated-distinct, each-wanted, wanted-distinct, has-wanted)

-- all wanted keys are some of which no two are one
pub evaluates_all : (ds : List Decl) (old : Kept) → EvaluatesSome ds old (evaluated ds (wanted ds) old)
evaluates_all ds old = record {
  keys = wanted ds;
  wanted = All-from_recursion (λ key. is_wanted ds key ≡ true) (wanted ds) (each-wanted ds);
  apart = (wanted_stand_once ds).apart;
  are = refl;
}
