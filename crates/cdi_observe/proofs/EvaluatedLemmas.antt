-- Evaluations of keys in other orders, and of keys that stand twice.
use Rattle.cdi_observe.proofs.Common.{◌≡◌, ℕ, zero, suc, Bool, true, false, cond, ◌&&◌, ◌||◌, List, [], ◌∷◌, refl, sym, ap, ◌∙◌}
use Rattle.cdi_observe.proofs.Common.{AllByRecursion, false≢true, or_left, or_right, Decl, take, inl, inr, or_cases, All-from_recursion}
use Rattle.cdi_observe.proofs.Common.{with_one, Key, same_key, has_key, each_once, is_wanted, Kept, with_known, work_with, after_key}
use Rattle.cdi_observe.proofs.Common.{evaluated, EvaluatesSome, arith}
use Rattle.std.proofs.Common.{◌⊎◌}
use Rattle.cdi_observe.proofs.KeyLemmas.{same_key-decides, same_key-equiv}
use Rattle.cdi_observe.proofs.KeptLemmas.{after_known, each-among}
use Rattle.cdi_observe.proofs.WantedLemmas.{each_once-apart, has-each_once}

-- ---- two keys

or-swap : (a b c : Bool) → ((a || b) || c) ≡ ((a || c) || b)
or-swap a b c = grind arith

counts-swap : (a b : Bool) (w : ℕ) → cond a (cond b w (with_one w)) (with_one (cond b w (with_one w)))
    ≡ cond b (cond a w (with_one w)) (with_one (cond a w (with_one w)))
counts-swap a b w = grind arith

-- a key that is another is known after that only where it was
apart-known : (a b c : Bool) → c ≡ false → (a || (b && c)) ≡ a
apart-known a b c e = grind arith

module _ (ds : List Decl) (knows : Key → Bool) (work : ℕ) where
  -- the work of the second, after the first
  abbrev second : Key → Key → ℕ
  second k l = work_with (with_known ds knows l) k (work_with knows l work)

  second-swap : (k l : Key) → second k l ≡ second l k
  second-swap k l = grind (arith, same_key-decides, apart-known, counts-swap, same_key-equiv.symm)

  abbrev before : Bool → Kept
  before keeps = record { keeps = keeps; knows = knows; work = work }

  swap-at : (k l : Key) (keeps : Bool) → after_key ds k (after_key ds l (before keeps)) ≡ after_key ds l (after_key ds k (before keeps))
  unfolding after_key
  swap-at k l keeps = grind (arith, or-swap, second-swap)

  twice-at : (k : Key) (keeps : Bool) → is_wanted ds k ≡ true
      → after_key ds k (after_key ds k (before keeps)) ≡ after_key ds k (before keeps)
  unfolding after_key
  twice-at k keeps wants = grind (arith, after_known, same_key-equiv.refl)

-- two evaluations leave the same in either order
after-swap : (ds : List Decl) (k l : Key) (kept : Kept) → after_key ds k (after_key ds l kept) ≡ after_key ds l (after_key ds k kept)
after-swap ds k l kept = swap-at ds kept.knows kept.work k l kept.keeps

-- and a second of one wanted key changes nothing
after-twice : (ds : List Decl) (k : Key) (kept : Kept) → is_wanted ds k ≡ true → after_key ds k (after_key ds k kept) ≡ after_key ds k kept
after-twice ds k kept wants = twice-at ds kept.knows kept.work k kept.keeps wants

-- ---- lists of keys

after-evaluated : (ds : List Decl) (k : Key) (keys : List Key) (kept : Kept)
    → evaluated ds keys (after_key ds k kept) ≡ after_key ds k (evaluated ds keys kept)
after-evaluated ds k [] kept = refl
after-evaluated ds k (l ∷ keys) kept = ap (evaluated ds keys) (after-swap ds l k kept) ∙ after-evaluated ds k keys (after_key ds l kept)

-- a wanted key that is evaluated later need not be evaluated before
absorbed : (ds : List Decl) (k : Key) (keys : List Key) (kept : Kept) → is_wanted ds k ≡ true → has_key keys k ≡ true
    → evaluated ds keys (after_key ds k kept) ≡ evaluated ds keys kept
absorbed ds k [] kept wants has = absurd (false≢true has)
absorbed ds k (l ∷ keys) kept wants has = elim (or_cases (same_key k l) (has_key keys k) has) [
  | inl here ↦
      let one : k ≡ l = (same_key-decides k l).0 here in
      ap (evaluated ds keys) (ap (λ m. after_key ds m (after_key ds k kept)) (sym one) ∙ after-twice ds k kept wants
      ∙ ap (λ m. after_key ds m kept) one)
  | inr there ↦ ap (evaluated ds keys) (after-swap ds l k kept) ∙ absorbed ds k keys (after_key ds l kept) wants there
]

each-absorbed : (ds : List Decl) (keys all : List Key) (kept : Kept) → AllByRecursion (λ key. is_wanted ds key ≡ true) keys
    → AllByRecursion (λ key. has_key all key ≡ true) keys → evaluated ds all (evaluated ds keys kept) ≡ evaluated ds all kept
each-absorbed ds [] all kept wants has = refl
each-absorbed ds (k ∷ keys) all kept wants has =
    each-absorbed ds keys all (after_key ds k kept) wants.1 has.1 ∙ absorbed ds k all kept wants.0 has.0

either-first : (ds : List Decl) (xs ys : List Key) (kept : Kept)
    → evaluated ds ys (evaluated ds xs kept) ≡ evaluated ds xs (evaluated ds ys kept)
either-first ds [] ys kept = refl
either-first ds (x ∷ xs) ys kept = either-first ds xs ys (after_key ds x kept) ∙ ap (evaluated ds xs) (after-evaluated ds x ys kept)

-- evaluations of the same wanted keys leave the same, in whatever order and however often each stands
pub evaluated-same : (ds : List Decl) (xs ys : List Key) (kept : Kept) → ((key : Key) → has_key xs key ≡ true → is_wanted ds key ≡ true)
    → ((key : Key) → has_key xs key ≡ has_key ys key) → evaluated ds xs kept ≡ evaluated ds ys kept
evaluated-same ds xs ys kept wants same =
    let within : AllByRecursion (λ key. has_key ys key ≡ true) xs =
    each-among (λ key. has_key ys key ≡ true) xs (λ key h. sym (same key) ∙ h) in
    let back : AllByRecursion (λ key. has_key xs key ≡ true) ys = each-among (λ key. has_key xs key ≡ true) ys (λ key h. same key ∙ h) in
    let wanted_back : AllByRecursion (λ key. is_wanted ds key ≡ true) ys =
    each-among (λ key. is_wanted ds key ≡ true) ys (λ key h. wants key (same key ∙ h)) in
    sym (each-absorbed ds ys xs kept wanted_back back)
    ∙ either-first ds ys xs kept
    ∙ each-absorbed ds xs ys kept (each-among (λ key. is_wanted ds key ≡ true) xs wants) within

-- keys that are known, or are evaluated after it, need not be evaluated before
known-absorbed : (ds : List Decl) (keys all : List Key) (kept : Kept) → AllByRecursion (λ key. is_wanted ds key ≡ true) keys
    → AllByRecursion (λ key. (kept.knows key ≡ true) ⊎ (has_key all key ≡ true)) keys
    → evaluated ds all (evaluated ds keys kept) ≡ evaluated ds all kept
known-absorbed ds [] all kept wants either = refl
known-absorbed ds (k ∷ keys) all kept wants either =
    grind (
      arith,
      known-absorbed ds keys all kept wants.1 either.1,
      either.0,
      wants.1,
      either.1,
      wants.0,
      after_known,
      after-evaluated,
      absorbed,
    )

-- wanted keys that have each other one which is not known leave what all leave
pub evaluated-rest : (ds : List Decl) (rest all : List Key) (kept : Kept) → ((key : Key) → has_key all key ≡ true → is_wanted ds key ≡ true)
    → ((key : Key) → has_key rest key ≡ true → has_key all key ≡ true)
    → ((key : Key) → has_key all key ≡ true → (kept.knows key ≡ true) ⊎ (has_key rest key ≡ true))
    → evaluated ds rest kept ≡ evaluated ds all kept
evaluated-rest ds rest all kept wants within either =
    sym (known-absorbed ds all rest kept (each-among (λ key. is_wanted ds key ≡ true) all wants)
    (each-among (λ key. (kept.knows key ≡ true) ⊎ (has_key rest key ≡ true)) all either))
    ∙ either-first ds all rest kept
    ∙ each-absorbed ds rest all kept (each-among (λ key. is_wanted ds key ≡ true) rest (λ key h. wants key (within key h)))
    (each-among (λ key. has_key all key ≡ true) rest within)

-- wanted keys that are evaluated are some of which no two are one
pub evaluates_some : (ds : List Decl) (old new : Kept) (keys : List Key) → ((key : Key) → has_key keys key ≡ true → is_wanted ds key ≡ true)
    → new ≡ evaluated ds keys old → EvaluatesSome ds old new
evaluates_some ds old new keys wants is = record {
  keys = each_once keys;
  wanted = All-from_recursion (λ key. is_wanted ds key ≡ true) (each_once keys)
      (each-among (λ key. is_wanted ds key ≡ true) (each_once keys) (λ key h. wants key (sym (has-each_once keys key) ∙ h)));
  apart = each_once-apart keys;
  are = is ∙ evaluated-same ds keys (each_once keys) old wants (λ key. sym (has-each_once keys key));
}

-- a key among the first of some is among them
pub has-take : (i : ℕ) (keys : List Key) (key : Key) → has_key (take i keys) key ≡ true → has_key keys key ≡ true
has-take zero keys key h = absurd (false≢true h)
has-take (suc i) [] key h = h
has-take (suc i) (k ∷ keys) key h = elim (or_cases (same_key key k) (has_key (take i keys) key) h) [
  | inl here ↦ or_left (same_key key k) (has_key keys key) here
  | inr there ↦ or_right (same_key key k) (has_key keys key) (has-take i keys key there)
]
