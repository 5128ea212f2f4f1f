-- What a view keeps of its answers, and what evaluations of keys do to it.
use Rattle.std.specs.Prelude.{◌≡◌, ◌≢◌, ℕ, Bool, true, not, ◌&&◌, ◌||◌, All, AllPairs, List, length, filter, fold, if◌then◌else◌}
use Rattle.std.specs.Fn.{iterate}
use Rattle.cdi_model.specs.declared.decl.Decl.{Decl}
use Rattle.cdi_model.specs.Work.{with_one}
use Rattle.cdi_observe.specs.Keys.{Key, has_key, same_key}
use Rattle.cdi_observe.specs.Wanted.{wanted, is_wanted}

-- whether a view keeps answers, which keys have theirs kept, and how many answers it computed: one that keeps none has no
-- known key and tells no work
pub record Kept : Type 0 where
  pub keeps : Bool
  pub knows : Key → Bool
  pub work : ℕ

-- the keys that are known after an evaluation: the same, and the key itself where it is wanted
abbrev pub with_known : List Decl → (Key → Bool) → Key → Key → Bool
with_known ds knows key k = knows k || (is_wanted ds key && same_key key k)

-- the work after an evaluation: it rises by one where the key was not known
abbrev pub work_with : (Key → Bool) → Key → ℕ → ℕ
work_with knows key work = if knows key then work else with_one work

-- what an evaluation of a key leaves
unfoldable pub after_key : List Decl → Key → Kept → Kept
after_key ds key kept =
    if kept.keeps
    then record { keeps = true; knows = with_known ds kept.knows key; work = work_with kept.knows key kept.work }
    else kept

-- what evaluations of keys, one after another, leave
abbrev pub evaluated : List Decl → List Key → Kept → Kept
evaluated ds keys kept = fold (λ before key. after_key ds key before) kept keys

-- ---- wanted keys evaluated

-- Some wanted keys were evaluated, or none, of which no two are one.
pub record EvaluatesSome (ds : List Decl) (old new : Kept) : Type 0 where
  pub keys : List Key
  pub wanted : All (λ key. is_wanted ds key ≡ true) keys
  pub apart : AllPairs (λ k l. k ≢ l) keys
  pub are : new ≡ evaluated ds keys old

-- how many of some keys are not known
abbrev pub unknown : (Key → Bool) → List Key → ℕ
unknown knows keys = length (filter (λ key. not (knows key)) keys)

-- what a view that keeps answers keeps after the evaluation of wanted keys of which no two are one: it knows them, and has counted
-- each that it did not know once
abbrev pub with_all : List Key → Kept → Kept
with_all keys kept = record {
  keeps = true;
  knows = λ key. kept.knows key || has_key keys key;
  work = iterate with_one (unknown kept.knows keys) kept.work;
}

-- A view that keeps answers knows each wanted key after all were evaluated, and has counted each that it did not know once.
abbrev pub KnowsWanted : Type 0
KnowsWanted = (ds : List Decl) (kept : Kept) → kept.keeps ≡ true
    → evaluated ds (wanted ds) kept ≡ record {
      keeps = true;
      knows = λ key. kept.knows key || is_wanted ds key;
      work = iterate with_one (unknown kept.knows (wanted ds)) kept.work;
    }
