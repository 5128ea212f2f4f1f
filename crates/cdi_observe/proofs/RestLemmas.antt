-- Keys that some declarations ask for, among which is each that is not known.
use Rattle.cdi_observe.proofs.Common.{◌≡◌, ℕ, Bool, true, List, [], ◌∷◌, map, refl, sym, ap, ◌∙◌, AllByRecursion, flat_map, list_any}
use Rattle.cdi_observe.proofs.Common.{false≢true, Decl, take, inl, inr, list_all, or_cases, Key, has_key, is_wanted, Kept, evaluated}
use Rattle.cdi_observe.proofs.Common.{EvaluatesSome, All, wanted, cases_Bool, wanted_by, asked_key, is_told, AskedKey}
use Rattle.cdi_observe.proofs.FoundLemmas.{found-any, IsFound}
use Rattle.cdi_observe.proofs.KeyLemmas.{all-within}
use Rattle.cdi_observe.proofs.EvaluatedLemmas.{evaluated-rest, evaluates_some, has-take}
use Rattle.cdi_observe.proofs.ToldLemmas.{told-of}
use Rattle.cdi_observe.proofs.WantedLemmas.{has-each, has-wanted}
use Rattle.cdi_observe.specs.Wanted.{AskForRest}

-- all declarations ask for each wanted key
pub all-ask : (ds es : List Decl) (knows : Key → Bool) → es ≡ ds → AskForRest ds knows es
unfolding is_wanted
all-ask ds es knows are key wants new = ap (list_any (λ d. has_key (wanted_by d) key)) are ∙ wants

module _ (ds es : List Decl) (found : AllByRecursion (IsFound ds) es) where
  abbrev keys : List Key
  keys = flat_map wanted_by es

  any-wanted : (fs : List Decl) (key : Key) → AllByRecursion (IsFound ds) fs → list_any (λ d. has_key (wanted_by d) key) fs ≡ true
      → is_wanted ds key ≡ true
  unfolding is_wanted
  any-wanted [] key all some = absurd (false≢true some)
  any-wanted (d ∷ fs) key all some = elim (or_cases (has_key (wanted_by d) key) (list_any (λ d. has_key (wanted_by d) key) fs) some) [
    | inl here ↦ found-any (λ d. has_key (wanted_by d) key) ds d all.0 here
    | inr later ↦ any-wanted fs key all.1 later
  ]

  -- the keys are those that one of the declarations asks for
  has-asked-for : (key : Key) → has_key keys key ≡ list_any (λ d. has_key (wanted_by d) key) es
  has-asked-for key = has-each wanted_by (λ d. has_key (wanted_by d) key) key (λ d. refl) es

  within : (key : Key) → has_key keys key ≡ true → is_wanted ds key ≡ true
  within key h = any-wanted es key found (sym (has-asked-for key) ∙ h)

  -- all is evaluated
  pub rest-evaluated : (old : Kept) → AskForRest ds old.knows es → evaluated ds keys old ≡ evaluated ds (wanted ds) old
  rest-evaluated old rest = evaluated-rest ds keys (wanted ds) old (λ key h. sym (has-wanted ds key) ∙ h)
      (λ key h. has-wanted ds key ∙ within key h)
      (λ key h. elim (cases_Bool (old.knows key)) [
        | inl known ↦ inl known
        | inr new ↦ inr (has-asked-for key ∙ rest key (sym (has-wanted ds key) ∙ h) new)
      ])

  -- or some
  pub some-keys : (old new : Kept) (i : ℕ) → new ≡ evaluated ds (take i keys) old → EvaluatesSome ds old new
  some-keys old new i is = evaluates_some ds old new (take i keys) (λ key h. within key (has-take i keys key h)) is

  -- where all is known, all of these are
  pub keys-known : (knows : Key → Bool) → list_all knows (wanted ds) ≡ true → list_all knows keys ≡ true
  keys-known knows all = all-within knows keys (wanted ds) (λ key h. has-wanted ds key ∙ within key h) all

  pub keys-told : (asked : List AskedKey) → map asked_key asked ≡ keys → All (λ key. is_told ds (asked_key key) ≡ true) asked
  keys-told asked are = told-of ds es asked found are
