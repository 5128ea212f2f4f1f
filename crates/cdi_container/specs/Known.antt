-- Which answers are known, and how many were computed.
use Rattle.std.specs.Prelude.{◌≡◌, ℕ, ◌-◌, ◌^◌, min, Bool, ◌&&◌, ◌||◌, ◌==◌, List, [], ◌∷◌, filter, length, Result, Ok, Err, if◌then◌else◌}
use Rattle.std.specs.Fn.{iterate}
use Rattle.cdi_model.specs.declared.decl.Decl.{Decl}
use Rattle.cdi_model.specs.declared.quals.Qual.{Qual}
use Rattle.cdi_model.specs.declared.refusal.Refusal.{Refusal}
use Rattle.cdi_model.specs.Work.{with_one}
use Rattle.cdi_bodies.specs.Book.{Promised}
use Rattle.cdi_observe.specs.Kept.{unknown}
use Rattle.cdi_observe.specs.Keys.{Key, EventKey, choice_key, has_key, with_key}
use Rattle.cdi_observe.specs.Wanted.{wanted}
use Rattle.cdi_seen.specs.Touched.{still_known}
use Rattle.cdi_subjects.specs.Asked.{are_known}
use Rattle.cdi_validate.specs.Faults.{faults}
use Rattle.cdi_container.specs.Asked.{can_be_fired}
use Rattle.cdi_container.specs.declared.answer.WorkDone.{WorkDone}

-- ---- what an evaluation leaves

-- the known keys after the evaluation of some, each of which is listed once: the wanted ones of these are known too
abbrev pub known_with : List Decl → List Key → List Key → List Key
known_with ds known [] = known
known_with ds known keys = filter (λ key. has_key known key || has_key keys key) (wanted ds)

-- the work rises by as many of them as were not known
abbrev pub work_with : List Key → List Key → ℕ → ℕ
work_with known keys work = iterate with_one (unknown (has_key known) keys) work

-- The known keys are in the order of the wanted ones.
abbrev pub IsInOrder : List Decl → List Key → Type 0
IsInOrder ds known = known ≡ filter (has_key known) (wanted ds)

-- ---- what an edit leaves

-- the known keys after edits: those that were known, are still wanted and are not touched
abbrev pub known_still : List Decl → List Decl → List Key → List Key
known_still ds es known = filter (still_known ds es (has_key known)) (wanted es)

-- ---- what runs evaluate

-- a run evaluates each wanted key, and, where the deployment has no faults and all that is named is known, its own
abbrev pub keys_of_run : List Decl → ℕ → Bool → Key → List Key
keys_of_run ds count is_known key = if count == 0 && is_known then with_key (wanted ds) key else wanted ds

-- those of a look-up or a call of the bean for a type and qualifiers
unfoldable pub keys_of_use : List Decl → List Promised → List ℕ → List Qual → List Key
keys_of_use ds book t quals = keys_of_run ds (length (faults ds book)) (are_known ds t quals) (choice_key t quals)

-- those of an event
unfoldable pub keys_of_event : List Decl → List Promised → List ℕ → List Qual → List Key
keys_of_event ds book t quals = keys_of_run ds (length (faults ds book)) (can_be_fired ds t quals) (EventKey t quals)

-- a chain that is refused evaluates nothing
abbrev pub keys_of_chain : Result (List (List ℕ)) Refusal → Key → List Key
keys_of_chain (Ok names) key = key ∷ []
keys_of_chain (Err refusal) key = []

-- ---- how much is told

-- how many answers were computed, and how many are known, each up to the greatest number
abbrev pub worked : ℕ → List Key → WorkDone
worked work known = record { work = work; known = min (length known) (2 ^ 64 - 1) }
