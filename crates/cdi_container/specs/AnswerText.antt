-- The text of an answer.
use Rattle.std.specs.Prelude.{ℕ, List, [], ◌∷◌, ◌++◌, length, codes, decimal, flat_map, Option, Some, None}
use Rattle.cdi_model.specs.declared.refusal.Refusal.{Refusal}
use Rattle.cdi_model.specs.declared.refusal.Refusal.TheVariants.{Faulty}
use Rattle.cdi_model.specs.RefusalText.{code_of_refusal, word_of_refusal}
use Rattle.cdi_index.specs.declared.counts.Counts.{Counts}
use Rattle.cdi_observe.specs.declared.observers.ObserverId.{ObserverId}
use Rattle.cdi_observe.specs.ObserverText.{text_of_observer}
use Rattle.cdi_resolve.specs.ChoiceText.{text_of_choice}
use Rattle.cdi_faults.specs.declared.fault.Fault.{Fault}
use Rattle.cdi_faults.specs.FaultText.{text_of_fault}
use Rattle.cdi_model.specs.Bytes.{feed, space}
use Rattle.cdi_container.specs.declared.answer.Answer.{Answer}
use Rattle.cdi_container.specs.declared.answer.WorkDone.{WorkDone}
use Rattle.cdi_container.specs.declared.answer.Answer.TheVariants.{Done, Chosen, Intercepted, Observed, Reported, Counted, Worked, Given, Refused}
use Rattle.cdi_model.specs.OutcomeText.{words_of_outcome}

-- the code and the word of a refusal
abbrev pub word_of : Refusal → List ℕ
word_of refusal = code_of_refusal refusal ++ space ∷ word_of_refusal refusal

-- how many faults there are, where these are the reason
abbrev pub count_of : Refusal → List ℕ
count_of (Faulty count) = codes " " ++ decimal count
count_of refusal = []

-- the number of an edit of a batch, where there is one
abbrev pub text_of_number : Option ℕ → List ℕ
text_of_number None = []
text_of_number (Some number) = codes " " ++ decimal number

-- each fault on a line of its own
abbrev pub text_of_faults : List Fault → List ℕ
text_of_faults list = flat_map (λ fault. feed ∷ text_of_fault fault) list

-- how many faults there are, and then each
abbrev pub text_of_report : List Fault → List ℕ
text_of_report list = codes "faults " ++ decimal (length list) ++ text_of_faults list

-- how many records were computed
abbrev pub text_of_counts : Counts → List ℕ
text_of_counts counts = codes "counts closures " ++ decimal counts.closures ++ codes " beans " ++ decimal counts.beans

-- how many answers were computed, and how many are known
abbrev pub text_of_work : WorkDone → List ℕ
text_of_work done = codes "work " ++ decimal done.work ++ codes " known " ++ decimal done.known

-- names, each behind a space
abbrev pub text_of_names : List (List ℕ) → List ℕ
text_of_names names = flat_map (λ name. space ∷ name) names

-- the interceptors around a place
abbrev pub text_of_chain : List (List ℕ) → List ℕ
text_of_chain names = codes "chain" ++ text_of_names names

-- observer methods, each behind a space
abbrev pub text_of_observer_ids : List ObserverId → List ℕ
text_of_observer_ids ids = flat_map (λ id. space ∷ text_of_observer id) ids

-- those of an event
abbrev pub text_of_observers : List ObserverId → List ℕ
text_of_observers ids = codes "observers" ++ text_of_observer_ids ids

-- what an answer prints before the end of its line
abbrev pub words_of_answer : Answer → List ℕ
words_of_answer Done = codes "ok"
words_of_answer (Chosen choice) = text_of_choice choice
words_of_answer (Intercepted names) = text_of_chain names
words_of_answer (Observed ids) = text_of_observers ids
words_of_answer (Reported list) = text_of_report list
words_of_answer (Counted counts) = text_of_counts counts
words_of_answer (Worked done) = text_of_work done
words_of_answer (Given outcome) = words_of_outcome outcome
words_of_answer (Refused refusal edit) = codes "refused " ++ word_of refusal ++ count_of refusal ++ text_of_number edit
