-- Look-ups, calls and events: what is asked for, when that is refused, and which run it is.
use Rattle.std.specs.Prelude.{ℕ, ◌==◌, Bool, not, ◌&&◌, List, codes, length, Option, None, Some, Result, Ok, Err, if◌then◌else◌}
use Rattle.std.specs.List.{list_any}
use Rattle.std.specs.Str.{bytes_eq}
use Rattle.cdi_model.specs.declared.decl.Decl.{Decl}
use Rattle.cdi_model.specs.declared.outcome.Val.{Val}
use Rattle.cdi_model.specs.declared.quals.Qual.{Qual}
use Rattle.cdi_model.specs.declared.refusal.Refusal.{Refusal}
use Rattle.cdi_model.specs.declared.refusal.Refusal.TheVariants as refusals
use Rattle.cdi_bodies.specs.Book.{Promised}
use Rattle.cdi_effective.specs.Beans.{beans}
use Rattle.cdi_effective.specs.declared.records.BeanId.{BeanId}
use Rattle.cdi_resolve.specs.Choices.{chosen}
use Rattle.cdi_resolve.specs.declared.choice.Choice.{Choice}
use Rattle.cdi_resolve.specs.declared.choice.Choice.TheVariants as choices
use Rattle.cdi_scene.specs.declared.scene.Notified.{Notified}
use Rattle.cdi_staging.specs.Notifying.{notified_at}
use Rattle.cdi_staging.specs.Sites.{managed_class, position_of_bean, method_of}
use Rattle.cdi_legal.specs.LegalRun.{Command as Run, notify_all, use_bean}
use Rattle.cdi_run.specs.Uses.{use_of}
use Rattle.cdi_run.specs.declared.roots.Purpose.{Purpose}
use Rattle.cdi_run.specs.declared.roots.Purpose.TheVariants as purposes
use Rattle.cdi_subjects.specs.Asked.{are_known}
use Rattle.cdi_validate.specs.Faults.{faults}
use Rattle.cdi_subjects.specs.Sites.{has_method}
use Rattle.cdi_container.specs.declared.asked.Aim.{Aim}
use Rattle.cdi_container.specs.declared.asked.Message.{Message}

-- a bean by its type and qualifiers, and what is called, if anything is
pub record Asked : Type 0 where
  pub bean_type : List ℕ
  pub quals : List Qual
  pub message : Option Message

abbrev pub asked_for : List ℕ → List Qual → Option Message → Asked
asked_for t quals message = record { bean_type = t; quals = quals; message = message }

abbrev pub to_look : List ℕ → List Qual → Asked
to_look t quals = asked_for t quals None

abbrev pub to_call : List ℕ → Val → List ℕ → List Qual → Asked
to_call method arg t quals = asked_for t quals (Some (record { method = method; arg = arg }))

-- ---- where it leads, or why it is refused

-- what is done with the instance of a bean: its state is looked up, or a method is called that it has
abbrev pub purpose_of : List Decl → BeanId → Option Message → Result Purpose Refusal
purpose_of ds id None = Ok purposes.State
purpose_of ds id (Some message) =
    if has_method ds id message.method
    then Ok (purposes.Answer (method_of ds (managed_class id) message.method) message.arg)
    else Err refusals.NoMethod

abbrev pub aim_with : ℕ → Result Purpose Refusal → Result Aim Refusal
aim_with b (Ok purpose) = Ok (record { bean = b; purpose = purpose })
aim_with b (Err refusal) = Err refusal

abbrev pub aim_of_choice : List Decl → Option Message → Choice → Result Aim Refusal
aim_of_choice ds message choices.Unsatisfied = Err refusals.Unsatisfied
aim_of_choice ds message (choices.Ambiguous ids) = Err refusals.Ambiguous
aim_of_choice ds message (choices.One id) = aim_with (position_of_bean (beans ds) id) (purpose_of ds id message)

-- the bean that is right for it (CDI 4.0, Performing typesafe resolution)
unfoldable pub aim_for : List Decl → Asked → Result Aim Refusal
aim_for ds asked = aim_of_choice ds asked.message (chosen ds (beans ds) asked.bean_type asked.quals)

abbrev pub aim_known : List Decl → Asked → Result Aim Refusal
aim_known ds asked = if are_known ds asked.bean_type asked.quals then aim_for ds asked else Err refusals.UnknownName

-- a deployment with faults runs nothing (CDI 4.0, Problems detected automatically by the container)
abbrev pub aim_faultless : List Decl → ℕ → Asked → Result Aim Refusal
aim_faultless ds count asked = if count == 0 then aim_known ds asked else Err (refusals.Faulty count)

-- what a look-up or a call aims at, or the first refusal whose condition holds
unfoldable pub aim_of : List Decl → List Promised → Asked → Result Aim Refusal
aim_of ds book asked = aim_faultless ds (length (faults ds book)) asked

-- ---- events

abbrev pub names_default : List Qual → Bool
names_default quals = list_any (λ u. bytes_eq u.name (codes "Default")) quals

-- the type and the qualifiers of an event are known, and `Default` is none of these (profile)
abbrev pub can_be_fired : List Decl → List ℕ → List Qual → Bool
can_be_fired ds t quals = are_known ds t quals && not (names_default quals)

abbrev pub fired_known : List Decl → List ℕ → List Qual → Result (List Notified) Refusal
fired_known ds t quals = if can_be_fired ds t quals then Ok (notified_at ds (beans ds) t quals) else Err refusals.UnknownName

abbrev pub fired_faultless : List Decl → ℕ → List ℕ → List Qual → Result (List Notified) Refusal
fired_faultless ds count t quals = if count == 0 then fired_known ds t quals else Err (refusals.Faulty count)

-- the observer methods that an event notifies, in order, or the first refusal whose condition holds
unfoldable pub fired_of : List Decl → List Promised → List ℕ → List Qual → Result (List Notified) Refusal
fired_of ds book t quals = fired_faultless ds (length (faults ds book)) t quals

-- ---- runs

-- the run that an aim begins
abbrev pub run_at : Aim → Run
run_at aim = use_bean aim.bean (use_of aim.purpose)

-- the run of what was found, or why it was refused
abbrev pub run_by : {X : Type 0} → (X → Run) → Result X Refusal → Result Run Refusal
run_by run (Ok found) = Ok (run found)
run_by run (Err refusal) = Err refusal

-- that of a look-up or a call
abbrev pub run_of_use : List Decl → List Promised → Asked → Result Run Refusal
run_of_use ds book asked = run_by run_at (aim_of ds book asked)

-- and that of an event with a value (CDI 4.0, Observer notification)
abbrev pub run_of_event : List Decl → List Promised → Val → List ℕ → List Qual → Result Run Refusal
run_of_event ds book arg t quals = run_by (λ observers. notify_all observers arg) (fired_of ds book t quals)
