-- What running one command does to what runs it.
use Rattle.std.specs.List.{list_any}
use Rattle.std.specs.Prelude.{map, ◌≡◌, ◌⊎◌, ℕ, Bool, false, ◌||◌, List, [], ◌∷◌, ◌++◌, Ok, if◌then◌else◌}
use Rattle.cdi_lines.specs.declared.command.Command.{Command}
use Rattle.cdi_container.specs.declared.answer.Answer.{Answer}
use Rattle.cdi_script.specs.Commands.{AreFirst}
use Rattle.cdi_container.specs.History.{State, Step, LegalStep, History, LegalHistory}
use Rattle.cdi_script.specs.Text.{text_of_step, text_of, text_of_answer, is_refused, is_out_of_memory}
use Rattle.cdi_script.specs.declared.runner.Runner.{Runner}

-- what runs commands, and the state of the container that it runs them on
pub record RunnerOn : Type 0 where
  pub container : State
  pub out : List ℕ
  pub refused : Bool
  pub quiet : Bool

abbrev pub runner_on : Runner → State → RunnerOn
runner_on r state = record { container = state; out = r.out.items; refused = r.refused; quiet = r.quiet }

-- one legal step of this command was made, and its text is printed after the rest
pub record RunsStep (old new : RunnerOn) (command : Command) : Type 0 where
  pub step : Step
  pub command_is : step.command ≡ command
  pub memory : is_out_of_memory step.answer ≡ false
  pub legal : LegalStep old.container step new.container
  pub text : new.out ≡ old.out ++ text_of_step old.quiet step
  pub refused : new.refused ≡ (old.refused || is_refused step.answer)
  pub quiet : new.quiet ≡ old.quiet

-- after the first of all these commands, no step was made, or a legal one of the command that comes next
abbrev pub Tries : List Command → List Command → State → State → Type 0
Tries first all old new = (new ≡ old) ⊎ ((step : Step) × AreFirst (first ++ step.command ∷ []) all × LegalStep old step new)

-- nothing was printed
pub record PrintsNothing (old new : Runner) : Type 0 where
  pub text : new.out.items ≡ old.out.items
  pub quiet : new.quiet ≡ old.quiet

-- the trace that a state shows, unless it is left out
abbrev pub text_shown : Bool → State → List ℕ
text_shown quiet state = if quiet then [] else state.text

-- the trace of a container in this state and an answer were printed
pub record Prints (state : State) (old new : Runner) (answer : Answer) : Type 0 where
  pub text : new.out.items ≡ old.out.items ++ (text_shown old.quiet state ++ text_of_answer (Ok answer))
  pub refused : new.refused ≡ (old.refused || is_refused (Ok answer))
  pub quiet : new.quiet ≡ old.quiet

-- a legal history of these commands was made, and its text is printed after the rest
pub record Runs (old new : RunnerOn) (commands : List Command) : Type 0 where
  pub history : History
  pub commands_are : map (λ step. step.command) history ≡ commands
  pub memory : list_any (λ step. is_out_of_memory step.answer) history ≡ false
  pub legal : LegalHistory old.container history new.container
  pub text : new.out ≡ old.out ++ text_of old.quiet history
  pub refused : new.refused ≡ (old.refused || list_any (λ step. is_refused step.answer) history)
  pub quiet : new.quiet ≡ old.quiet
