-- A call of the container and the printing after it make one step.
use Rattle.cdi_script.proofs.Common.{◌++◌, refl, ap, ◌∙◌, [], Ok, if◌then◌else◌, names_of, Command, Answer, IsStep, State, runner_on}
use Rattle.cdi_script.proofs.Common.{RunsStep, Runner}
use Rattle.cdi_container.proofs.Telling.{step_tells}
use Rattle.cdi_script.specs.{Text.text_of_answer, Runner.Prints}

pub ran : (old new : Runner) (before after : State) (command : Command) (answer : Answer) → IsStep before command (Ok answer) after
    → Prints after old new answer → RunsStep (runner_on old before) (runner_on new after) command
ran old new before after command answer step prints = record {
  step = record { command = command; answer = Ok answer; trace = after.trace; names = names_of before.decls };
  command_is = refl;
  memory = refl;
  legal = record { answered = step; trace = refl; names = refl };
  text = prints.text ∙ ap (λ t. old.out.items ++ ((if old.quiet then [] else t) ++ text_of_answer (Ok answer)))
      (step_tells before after command answer step);
  refused = prints.refused;
  quiet = prints.quiet;
}
