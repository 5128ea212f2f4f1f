use Rattle.std.proofs.Common.{◌≡◌}
use Rattle.cdi_script.specs.{Commands.commands, Left.left_by_all}
use Rattle.cdi_assembly.specs.Steps.{commands_of_steps}
use Rattle.cdi_assembly.proofs.assembly.Assembly.run_edits.Given as goal

abbrev pub invariant-loop-step : goal.invariant-loop-step
invariant-loop-step g l = record {
  decls : left_by_all l.container.decls (commands_of_steps l.step-iterator.rest.items)
      ≡ left_by_all l.initial.container.decls (commands l.script);
  book : l.container.book ≡ l.initial.container.book;
}
