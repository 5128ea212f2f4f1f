-- The names that several proofs cite, passed on from one place. Declares nothing.
pub use Rattle.std.proofs.Common.{◌≡◌, ℕ, List, [], ◌∷◌, ◌++◌, refl, ap, sym, ◌∙◌, append_assoc, subst, Option, Some, None, false, Bool}
pub use Rattle.std.proofs.Common.{take, length, true, inl, inr, arith, ◌<◌, ◌≤◌, if◌then◌else◌, drop, ◌+◌}
pub use Rattle.std.specs.Prelude.{option_to_list, ◌||◌, Err, Result, Ok, ◌==◌}
pub use Rattle.std.proofs.lemmas.List.{append-nil, length-append, map-append, take-append-drop}
pub use Rattle.std.specs.{Io.KnownBytes.Appends, declared.alloc.AllocError.AllocError}
pub use Rattle.std.proofs.lemmas.Result.{on_ok_weaker, on_err_weaker}
pub use Rattle.base_options.proofs.Results.{OnErr-from}
pub use Rattle.cdi_model.specs.{Bytes.feed, declared.decl.Decl.Decl}
pub use Rattle.cdi_devices.specs.{Counted.bytes_of, Counted.has_failed, Console.reader_of, Console.writer_of}
pub use Rattle.cdi_devices.specs.declared.devices.RunFault.TheVariants.{Memory, Write}
pub use Rattle.cdi_staging.specs.Naming.{names_of}
pub use Rattle.cdi_lines.specs.{declared.command.Command.Command, Kept.ServesLine, Kept.ServesText, declared.edit.Edit.Edit}
pub use Rattle.cdi_lines.specs.{declared.command.Command.TheVariants.Unreadable, Command.said_of_line}
pub use Rattle.cdi_lines.specs.Lines.{NoFeed, begun_from, ended_from, last_line}
pub use Rattle.cdi_lines.proofs.FeedLemmas.{no_items}
pub use Rattle.cdi_container.specs.{History.State, declared.answer.Answer.Answer, Seen.IsStep, Editing.change_of}
pub use Rattle.cdi_script.specs.Begun.{ServesCompleted, ServesTaken, ServesMode, ServesEdits, ServesCommand}
pub use Rattle.cdi_script.specs.Commands.{Mode, commands_of_lines, mode_of_lines, outside, taken, unclosed, complete_commands, commands}
pub use Rattle.cdi_script.specs.Commands.{AreFirst, is_dot, commands_of_line}
pub use Rattle.cdi_script.specs.{Text.text_of_step, Text.is_refused, declared.intake.Intake.Intake, declared.runner.Runner.Runner}
pub use Rattle.cdi_script.specs.Runner.{RunnerOn, Runs, RunsStep, Tries, runner_on}
pub use Rattle.cdi_script.specs.Intake.{IntakeOn, intake_on, Advances, EndsLastLine, EndsMode, TriesBytes, TriesLastLine}
pub use Rattle.cdi_script.specs.Run.{Setting, WroteAll, RunsOutOfMemoryTo, FailsToWriteTo, Goes, Feeds, FeedsBeforeMemory, FeedsPart}
pub use Rattle.cdi_script.specs.Run.{EndsBeforeMemory, EndsPart, SettlesPart, setting_from, RunsScriptTo, FailsToReadTo}
