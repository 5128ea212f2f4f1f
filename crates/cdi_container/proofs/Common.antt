-- The names that several proofs cite, passed on from one place. Declares nothing.
pub use Rattle.std.proofs.Common.{◌≡◌, List, Bool, true, false, Option, None, refl, subst, sym, ◌∙◌, ℕ, Some, Result, Ok, Err, [], ap, ◌∷◌}
pub use Rattle.std.proofs.Common.{arith, ◌≢◌, ◌&&◌, ◌||◌, ◌++◌, length, suc, map, ◌+◌, flat_map, slice_get, take}
pub use Rattle.std.specs.Prelude.{OnOk, IfErr, if◌then◌else◌, IfOk, filter, IfSome, AllPairs, is_some}
pub use Rattle.std.specs.{declared.alloc.AllocError.AllocError, Result.IsErrAnd, List.list_all, Vec.Iter.into_iter_items}
pub use Rattle.std.proofs.lemmas.Bool.{false≢true, and_parts, or_left, or_right}
pub use Rattle.std.proofs.lemmas.{List.Folds.list_any-append, Result.on_ok_weaker}
pub use Rattle.std.specs.Fmt.{HasWritten, IsPlainFormatter}
pub use Rattle.base_options.proofs.Results.{OnErr-from}
pub use Rattle.cdi_model.specs.{declared.decl.Decl.Decl, declared.refusal.Error.Error, Answering.Answers, declared.refusal.Refusal.Refusal}
pub use Rattle.cdi_model.specs.{declared.quals.Qual.Qual, Short.AreShort, DeclList.AreDistinct, Edits.edited_all, Edits.edited}
pub use Rattle.cdi_model.specs.declared.outcome.Outcome.{Outcome}
pub use Rattle.cdi_bodies.specs.Book.{Promised}
pub use Rattle.cdi_contexts.specs.Standing.{cleared, Standing, closed}
pub use Rattle.cdi_scene.specs.declared.scene.Scene.{Scene}
pub use Rattle.cdi_legal.specs.{Moment.Moment, Moment.beginning, Rooted.IsRooted, LegalRun.LegalRun, LegalRun.LegalEnd}
pub use Rattle.cdi_legal.specs.{declared.entry.Entry.Entry, Laws.IsRequested, Laws.IsSingleAt, Laws.IsWithinLimit}
pub use Rattle.cdi_effective.specs.Beans.{beans}
pub use Rattle.cdi_index.specs.State.{Drafted, IsEdited, Staged}
pub use Rattle.cdi_intercept.specs.Chains.{chain_of}
pub use Rattle.cdi_resolve.specs.{declared.choice.Choice.Choice, Choices.chosen}
pub use Rattle.cdi_observe.specs.Keys.{Key, ChainKey, has_key, same_key, with_key, EventKey, choice_key}
pub use Rattle.cdi_observe.specs.{declared.observers.ObserverId.ObserverId, Observers.notified}
unfoldable pub use Rattle.cdi_observe.specs.{Wanted.wanted, Wanted.is_wanted, Kept.after_key}
pub use Rattle.cdi_observe.specs.Kept.{evaluated, Kept, EvaluatesSome}
pub use Rattle.cdi_observe.proofs.KeyLemmas.{same_key-decides, same_key-equiv}
pub use Rattle.cdi_observe.proofs.{WantedLemmas.has-wanted, KeptLemmas.evaluated-apart}
pub use Rattle.cdi_live.specs.{Known.KnownAreWanted, Known.known_of, State.knows, State.Commits, State.CommitsTo, State.kept_in}
pub use Rattle.cdi_subjects.specs.Asked.{are_known}
pub use Rattle.cdi_validate.specs.Faults.{faults}
pub use Rattle.cdi_report.specs.Settled.{AreSettled}
pub use Rattle.cdi_staging.specs.{Staged.scene_of, declared.names.Names.Names, Naming.names_of}
pub use Rattle.cdi_wiring.specs.{Wired.IsWiringOf, declared.verdict.Wiring.Wiring}
pub use Rattle.cdi_trace.specs.TraceText.{text_of_entries}
pub use Rattle.cdi_lines.specs.declared.command.Command.{Command}
pub use Rattle.cdi_lines.specs.declared.command.Command.TheVariants.{Batch, Chain, LookUp, Call, Fire, BeginRequest, EndRequest, Stop}
pub use Rattle.cdi_lines.specs.declared.command.Command.TheVariants.{Unreadable, Report, Edit}
pub use Rattle.cdi_container.specs.Wired.{Deployed, IsAsked, RestsOnScene, Evaluates, IsAskedSome, trace_names, is_sound, redeployed}
pub use Rattle.cdi_container.specs.{Wired.KnowsAll, History.evaluates, History.IsRefusedBy, History.empty, declared.answer.Answer.Answer}
pub use Rattle.cdi_container.specs.{Asked.run_by, Asked.can_be_fired, Asked.asked_for, Known.known_with, Known.work_with, Known.IsInOrder}
pub use Rattle.cdi_container.specs.{Lent.AreKnown, Points.placed_points, Points.points_told}
pub use Rattle.cdi_container.specs.Editing.{alone, change_of, changes_of, changes_of_all, drafted_all, first_refusal, asked_by}
pub use Rattle.cdi_container.specs.History.{State, AsksSome, left_by, EditsFrom, RunsFrom, emptied, untold, EndsRequest, scene, History}
pub use Rattle.cdi_container.specs.History.{Acts, LegalAnswer, LegalHistory, runs, Step, LegalStep, trace_behind, RunAnswers, asked}
pub use Rattle.cdi_container.specs.Seen.{answer_of_change, IsStep, SaysReason, refused_at}
pub use Rattle.cdi_container.specs.declared.answer.Answer.TheVariants.{Given, Done, Chosen, Intercepted, Observed, Reported, Counted}
pub use Rattle.cdi_container.specs.declared.answer.Answer.TheVariants.{Worked, Refused}
unfoldable pub use Rattle.cdi_container.specs.Known.{keys_of_event, keys_of_use}
