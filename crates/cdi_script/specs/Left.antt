-- Which declarations a command leaves.
use Rattle.std.specs.Prelude.{List, fold, Option, Some, None, Result, Ok, Err}
use Rattle.cdi_model.specs.declared.decl.Decl.{Decl}
use Rattle.cdi_model.specs.declared.edit.Edit.{Edit as Change}
use Rattle.cdi_model.specs.declared.refusal.Refusal.{Refusal}
use Rattle.cdi_model.specs.Edits.{edited_all}
use Rattle.cdi_lines.specs.declared.command.Command.{Command}
use Rattle.cdi_lines.specs.declared.command.Command.TheVariants.{Edit as EditCommand, Batch as BatchCommand}
use Rattle.cdi_lines.specs.declared.edit.Edit.{Edit}
use Rattle.cdi_container.specs.Editing.{Reason, change_of, changes_in, changes_of_all, refusal_of_batch}
use Rattle.cdi_container.specs.Seen.{answer_of_change}

-- what is there after an edit with this answer, of what is there before and after an accepted one
abbrev pub left_of : Result (Unit {0}) Refusal → List Decl → List Decl → List Decl
left_of (Ok done) before after = after
left_of (Err refusal) before after = before

-- what is there after a change was asked for, or none
abbrev pub left_by_change : List Decl → Result Change Refusal → List Decl
left_by_change ds asked = left_of (answer_of_change ds asked) ds (edited_all ds (changes_in asked))

-- the same of a batch that is refused for this, if it is
abbrev pub left_unless : Option Reason → List Decl → List Decl → List Decl
left_unless None before after = after
left_unless (Some reason) before after = before

abbrev pub left_by_batch : List Decl → List Edit → List Decl
left_by_batch ds es = left_unless (refusal_of_batch ds es) ds (edited_all ds (changes_of_all es))

-- a command that is neither changes no declaration
abbrev pub left_by : List Decl → Command → List Decl
left_by ds (EditCommand edit) = left_by_change ds (change_of edit)
left_by ds (BatchCommand es) = left_by_batch ds es
left_by ds other = ds

abbrev pub left_by_all : List Decl → List Command → List Decl
left_by_all ds commands = fold left_by ds commands
