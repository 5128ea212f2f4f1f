-- What is kept of a batch and of a put block that are open, and why it serves as well as all of them.
use Rattle.std.specs.Prelude.{◌≡◌, ◌<◌, ◌⊎◌, ℕ, List, length, Option, Some, None, Result}
use Rattle.std.specs.declared.alloc.AllocError.{AllocError}
use Rattle.cdi_lines.specs.declared.command.Command.{Command}
use Rattle.cdi_lines.specs.declared.edit.Edit.{Edit}
use Rattle.cdi_lines.specs.Kept.{ServesText}
use Rattle.cdi_container.specs.declared.answer.Answer.{Answer}
use Rattle.cdi_container.specs.Editing.{asked_by}
use Rattle.cdi_container.specs.History.{State, LegalAnswer}
use Rattle.cdi_model.specs.declared.decl.Decl.{Decl}
use Rattle.cdi_script.specs.Left.{left_by}
use Rattle.cdi_script.specs.Commands.{OpenBatch, Edits, Spoiled, Mode, Taken}

-- so for the edits of a batch: they ask for the same changes, or both are too many
abbrev pub ServesEdits : List Edit → List Edit → Type 0
ServesEdits kept edits = (asked_by kept ≡ asked_by edits) ⊎ ((256 < length kept) × (256 < length edits))

abbrev pub ServesOpen : OpenBatch → OpenBatch → Type 0
ServesOpen (Edits kept) (Edits edits) = ServesEdits kept edits
ServesOpen Spoiled Spoiled = Unit {0}
ServesOpen kept batch = ⊥

abbrev pub ServesBatch : Option OpenBatch → Option OpenBatch → Type 0
ServesBatch None None = Unit {0}
ServesBatch (Some kept) (Some batch) = ServesOpen kept batch
ServesBatch kept batch = ⊥

abbrev pub ServesBlock : Option (List ℕ) → Option (List ℕ) → Type 0
ServesBlock None None = Unit {0}
ServesBlock (Some kept) (Some text) = ServesText kept text
ServesBlock kept text = ⊥

-- what is kept of all that is open serves for it
pub record ServesMode (kept mode : Mode) : Type 0 where
  pub batch : ServesBatch kept.batch mode.batch
  pub text : ServesBlock kept.text mode.text

-- a command serves for another: whatever is a legal answer to it is one to the other, and it leaves the same declarations
abbrev pub AnsweredAlike : Command → Command → Type 0
AnsweredAlike kept command = (old new : State) (answer : Result Answer AllocError) → LegalAnswer old kept answer new
    → LegalAnswer old command answer new

abbrev pub LeavesAlike : Command → Command → Type 0
LeavesAlike kept command = (ds : List Decl) → left_by ds kept ≡ left_by ds command

abbrev pub ServesCommand : Command → Command → Type 0
ServesCommand kept command = AnsweredAlike kept command × LeavesAlike kept command

abbrev pub ServesCompleted : Option Command → Option Command → Type 0
ServesCompleted None None = Unit {0}
ServesCompleted (Some kept) (Some command) = ServesCommand kept command
ServesCompleted kept command = ⊥

-- a completed command and what is open after it serve for what a line does
pub record ServesTaken (kept : Option Command) (kept_mode : Mode) (taken : Taken) : Type 0 where
  pub command : ServesCompleted kept taken.command
  pub mode : ServesMode kept_mode taken.mode
