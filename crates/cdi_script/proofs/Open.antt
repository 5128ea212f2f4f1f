-- What is kept of a batch and of a put block that are open serves for all of them.
use Rattle.cdi_script.proofs.Common.{◌≡◌, ℕ, ◌<◌, List, [], ◌∷◌, ◌++◌, refl, sym, ◌∙◌, subst, true, false, Bool, inl, inr, arith, Option}
use Rattle.cdi_script.proofs.Common.{Some, None, Result, Ok, Err, length-append, map-append, Command, Unreadable, Edit, said_of_line}
use Rattle.cdi_script.proofs.Common.{ServesLine, ServesText, change_of, Mode, taken, is_dot, unclosed, ServesEdits, ServesMode}
use Rattle.cdi_script.proofs.Common.{ServesCommand, ServesCompleted, ServesTaken}
use Rattle.cdi_model.specs.declared.refusal.Refusal.{Refusal}
use Rattle.cdi_lines.specs.declared.command.Said.{Said}
use Rattle.cdi_lines.specs.declared.command.Said.TheVariants as said
use Rattle.cdi_lines.specs.declared.edit.Edit.TheVariants as edits
use Rattle.cdi_script.proofs.{Runs.cc_append, Alike.asked_alike, Alike.serves_edit, Alike.serves_batch, Alike.asks_alike}
use Rattle.cdi_script.proofs.Serving.{serves_command, serves_dot, serves_with_line, serves_serving_text}
use Rattle.cdi_script.specs.Commands.{OpenBatch, Edits, Spoiled, Taken, with_edit, command_of_batch, edited, commanded, batch_begun}
use Rattle.cdi_script.specs.Commands.{batch_ended, taken_at, taken_said, taken_in_put, unclosed_at}
use Rattle.cdi_script.specs.Begun.{ServesOpen, ServesBatch, ServesBlock}

-- ---- edits

pub serves_with_edit : (kept es : List Edit) (a b : Edit) → ServesEdits kept es → change_of a ≡ change_of b
    → ServesEdits (kept ++ a ∷ []) (es ++ b ∷ [])
serves_with_edit kept es a b (inl same) asks = grind (arith, map-append, cc_append)
serves_with_edit kept es a b (inr many) asks = grind (arith, many.0, many.1, length-append)

serves_serving_edits : (a b c : List Edit) → ServesEdits a b → ServesEdits b c → ServesEdits a c
serves_serving_edits a b c (inl h) (inl k) = inl (h ∙ k)
serves_serving_edits a b c (inl h) (inr k) = inr (subst (λ n. 256 < n) (sym (asked_alike a b h)) k.0, k.1)
serves_serving_edits a b c (inr h) (inl k) = inr (h.0, subst (λ n. 256 < n) (asked_alike b c k) h.1)
serves_serving_edits a b c (inr h) (inr k) = inr (h.0, k.1)

-- ---- batches

pub open_with_edit : (kept batch : OpenBatch) (a b : Edit) → ServesOpen kept batch → change_of a ≡ change_of b
    → ServesOpen (with_edit kept a) (with_edit batch b)
open_with_edit (Edits kept) (Edits es) a b h asks = serves_with_edit kept es a b h asks
open_with_edit (Edits kept) Spoiled a b h asks = absurd h
open_with_edit Spoiled (Edits es) a b h asks = absurd h
open_with_edit Spoiled Spoiled a b h asks = tt

serves_serving_open : (a b c : OpenBatch) → ServesOpen a b → ServesOpen b c → ServesOpen a c
serves_serving_open (Edits a) (Edits b) (Edits c) h k = serves_serving_edits a b c h k
serves_serving_open (Edits a) (Edits b) Spoiled h k = absurd k
serves_serving_open (Edits a) Spoiled c h k = absurd h
serves_serving_open Spoiled (Edits b) c h k = absurd h
serves_serving_open Spoiled Spoiled (Edits c) h k = absurd k
serves_serving_open Spoiled Spoiled Spoiled h k = tt

serves_serving_batch : (a b c : Option OpenBatch) → ServesBatch a b → ServesBatch b c → ServesBatch a c
serves_serving_batch None None None h k = tt
serves_serving_batch None None (Some c) h k = absurd k
serves_serving_batch None (Some b) c h k = absurd h
serves_serving_batch (Some a) None c h k = absurd h
serves_serving_batch (Some a) (Some b) None h k = absurd k
serves_serving_batch (Some a) (Some b) (Some c) h k = serves_serving_open a b c h k

serves_serving_block : (a b c : Option (List ℕ)) → ServesBlock a b → ServesBlock b c → ServesBlock a c
serves_serving_block None None None h k = tt
serves_serving_block None None (Some c) h k = absurd k
serves_serving_block None (Some b) c h k = absurd h
serves_serving_block (Some a) None c h k = absurd h
serves_serving_block (Some a) (Some b) None h k = absurd k
serves_serving_block (Some a) (Some b) (Some c) h k = serves_serving_text a b c h k

-- ---- what a line does

pub command_itself : (command : Command) → ServesCommand command command
command_itself command = (λ old new answer h. h, λ ds. refl)

abbrev pub ServesSame : Taken → Taken → Type 0
ServesSame kept taken = ServesTaken kept.command kept.mode taken

serves_serving_completed : (a b c : Option Command) → ServesCompleted a b → ServesCompleted b c → ServesCompleted a c
serves_serving_completed None None None h k = tt
serves_serving_completed None None (Some c) h k = absurd k
serves_serving_completed None (Some b) c h k = absurd h
serves_serving_completed (Some a) None c h k = absurd h
serves_serving_completed (Some a) (Some b) None h k = absurd k
serves_serving_completed (Some a) (Some b) (Some c) h k =
    (λ old new answer legal. k.0 old new answer (h.0 old new answer legal), λ ds. h.1 ds ∙ k.1 ds)

-- what serves for what serves
pub serves_serving_taken : (command : Option Command) (mode : Mode) (a b : Taken) → ServesTaken command mode a → ServesSame a b
    → ServesTaken command mode b
serves_serving_taken command mode a b h k = record {
  command = serves_serving_completed command a.command b.command h.command k.command;
  mode = record {
    batch = serves_serving_batch mode.batch a.mode.batch b.mode.batch h.mode.batch k.mode.batch;
    text = serves_serving_block mode.text a.mode.text b.mode.text h.mode.text k.mode.text;
  };
}

serves_edited : (kept batch : Option OpenBatch) (a b : Edit) → ServesBatch kept batch → change_of a ≡ change_of b
    → ServesSame (edited kept a) (edited batch b)
serves_edited None None a b h asks = record { command = serves_edit a b asks; mode = record { batch = tt; text = tt } }
serves_edited None (Some batch) a b h asks = absurd h
serves_edited (Some kept) None a b h asks = absurd h
serves_edited (Some kept) (Some batch) a b h asks =
    record { command = tt; mode = record { batch = open_with_edit kept batch a b h asks; text = tt } }

serves_commanded : (kept batch : Option OpenBatch) (command : Command) → ServesBatch kept batch
    → ServesSame (commanded kept command) (commanded batch command)
serves_commanded None None command h = record { command = command_itself command; mode = record { batch = tt; text = tt } }
serves_commanded None (Some batch) command h = absurd h
serves_commanded (Some kept) None command h = absurd h
serves_commanded (Some kept) (Some batch) command h = record { command = tt; mode = record { batch = tt; text = tt } }

serves_batch_begun : (kept batch : Option OpenBatch) → ServesBatch kept batch → ServesSame (batch_begun kept) (batch_begun batch)
serves_batch_begun None None h = record { command = tt; mode = record { batch = inl refl; text = tt } }
serves_batch_begun None (Some batch) h = absurd h
serves_batch_begun (Some kept) None h = absurd h
serves_batch_begun (Some kept) (Some batch) h = record { command = tt; mode = record { batch = tt; text = tt } }

serves_ended : (kept batch : OpenBatch) → ServesOpen kept batch → ServesCommand (command_of_batch kept) (command_of_batch batch)
serves_ended (Edits kept) (Edits es) h = serves_batch kept es h
serves_ended (Edits kept) Spoiled h = absurd h
serves_ended Spoiled (Edits es) h = absurd h
serves_ended Spoiled Spoiled h = command_itself Unreadable

serves_batch_ended : (kept batch : Option OpenBatch) → ServesBatch kept batch → ServesSame (batch_ended kept) (batch_ended batch)
serves_batch_ended None None h = record { command = command_itself Unreadable; mode = record { batch = tt; text = tt } }
serves_batch_ended None (Some batch) h = absurd h
serves_batch_ended (Some kept) None h = absurd h
serves_batch_ended (Some kept) (Some batch) h =
    record { command = serves_ended kept batch h; mode = record { batch = tt; text = tt } }

serves_said : (kept batch : Option OpenBatch) (read : Result Said Refusal) → ServesBatch kept batch
    → ServesSame (taken_said kept read) (taken_said batch read)
serves_said kept batch (Ok said.Nothing) h = record { command = tt; mode = record { batch = h; text = tt } }
serves_said kept batch (Ok said.PutBegins) h = record { command = tt; mode = record { batch = h; text = inl refl } }
serves_said kept batch (Ok said.BatchBegins) h = serves_batch_begun kept batch h
serves_said kept batch (Ok said.BatchEnds) h = serves_batch_ended kept batch h
serves_said kept batch (Ok (said.Edit edit)) h = serves_edited kept batch edit edit h refl
serves_said kept batch (Ok (said.Command command)) h = serves_commanded kept batch command h
serves_said kept batch (Err refusal) h = serves_commanded kept batch Unreadable h

serves_in_put : (kept batch : Option OpenBatch) (kept_text text kept_line line : List ℕ) → ServesBatch kept batch
    → ServesText kept_text text → ServesLine kept_line line → (dot : Bool) → is_dot kept_line ≡ dot → is_dot line ≡ dot
    → ServesSame (taken_in_put kept kept_text kept_line) (taken_in_put batch text line)
serves_in_put kept batch kept_text text kept_line line h t l true k d =
    rw (k, d) (serves_edited kept batch (edits.Put kept_text) (edits.Put text) h (asks_alike kept_text text t))
serves_in_put kept batch kept_text text kept_line line h t l false k d = rw (k, d) (record {
  command = tt;
  mode = record { batch = h; text = serves_with_line kept_text text kept_line line t l };
})

serves_at : (kept batch : Option OpenBatch) (kept_text text : Option (List ℕ)) (kept_line line : List ℕ) → ServesBatch kept batch
    → ServesBlock kept_text text → ServesLine kept_line line → ServesSame (taken_at kept kept_text kept_line) (taken_at batch text line)
serves_at kept batch None None kept_line line h t l =
    subst (λ read. ServesSame (taken_said kept (said_of_line kept_line)) (taken_said batch read)) (serves_command kept_line line l)
    (serves_said kept batch (said_of_line kept_line) h)
serves_at kept batch None (Some text) kept_line line h t l = absurd t
serves_at kept batch (Some kept_text) None kept_line line h t l = absurd t
serves_at kept batch (Some kept_text) (Some text) kept_line line h t l =
    serves_in_put kept batch kept_text text kept_line line h t l (is_dot kept_line) refl (sym (serves_dot kept_line line l))

-- what is kept of a line does, where what is kept is open, what serves for all of it
pub serves_taken : (kept mode : Mode) (kept_line line : List ℕ) → ServesMode kept mode → ServesLine kept_line line
    → ServesSame (taken kept kept_line) (taken mode line)
serves_taken kept mode kept_line line m l = serves_at kept.batch mode.batch kept.text mode.text kept_line line m.batch m.text l

-- ---- the end of input

unclosed_alike : (kept batch : Option OpenBatch) (kept_text text : Option (List ℕ)) → ServesBatch kept batch
    → ServesBlock kept_text text → unclosed_at kept kept_text ≡ unclosed_at batch text
unclosed_alike None None None None h t = refl
unclosed_alike None None (Some kept_text) (Some text) h t = refl
unclosed_alike None None None (Some text) h t = absurd t
unclosed_alike None None (Some kept_text) None h t = absurd t
unclosed_alike None (Some batch) kept_text text h t = absurd h
unclosed_alike (Some kept) None kept_text text h t = absurd h
unclosed_alike (Some kept) (Some batch) None None h t = refl
unclosed_alike (Some kept) (Some batch) (Some kept_text) (Some text) h t = refl
unclosed_alike (Some kept) (Some batch) None (Some text) h t = absurd t
unclosed_alike (Some kept) (Some batch) (Some kept_text) None h t = absurd t

pub serves_unclosed : (kept mode : Mode) → ServesMode kept mode → unclosed kept ≡ unclosed mode
serves_unclosed kept mode m = unclosed_alike kept.batch mode.batch kept.text mode.text m.batch m.text
