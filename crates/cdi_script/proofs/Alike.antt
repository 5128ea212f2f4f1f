-- Commands that are answered alike.
use Rattle.cdi_script.proofs.Common.{◌≡◌, ℕ, ◌<◌, List, [], ◌∷◌, length, refl, ap, sym, ◌∙◌, subst, inl, inr, Option, Some, None}
use Rattle.cdi_script.proofs.Common.{option_to_list, Result, Ok, Err, if◌then◌else◌, AllocError, Decl, Command, Edit, ServesText, Answer}
use Rattle.cdi_script.proofs.Common.{change_of, State, RunnerOn, Runs, RunsStep, Tries, ServesEdits, ServesCommand, ServesCompleted, arith}
use Rattle.std.proofs.{Common.ap₂, lemmas.List.length-map, lemmas.Bool.lt-ltb}
use Rattle.std.specs.Prelude.{nat_lt}
use Rattle.cdi_model.specs.declared.refusal.Refusal.TheVariants.{TooLong, BatchTooLong}
use Rattle.cdi_lines.specs.declared.command.Command.TheVariants.{Edit as EditCommand, Batch as BatchCommand}
use Rattle.cdi_lines.specs.declared.edit.Edit.TheVariants as edits
use Rattle.cdi_text.specs.Reading.{decl_of}
use Rattle.cdi_container.specs.declared.answer.Answer.TheVariants.{Done, Chosen, Intercepted, Observed, Reported, Counted, Worked, Given}
use Rattle.cdi_container.specs.declared.answer.Answer.TheVariants.{Refused}
use Rattle.cdi_container.specs.Editing.{Reason, put_of, asked_by, first_refusal, refusal_of_batch}
use Rattle.cdi_container.specs.History.{Acts, LegalAnswer, asked, evaluates, refusal_of, runs, untold}
use Rattle.cdi_script.proofs.Runs.{runs_none, runs_one}

-- what one does that evaluates nothing, another does
does : (old new : State) (kept command : Command) (given : Answer) → evaluates old kept ≡ [] → evaluates old command ≡ []
    → (Acts old kept given new → Acts old command given new) → Acts (asked old (evaluates old kept)) kept given new
    → Acts (asked old (evaluates old command)) command given new
does old new kept command given one other acts h =
    subst (λ keys. Acts (asked old keys) command given new) (sym other)
    (acts (subst (λ keys. Acts (asked old keys) kept given new) one h))

-- two commands that evaluate nothing, are refused alike, and do the same, are answered alike
alike : (old new : State) (kept command : Command) (answer : Result Answer AllocError) → evaluates old kept ≡ []
    → evaluates old command ≡ [] → refusal_of old kept ≡ refusal_of old command
    → ((given : Answer) → refusal_of old kept ≡ None → Acts old kept given new → Acts old command given new)
    → runs kept ≡ runs command → LegalAnswer old kept answer new → LegalAnswer old command answer new
alike old new kept command (Ok Done) one other refused acts same h =
    (sym refused ∙ h.0, does old new kept command Done one other (acts Done h.0) h.1)
alike old new kept command (Ok (Chosen choice)) one other refused acts same h =
    (sym refused ∙ h.0, does old new kept command (Chosen choice) one other (acts (Chosen choice) h.0) h.1)
alike old new kept command (Ok (Intercepted names)) one other refused acts same h =
    (sym refused ∙ h.0, does old new kept command (Intercepted names) one other (acts (Intercepted names) h.0) h.1)
alike old new kept command (Ok (Observed ids)) one other refused acts same h =
    (sym refused ∙ h.0, does old new kept command (Observed ids) one other (acts (Observed ids) h.0) h.1)
alike old new kept command (Ok (Reported list)) one other refused acts same h =
    (sym refused ∙ h.0, does old new kept command (Reported list) one other (acts (Reported list) h.0) h.1)
alike old new kept command (Ok (Counted counts)) one other refused acts same h =
    (sym refused ∙ h.0, does old new kept command (Counted counts) one other (acts (Counted counts) h.0) h.1)
alike old new kept command (Ok (Worked done)) one other refused acts same h =
    (sym refused ∙ h.0, does old new kept command (Worked done) one other (acts (Worked done) h.0) h.1)
alike old new kept command (Ok (Given outcome)) one other refused acts same h =
    (sym refused ∙ h.0, does old new kept command (Given outcome) one other (acts (Given outcome) h.0) h.1)
alike old new kept command (Ok (Refused refusal edit)) one other refused acts same h =
    (sym refused ∙ h.0, h.1 ∙ ap (λ keys. untold (asked old keys)) (one ∙ sym other))
alike old new kept command (Err error) one other refused acts same h = grind (arith, h.left, h.asks, h.rest)

-- edits that ask for the same
pub serves_edit : (kept edit : Edit) → change_of kept ≡ change_of edit → ServesCommand (EditCommand kept) (EditCommand edit)
serves_edit kept edit same = grind (arith, alike)

-- batches whose edits ask for the same
pub asked_alike : (kept es : List Edit) → asked_by kept ≡ asked_by es → length kept ≡ length es
asked_alike kept es same = sym (length-map kept change_of) ∙ ap length same ∙ length-map es change_of

judged_alike : (ds : List Decl) (kept es : List Edit) → asked_by kept ≡ asked_by es → refusal_of_batch ds kept ≡ refusal_of_batch ds es
judged_alike ds kept es same = ap₂ (λ n asked. if nat_lt 256 n then Some (BatchTooLong, None) else first_refusal 1 ds asked)
    (asked_alike kept es same) same

abbrev too_many : Option Reason
too_many = Some (BatchTooLong, None)

refused_many : (ds : List Decl) (es : List Edit) → 256 < length es → refusal_of_batch ds es ≡ too_many
refused_many ds es many = rw (lt-ltb 256 (length es) many) refl

pub serves_batch : (kept es : List Edit) → ServesEdits kept es → ServesCommand (BatchCommand kept) (BatchCommand es)
serves_batch kept es (inl same) = grind (arith, alike, judged_alike)
serves_batch kept es (inr many) = grind (arith, many.0, many.1, alike, refused_many)

-- what is kept of the text of a put block asks for what all of it does
too_long : (text : List ℕ) → 65536 < length text → decl_of text ≡ Err TooLong
too_long text much = rw (lt-ltb 65536 (length text) much) refl

pub asks_alike : (kept text : List ℕ) → ServesText kept text → change_of (edits.Put kept) ≡ change_of (edits.Put text)
asks_alike kept text (inl same) = ap (λ t. put_of (decl_of t)) same
asks_alike kept text (inr long) = ap put_of (too_long kept long.0 ∙ sym (too_long text long.1))

-- ---- steps

pub serves_step : (old new : RunnerOn) (kept command : Command) → ServesCommand kept command → RunsStep old new kept
    → RunsStep old new command
serves_step old new kept command serves r = record {
  step = record r.step { command = command };
  command_is = refl;
  memory = r.memory;
  legal = record {
    answered = serves.0 old.container new.container r.step.answer
        (subst (λ c. LegalAnswer old.container c r.step.answer new.container) r.command_is r.legal.answered);
    trace = r.legal.trace;
    names = r.legal.names;
  };
  text = r.text;
  refused = r.refused;
  quiet = r.quiet;
}

pub serves_tried : (old new : State) (kept command : Command) → ServesCommand kept command → Tries [] (kept ∷ []) old new
    → Tries [] (command ∷ []) old new
serves_tried old new kept command serves (inl e) = inl e
serves_tried old new kept command serves (inr t) = inr (
  record t.0 { command = command },
  ([], refl),
  record {
    answered = serves.0 old new t.0.answer
        (let k = t.1.1 in let head : t.0.command ≡ kept = cc in subst (λ c. LegalAnswer old c t.0.answer new) head t.2.answered);
    trace = t.2.trace;
    names = t.2.names;
  },
)

-- ---- what a line completes

pub runs_no_command : (r : RunnerOn) (completed : Option Command) → ServesCompleted None completed
    → Runs r r (option_to_list completed)
runs_no_command r None h = runs_none r
runs_no_command r (Some command) h = absurd h

pub runs_command : (old new : RunnerOn) (kept : Command) (completed : Option Command) → ServesCompleted (Some kept) completed
    → RunsStep old new kept → Runs old new (option_to_list completed)
runs_command old new kept None h step = absurd h
runs_command old new kept (Some command) h step = runs_one old new command (serves_step old new kept command h step)

pub tries_command : (old new : State) (kept : Command) (completed : Option Command) → ServesCompleted (Some kept) completed
    → Tries [] (kept ∷ []) old new → Tries [] (option_to_list completed) old new
tries_command old new kept None h tries = absurd h
tries_command old new kept (Some command) h tries = serves_tried old new kept command h tries
