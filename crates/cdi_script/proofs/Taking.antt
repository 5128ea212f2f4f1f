-- Taking lines.
use Rattle.cdi_script.proofs.Common.{◌≡◌, ℕ, List, [], ◌∷◌, ◌++◌, refl, ap, sym, ◌∙◌, subst, append_assoc, Option, Some, None, append-nil}
use Rattle.cdi_script.proofs.Common.{feed, Command, Unreadable, NoFeed, ended_from, begun_from, last_line, ServesLine, Mode}
use Rattle.cdi_script.proofs.Common.{commands_of_line, commands_of_lines, mode_of_lines, taken, unclosed, ServesMode, ServesTaken, Runs}
use Rattle.cdi_script.proofs.Common.{RunsStep, Tries, IntakeOn, Advances, EndsLastLine, EndsMode, TriesBytes, TriesLastLine, arith}
use Rattle.cdi_script.proofs.{Runs.runs_none, Runs.runs_one, Alike.runs_no_command, Alike.runs_command, Alike.tries_command}
use Rattle.cdi_script.proofs.{Trying.tries_among, Feeding.ended_from-append, Feeding.commands_of_lines-append}
use Rattle.cdi_script.proofs.Serving.{serves_serving, serves_more, serves_itself, serves_started}
use Rattle.cdi_script.proofs.Open.{serves_taken, serves_serving_taken, serves_unclosed}
use Rattle.cdi_script.specs.Intake.{TakesLine, Tried, TriesLine}

-- what was done with a line serves for all that it stands for
all_of : (kept : List ℕ) (old new mode : Mode) (command : Option Command) (line : List ℕ) → ServesTaken command new (taken old kept)
    → ServesMode old mode → ServesLine kept line → ServesTaken command new (taken mode line)
all_of kept old new mode command line h sm sl =
    serves_serving_taken command new (taken old kept) (taken mode line) h (serves_taken old mode kept line sm sl)

-- a line that completes no command was taken
pub takes_none : (old new : IntakeOn) (kept : List ℕ) → new.line ≡ old.line → new.runner ≡ old.runner
    → ServesTaken None new.mode (taken old.mode kept) → TakesLine old new kept
takes_none old new kept line same h = record {
  line = line;
  runs = λ mode whole sm sl. subst (λ r. Runs old.runner r (commands_of_line mode whole)) (sym same)
      (runs_no_command old.runner (taken mode whole).command (all_of kept old.mode new.mode mode None whole h sm sl).command);
  mode = λ mode whole sm sl. (all_of kept old.mode new.mode mode None whole h sm sl).mode;
}

-- a line was taken, and the command that it completes carried out
pub takes_some : (old new : IntakeOn) (kept : List ℕ) (command : Command) → new.line ≡ old.line
    → ServesTaken (Some command) new.mode (taken old.mode kept) → RunsStep old.runner new.runner command → TakesLine old new kept
takes_some old new kept command line h step = record {
  line = line;
  runs = λ mode whole sm sl. runs_command old.runner new.runner command (taken mode whole).command
      (all_of kept old.mode new.mode mode (Some command) whole h sm sl).command step;
  mode = λ mode whole sm sl. (all_of kept old.mode new.mode mode (Some command) whole h sm sl).mode;
}

-- ---- bytes

pub ended_from-no_feed : (begun xs : List ℕ) → NoFeed xs → ended_from begun xs ≡ []
ended_from-no_feed begun [] h = refl
ended_from-no_feed begun (x ∷ xs) h = rw h.0 (ended_from-no_feed (begun ++ x ∷ []) xs h.1)

pub begun_from-no_feed : (begun xs : List ℕ) → NoFeed xs → begun_from begun xs ≡ begun ++ xs
begun_from-no_feed begun [] h = sym (append-nil begun)
begun_from-no_feed begun (x ∷ xs) h = rw h.0 (begun_from-no_feed (begun ++ x ∷ []) xs h.1 ∙ append_assoc begun (x ∷ []) xs)

pub ended_from-feed : (begun xs : List ℕ) → NoFeed xs → ended_from begun (xs ++ feed ∷ []) ≡ (begun ++ xs) ∷ []
ended_from-feed begun [] h = ap (λ l. l ∷ []) (sym (append-nil begun))
ended_from-feed begun (x ∷ xs) h = rw h.0 (ended_from-feed (begun ++ x ∷ []) xs h.1 ∙ ap (λ l. l ∷ []) (append_assoc begun (x ∷ []) xs))

pub begun_from-feed : (begun xs : List ℕ) → NoFeed xs → begun_from begun (xs ++ feed ∷ []) ≡ []
begun_from-feed begun [] h = refl
begun_from-feed begun (x ∷ xs) h = rw h.0 (begun_from-feed (begun ++ x ∷ []) xs h.1)

pub begins : (old new : IntakeOn) (piece : List ℕ) → NoFeed piece → ServesLine new.line (old.line ++ piece)
    → new.runner ≡ old.runner
    → new.mode ≡ old.mode → Advances old new piece
begins old new piece no_feed kept same stays =
    grind (arith, old.runner, new.line, old.line, ended_from-no_feed, runs_none, begun_from-no_feed, serves_serving, serves_more)

pub ends : (old mid new : IntakeOn) (piece kept : List ℕ) → NoFeed piece → ServesLine kept (old.line ++ piece)
    → mid.runner ≡ old.runner
    → mid.mode ≡ old.mode → mid.line ≡ []
    → TakesLine mid new kept → Advances old new (piece ++ feed ∷ [])
ends old mid new piece kept no_feed is same stays none h =
    grind (arith, h.runs, h.line, h.mode, serves_serving, serves_more, ended_from-feed, append-nil, begun_from-feed, serves_itself)

last_of : (line : List ℕ) → (line ≡ [] → ⊥) → last_line line ≡ ended_from line (feed ∷ [])
last_of [] h = absurd (h refl)
last_of (b ∷ bs) h = refl

pub ends_last : (old new : IntakeOn) → (old.line ≡ [] → ⊥) → Advances old new (feed ∷ []) → EndsLastLine old new
ends_last old new some h = record {
  runs = λ mode line k. rw (last_of line (serves_started old.line line k.line_serves some)) (h.runs mode line k);
  mode = λ mode line k. rw (last_of line (serves_started old.line line k.line_serves some)) ((h.keeps mode line k).mode_serves);
}

-- what is open was refused
pub refuses_open : (old new : IntakeOn) → unclosed old.mode ≡ Unreadable ∷ [] → RunsStep old.runner new.runner Unreadable
    → EndsMode old new
refuses_open old new is step mode sm = subst (Runs old.runner new.runner) (sym is ∙ serves_unclosed old.mode mode sm)
    (runs_one old.runner new.runner Unreadable step)

-- ---- what was carried out where memory was wanted

-- the command that a line completes
pub tries_some : (old new : IntakeOn) (left : Mode) (kept : List ℕ) (command : Command)
    → ServesTaken (Some command) left (taken old.mode kept) → Tried old new (command ∷ []) → TriesLine old new kept
tries_some old new left kept command h tries mode whole sm sl =
    tries_command old.runner.container new.runner.container command (taken mode whole).command
    (all_of kept old.mode left mode (Some command) whole h sm sl).command tries

-- the line that a line feed ends
pub tries_end : (old mid new : IntakeOn) (piece kept : List ℕ) → NoFeed piece → ServesLine kept (old.line ++ piece)
    → mid.runner ≡ old.runner → mid.mode ≡ old.mode
    → TriesLine mid new kept → TriesBytes old new (piece ++ feed ∷ [])
tries_end old mid new piece kept no_feed is same stays h mode line k =
    let sm : ServesMode mid.mode mode = subst (λ m. ServesMode m mode) (sym stays) k.mode_serves in
    let sl : ServesLine kept (line ++ piece) = serves_serving kept (old.line ++ piece) (line ++ piece) is
    (serves_more old.line line piece k.line_serves) in
    rw (ended_from-feed line piece no_feed, append-nil (commands_of_line mode (line ++ piece)))
    (subst (λ r. Tries [] (commands_of_line mode (line ++ piece)) r.container new.runner.container) same (h mode (line ++ piece) sm sl))

-- the last line
pub tries_last : (old new : IntakeOn) → (old.line ≡ [] → ⊥) → TriesBytes old new (feed ∷ []) → TriesLastLine old new
tries_last old new some h mode line k = rw (last_of line (serves_started old.line line k.line_serves some)) (h mode line k)

-- a part of the bytes
pub tries_more_bytes : (old new : IntakeOn) (front behind bytes : List ℕ) → bytes ≡ front ++ behind
    → TriesBytes old new front → TriesBytes old new bytes
tries_more_bytes old new front behind bytes e h mode line k =
    tries_among [] (commands_of_lines mode (ended_from line front)) (commands_of_lines mode (ended_from line bytes))
    old.runner.container new.runner.container (
      commands_of_lines (mode_of_lines mode (ended_from line front)) (ended_from (begun_from line front) behind),
      ap (λ l. commands_of_lines mode (ended_from line l)) e
          ∙ ap (commands_of_lines mode) (ended_from-append line front behind)
          ∙ commands_of_lines-append mode (ended_from line front) (ended_from (begun_from line front) behind),
    )
    (h mode line k)
