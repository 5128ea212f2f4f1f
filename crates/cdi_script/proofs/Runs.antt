-- Runs of no command, of one, and one behind another.
use Rattle.cdi_script.proofs.Common.{◌≡◌, List, [], ◌∷◌, ◌++◌, refl, subst, ap, sym, ◌∙◌, false, Bool, ◌||◌, append-nil, Command, State}
use Rattle.cdi_script.proofs.Common.{text_of_step, is_refused, RunnerOn, Runs, RunsStep, arith}
use Rattle.std.proofs.Math.Bool.{or-false}
use Rattle.cdi_container.specs.History.{History, LegalHistory}

pub cc_append : {A : Type 0} (a b c d : List A) → a ≡ b → c ≡ d → a ++ c ≡ b ++ d
cc_append a b c d e f = cc

pub cc_or : (a b c d : Bool) → a ≡ b → c ≡ d → (a || c) ≡ (b || d)
cc_or a b c d e f = cc

pub LegalHistory-append : (a b c : State) (h k : History) → LegalHistory a h b → LegalHistory b k c → LegalHistory a (h ++ k) c
LegalHistory-append a b c [] k first second = subst (λ n. LegalHistory n k c) first second
LegalHistory-append a b c (step ∷ h) k first second = (first.0, first.1, LegalHistory-append first.0 b c h k first.2 second)

pub runs_none : (r : RunnerOn) → Runs r r []
runs_none r = grind (arith, r.out, r.refused, append-nil, or-false)

pub runs_one : (old new : RunnerOn) (command : Command) → RunsStep old new command → Runs old new (command ∷ [])
runs_one old new command r = record {
  history = r.step ∷ [];
  commands_are = ap (λ c. c ∷ []) r.command_is;
  memory = ap (λ b. b || false) r.memory;
  legal = (new.container, r.legal, refl);
  text = r.text ∙ ap (λ l. old.out ++ l) (sym (append-nil (text_of_step old.quiet r.step)));
  refused = r.refused ∙ ap (λ b. old.refused || b) (sym (or-false (is_refused r.step.answer)));
  quiet = r.quiet;
}
