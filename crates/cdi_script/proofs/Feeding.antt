-- What an intake has printed and sent as it takes bytes.
use Rattle.cdi_script.proofs.Common.{◌≡◌, ℕ, List, [], ◌∷◌, ◌++◌, refl, ap, sym, ◌∙◌, subst, take, drop, inl, Option, append_assoc, ◌||◌}
use Rattle.cdi_script.proofs.Common.{Appends, append-nil, map-append, take-append-drop, ended_from, begun_from, last_line, Command, Mode}
use Rattle.cdi_script.proofs.Common.{outside, commands_of_line, commands_of_lines, mode_of_lines, complete_commands, commands, unclosed}
use Rattle.cdi_script.proofs.Common.{AreFirst, State, text_of_step, is_refused, RunnerOn, runner_on, Runs, Tries, IntakeOn, intake_on}
use Rattle.cdi_script.proofs.Common.{Advances, EndsLastLine, EndsMode, TriesBytes, TriesLastLine, Setting, WroteAll, Feeds}
use Rattle.cdi_script.proofs.Common.{FeedsBeforeMemory, FeedsPart, EndsBeforeMemory, EndsPart, SettlesPart, Runner, Intake, arith}
use Rattle.std.specs.List.{list_any}
use Rattle.std.proofs.lemmas.{List.Folds.list_any-append, Grind.flat_map-append}
use Rattle.cdi_devices.specs.declared.counted.Counted.{Counted}
use Rattle.cdi_devices.proofs.Known.{Appends-more}
use Rattle.cdi_lines.specs.Lines.{ended_lines, begun_line}
use Rattle.cdi_script.proofs.{Runs.LegalHistory-append, Runs.cc_append, Runs.cc_or, Trying.tries_among, Trying.tries_behind}
use Rattle.cdi_script.specs.Run.{WrotePart, WroteAllBut, WrotePartBut, Printed, Stands, Sends, SendsPart, SendsLast, RunsWhole, Ends}
use Rattle.cdi_script.specs.Run.{contents_of, Settles}
use Rattle.cdi_script.specs.{Commands.mode_after, Commands.mode_of, Text.text_of, Text.is_out_of_memory, Intake.Keeps, Intake.TriesMode}

pub begun_from-append : (b xs ys : List ℕ) → begun_from b (xs ++ ys) ≡ begun_from (begun_from b xs) ys
begun_from-append b [] ys = refl
begun_from-append b (x ∷ xs) ys = grind (arith, begun_from-append [] xs ys, begun_from-append (b ++ x ∷ []) xs ys)

pub ended_from-append : (b xs ys : List ℕ) → ended_from b (xs ++ ys) ≡ ended_from b xs ++ ended_from (begun_from b xs) ys
ended_from-append b [] ys = refl
ended_from-append b (x ∷ xs) ys = grind (arith, ended_from-append [] xs ys, ended_from-append (b ++ x ∷ []) xs ys)

pub commands_of_lines-append : (mode : Mode) (ls ms : List (List ℕ))
    → commands_of_lines mode (ls ++ ms) ≡ commands_of_lines mode ls ++ commands_of_lines (mode_of_lines mode ls) ms
commands_of_lines-append mode [] ms = refl
commands_of_lines-append mode (l ∷ ls) ms = ap (λ r. commands_of_line mode l ++ r) (commands_of_lines-append (mode_after mode l) ls ms)
    ∙ sym (append_assoc (commands_of_line mode l) _ _)

pub mode_of_lines-append : (mode : Mode) (ls ms : List (List ℕ)) → mode_of_lines mode (ls ++ ms) ≡ mode_of_lines (mode_of_lines mode ls) ms
mode_of_lines-append mode [] ms = refl
mode_of_lines-append mode (l ∷ ls) ms = mode_of_lines-append (mode_after mode l) ls ms

pub complete_commands-append : (given bytes : List ℕ)
    → complete_commands (given ++ bytes) ≡ complete_commands given
    ++ commands_of_lines (mode_of given) (ended_from (begun_line given) bytes)
complete_commands-append given bytes = ap (commands_of_lines outside) (ended_from-append [] given bytes)
    ∙ commands_of_lines-append outside (ended_lines given) (ended_from (begun_line given) bytes)

-- the commands that some bytes completed are the first of those that they and further bytes complete
pub first_complete : (done more : List ℕ) → AreFirst (complete_commands done) (complete_commands (done ++ more))
first_complete done more = (commands_of_lines (mode_of done) (ended_from (begun_line done) more), complete_commands-append done more)

pub mode_of-append : (given bytes : List ℕ) → mode_of (given ++ bytes) ≡ mode_of_lines (mode_of given) (ended_from (begun_line given) bytes)
mode_of-append given bytes = ap (mode_of_lines outside) (ended_from-append [] given bytes)
    ∙ mode_of_lines-append outside (ended_lines given) (ended_from (begun_line given) bytes)

pub printed_runs : (setting : Setting) (start now : Option (List ℕ)) (r s : RunnerOn) (cs ds : List Command)
    → Printed setting start now r cs
    → Runs r s ds → Printed setting start now s (cs ++ ds)
printed_runs setting start now r s cs ds p q = record {
  history = p.history ++ q.history;
  is_history = record {
    legal = LegalHistory-append _ _ _ p.history q.history p.is_history.legal q.legal;
    commands_are = map-append (λ step. step.command) p.history q.history ∙ cc_append _ _ _ _ p.is_history.commands_are q.commands_are;
    memory = list_any-append (λ step. is_out_of_memory step.answer) p.history q.history ∙ cc_or _ _ _ _ p.is_history.memory q.memory;
  };
  sent = p.sent;
  text = flat_map-append (text_of_step setting.quiet) p.history q.history
      ∙ cc_append _ _ _ _ p.text (ap (λ k. text_of k q.history) (sym p.quiet_is))
      ∙ append_assoc p.sent r.out (text_of r.quiet q.history) ∙ ap (λ l. p.sent ++ l) (sym q.text);
  written = p.written;
  refused_is = q.refused ∙ ap (λ k. k || list_any (λ step. is_refused step.answer) q.history) p.refused_is
      ∙ sym (list_any-append (λ step. is_refused step.answer) p.history q.history);
  quiet_is = q.quiet ∙ p.quiet_is;
}

pub stands_advances : (setting : Setting) (start now : Option (List ℕ)) (s t : IntakeOn) (given bytes : List ℕ)
    → Stands setting start now s given
    → Advances s t bytes → Stands setting start now t (given ++ bytes)
stands_advances setting start now s t given bytes h a =
    grind (arith, h.printed, a.runs, h.keeps, a.keeps, complete_commands-append, printed_runs, mode_of-append, begun_from-append)

pub printed_all : (setting : Setting) (start now then : Option (List ℕ)) (r : RunnerOn) (cs : List Command) (out : List ℕ)
    → Printed setting start now r cs → out ≡ r.out → Appends now then out → WroteAll setting start then cs r.container
printed_all setting start now then r cs out p is a = record {
  history = p.history;
  is_history = p.is_history;
  written = subst (λ t. Appends start then t) (ap (λ l. p.sent ++ l) is ∙ sym p.text) (Appends-more start now then p.sent out p.written a);
}

pub printed_part : (setting : Setting) (start now then : Option (List ℕ)) (r : RunnerOn) (cs : List Command)
    (part rest : List ℕ)
    → Printed setting start now r cs → part ++ rest ≡ r.out → Appends now then part
    → WrotePart setting start then cs r.container
printed_part setting start now then r cs part rest p is a = grind (arith, p.history, p.is_history, p.sent, p.text, p.written, append_assoc)

pub wrote_part_but_more : (setting : Setting) (start now : Option (List ℕ)) (first all more : List Command) (left : State)
    → AreFirst all more
    → WrotePartBut setting start now first all left → WrotePartBut setting start now first more left
wrote_part_but_more setting start now first all more left m h = record {
  state = h.state;
  wrote = h.wrote;
  tries = tries_among first all more h.state left m h.tries;
}

-- the lines that further bytes complete come after those that were complete
pub tries_further : (s t : IntakeOn) (given bytes : List ℕ) → Keeps s (mode_of given) (begun_line given)
    → TriesBytes s t bytes
    → Tries (complete_commands given) (complete_commands (given ++ bytes)) s.runner.container t.runner.container
tries_further s t given bytes k h =
    subst (λ l. Tries (complete_commands given) l s.runner.container t.runner.container) (sym (complete_commands-append given bytes))
    (tries_behind (complete_commands given) (commands_of_lines (mode_of given) (ended_from (begun_line given) bytes))
    s.runner.container t.runner.container (h _ _ k))

keeps_same : (s t : IntakeOn) → t.line ≡ s.line → t.mode ≡ s.mode → (mode : Mode) (line : List ℕ) → Keeps s mode line
    → Keeps t mode line
keeps_same s t line mode b l k = grind (arith, k.line_serves, k.mode_serves)

module _ {W : Type 0} (contents : W → Option (List ℕ)) where
  pub printed_sent : (setting : Setting) (start : Option (List ℕ)) (r s : Runner) (state : State) (before after : Counted W)
      (cs : List Command)
      → Printed setting start (contents_of contents before) (runner_on r state) cs → Sends contents r s before after
      → Printed setting start (contents_of contents after) (runner_on s state) cs
  printed_sent setting start r s state before after cs p q = record {
    history = p.history;
    is_history = p.is_history;
    sent = p.sent ++ r.out.items;
    text = p.text ∙ sym (ap (λ l. (p.sent ++ r.out.items) ++ l) q.out ∙ append-nil (p.sent ++ r.out.items));
    written = Appends-more start _ _ p.sent r.out.items p.written q.written;
    refused_is = q.refused ∙ p.refused_is;
    quiet_is = q.quiet ∙ p.quiet_is;
  }

  pub feeds_none : (s : IntakeOn) (w : Counted W) → Feeds contents s s w w []
  feeds_none s w setting start given h = subst (Stands setting start (contents_of contents w) s) (sym (append-nil given)) h

  pub feeds_last : (old mid new : IntakeOn) (r : Runner) (before between after : Counted W) (done bytes : List ℕ)
      → Feeds contents old mid before between done → r.out.items ≡ mid.runner.out → TriesBytes mid new bytes
      → SendsLast contents r between after
      → (setting : Setting) (start : Option (List ℕ)) (given : List ℕ) → Stands setting start (contents_of contents before) old given
      → WroteAllBut setting start (contents_of contents after) (complete_commands (given ++ done))
      (complete_commands ((given ++ done) ++ bytes)) new.runner.container
  feeds_last old mid new r before between after done bytes f same t s setting start given h =
      let was = f setting start given h in
      record {
        state = mid.runner.container;
        wrote = printed_all setting start _ _ mid.runner _ r.out.items was.printed same s.written;
        tries = tries_further mid new (given ++ done) bytes was.keeps t;
      }

  pub feeds_part : (old mid new : IntakeOn) (r : Runner) (before between after : Counted W) (done bytes : List ℕ)
      → Feeds contents old mid before between done → r.out.items ≡ mid.runner.out → TriesBytes mid new bytes
      → SendsPart contents r between after
      → (setting : Setting) (start : Option (List ℕ)) (given : List ℕ) → Stands setting start (contents_of contents before) old given
      → WrotePartBut setting start (contents_of contents after) (complete_commands (given ++ done))
      (complete_commands ((given ++ done) ++ bytes)) new.runner.container
  feeds_part old mid new r before between after done bytes f same t s setting start given h =
      let was = f setting start given h in
      record {
        state = mid.runner.container;
        wrote = printed_part setting start _ _ mid.runner _ s.part s.rest was.printed (sym s.out ∙ same) s.written;
        tries = tries_further mid new (given ++ done) bytes was.keeps t;
      }

  pub feeds_more : (a b c : IntakeOn) (before between after : Counted W) (xs ys : List ℕ)
      → Feeds contents a b before between xs
      → Feeds contents b c between after ys → Feeds contents a c before after (xs ++ ys)
  feeds_more a b c before between after xs ys f h setting start given s = subst (Stands setting start (contents_of contents after) c)
      (append_assoc given xs ys) (h setting start (given ++ xs) (f setting start given s))

  pub feeds_memory_more : (a b c : IntakeOn) (before between after : Counted W) (xs ys : List ℕ)
      → Feeds contents a b before between xs
      → FeedsBeforeMemory contents b c between after ys → FeedsBeforeMemory contents a c before after (xs ++ ys)
  feeds_memory_more a b c before between after xs ys f h = (
    xs ++ h.0,
    h.1,
    ap (λ l. xs ++ l) h.2 ∙ sym (append_assoc xs h.0 h.1),
    λ setting start given s.
        let Is : List ℕ → List ℕ → Type 0 = λ done all. WroteAllBut setting start (contents_of contents after) (complete_commands done)
        (complete_commands all) c.runner.container in
        subst (λ done. Is done (given ++ (xs ++ ys))) (append_assoc given xs h.0)
        (subst (Is ((given ++ xs) ++ h.0)) (append_assoc given xs ys) (h.3 setting start (given ++ xs) (f setting start given s))),
  )

  pub feeds_part_more : (a b c : IntakeOn) (before between after : Counted W) (xs ys : List ℕ)
      → Feeds contents a b before between xs
      → FeedsPart contents b c between after ys → FeedsPart contents a c before after (xs ++ ys)
  feeds_part_more a b c before between after xs ys f h = (
    xs ++ h.0,
    h.1,
    ap (λ l. xs ++ l) h.2 ∙ sym (append_assoc xs h.0 h.1),
    λ setting start given s.
        let Is : List ℕ → List ℕ → Type 0 = λ done all. WrotePartBut setting start (contents_of contents after) (complete_commands done)
        (complete_commands all) c.runner.container in
        subst (λ done. Is done (given ++ (xs ++ ys))) (append_assoc given xs h.0)
        (subst (Is ((given ++ xs) ++ h.0)) (append_assoc given xs ys) (h.3 setting start (given ++ xs) (f setting start given s))),
  )

  pub feeds_advance : (old new : IntakeOn) (w : Counted W) (bytes : List ℕ) → Advances old new bytes
      → Feeds contents old new w w bytes
  feeds_advance old new w bytes a setting start given h = stands_advances setting start (contents_of contents w) old new given bytes h a

  -- memory wanted for these bytes
  pub memory_here : (old new : IntakeOn) (r : Runner) (before after : Counted W) (bytes : List ℕ)
      → r.out.items ≡ old.runner.out → TriesBytes old new bytes
      → SendsLast contents r before after → FeedsBeforeMemory contents old new before after bytes
  memory_here old new r before after bytes same t s = (
    [],
    bytes,
    refl,
    λ setting start given h. subst (λ all. WroteAllBut setting start (contents_of contents after) (complete_commands (given ++ []))
        (complete_commands all) new.runner.container) (append_assoc given [] bytes)
        (feeds_last old old new r before before after [] bytes (feeds_none old before) same t s setting start given h),
  )

  pub part_here : (old new : IntakeOn) (r : Runner) (before after : Counted W) (bytes : List ℕ)
      → r.out.items ≡ old.runner.out → TriesBytes old new bytes
      → SendsPart contents r before after → FeedsPart contents old new before after bytes
  part_here old new r before after bytes same t s = (
    [],
    bytes,
    refl,
    λ setting start given h. subst (λ all. WrotePartBut setting start (contents_of contents after) (complete_commands (given ++ []))
        (complete_commands all) new.runner.container) (append_assoc given [] bytes)
        (feeds_part old old new r before before after [] bytes (feeds_none old before) same t s setting start given h),
  )

  pub part_settles : (old new : Intake) (before after : Counted W) → SendsPart contents old.runner before after
      → SettlesPart contents old new before after
  part_settles old new before after s state =
      part_here (intake_on old state) (intake_on new state) old.runner before after [] refl (λ mode line k. inl refl) s

  pub settles : (old new : Intake) (before after : Counted W) → Sends contents old.runner new.runner before after
      → new.line ≡ old.line → new.mode ≡ old.mode → Settles contents old new before after
  settles old new before after s line mode state setting start given h =
      grind (arith, new.runner, old.runner, h.printed, h.keeps, append-nil, printed_sent, keeps_same)

  -- a front part of the first n bytes is one of all
  pub part_in_front : (old new : IntakeOn) (before after : Counted W) (n : ℕ) (bytes : List ℕ)
      → FeedsPart contents old new before after (take n bytes ++ []) → FeedsPart contents old new before after bytes
  part_in_front old new before after n bytes h =
      let whole : bytes ≡ (take n bytes ++ []) ++ drop n bytes =
      sym (take-append-drop n bytes) ∙ ap (λ l. l ++ drop n bytes) (sym (append-nil (take n bytes))) in (
        h.0,
        h.1 ++ drop n bytes,
        whole ∙ ap (λ l. l ++ drop n bytes) h.2 ∙ append_assoc h.0 h.1 (drop n bytes),
        λ setting start given s. wrote_part_but_more setting start (contents_of contents after) (complete_commands (given ++ h.0))
            (complete_commands (given ++ (take n bytes ++ []))) (complete_commands (given ++ bytes)) new.runner.container
            (subst (λ l. AreFirst (complete_commands (given ++ (take n bytes ++ []))) (complete_commands l))
            (append_assoc given (take n bytes ++ []) (drop n bytes) ∙ ap (λ l. given ++ l) (sym whole))
            (first_complete (given ++ (take n bytes ++ [])) (drop n bytes)))
            (h.3 setting start given s),
      )

pub feeds_rest : (done : List ℕ) (n : ℕ) (rest bytes behind : List ℕ) → bytes ≡ done ++ rest → behind ≡ drop n rest
    → bytes ≡ (done ++ take n rest) ++ behind
feeds_rest done n rest bytes behind e f = e ∙ ap (λ l. done ++ l) (sym (take-append-drop n rest) ∙ ap (λ l. take n rest ++ l) (sym f))
    ∙ sym (append_assoc done (take n rest) behind)

pub commands-parts : (given : List ℕ) → commands given
    ≡ (complete_commands given ++ commands_of_lines (mode_of given) (last_line (begun_line given)))
    ++ unclosed (mode_of_lines (mode_of given) (last_line (begun_line given)))
commands-parts given = cc_append _ _ _ _ (commands_of_lines-append outside (ended_lines given) (last_line (begun_line given)))
    (ap unclosed (mode_of_lines-append outside (ended_lines given) (last_line (begun_line given))))

pub printed_whole : (setting : Setting) (start now then : Option (List ℕ)) (r : RunnerOn) (cs : List Command)
    → Printed setting start now r cs
    → Appends now then r.out → RunsWhole setting start then cs r.refused r.container
printed_whole setting start now then r cs p a = record {
  history = p.history;
  is_history = p.is_history;
  written = subst (λ t. Appends start then t) (sym p.text) (Appends-more start now then p.sent r.out p.written a);
  refused_is = p.refused_is;
}

pub printed_last_line : (setting : Setting) (start now : Option (List ℕ)) (s t : IntakeOn) (given : List ℕ)
    → Stands setting start now s given
    → EndsLastLine s t
    → Printed setting start now t.runner (complete_commands given ++ commands_of_lines (mode_of given) (last_line (begun_line given)))
printed_last_line setting start now s t given h e = printed_runs setting start now s.runner t.runner _ _ h.printed (e.runs _ _ h.keeps)

pub printed_end : (setting : Setting) (start now : Option (List ℕ)) (s t u : IntakeOn) (given : List ℕ)
    → Stands setting start now s given
    → EndsLastLine s t → EndsMode t u → Printed setting start now u.runner (commands given)
printed_end setting start now s t u given h e f = subst (Printed setting start now u.runner) (sym (commands-parts given))
    (printed_runs setting start now t.runner u.runner _ _ (printed_last_line setting start now s t given h e) (f _ (e.mode _ _ h.keeps)))

-- the line that the end of input ends comes after those that were complete
tries_ending : (s t : IntakeOn) (given : List ℕ) → Keeps s (mode_of given) (begun_line given) → TriesLastLine s t
    → Tries (complete_commands given) (commands given) s.runner.container t.runner.container
tries_ending s t given k h =
    let line = commands_of_lines (mode_of given) (last_line (begun_line given)) in
    tries_among (complete_commands given) (complete_commands given ++ line) (commands given) s.runner.container t.runner.container
    (unclosed (mode_of_lines (mode_of given) (last_line (begun_line given))), commands-parts given)
    (tries_behind (complete_commands given) line s.runner.container t.runner.container (h _ _ k))

module _ {W : Type 0} (contents : W → Option (List ℕ)) where
  pub ends_whole : (s t : IntakeOn) (u v : Intake) (state : State) (before after : Counted W) → EndsLastLine s t
      → EndsMode t (intake_on u state)
      → Sends contents u.runner v.runner before after → Ends contents s (intake_on v state) before after v.runner.refused
  ends_whole s t u v state before after e f g setting start given h =
      subst (λ b. RunsWhole setting start (contents_of contents after) (commands given) b state) (sym g.refused)
      (printed_whole setting start _ _ (runner_on u.runner state) (commands given)
      (printed_end setting start _ s t (intake_on u state) given h e f) g.written)

  pub ends_part : (s t : IntakeOn) (u v : Intake) (state : State) (before after : Counted W) → EndsLastLine s t
      → EndsMode t (intake_on u state)
      → SendsPart contents u.runner before after → EndsPart contents s (intake_on v state) before after
  ends_part s t u v state before after e f g setting start given h = (
    commands given,
    (_, commands-parts given ∙ append_assoc (complete_commands given) _ _),
    ([], sym (append-nil (commands given))),
    record {
      state = state;
      wrote = printed_part setting start _ _ (runner_on u.runner state) (commands given) g.part g.rest
          (printed_end setting start _ s t (intake_on u state) given h e f) (sym g.out) g.written;
      tries = inl refl;
    },
  )

  -- memory wanted for the last line
  pub last_line_memory : (s t : IntakeOn) (r : Runner) (before after : Counted W) → r.out.items ≡ s.runner.out
      → TriesLastLine s t → SendsLast contents r before after → EndsBeforeMemory contents s t before after
  last_line_memory s t r before after same tries g setting start given h = (
    complete_commands given,
    ([], sym (append-nil (complete_commands given))),
    (_, commands-parts given ∙ append_assoc (complete_commands given) _ _),
    record {
      state = s.runner.container;
      wrote = printed_all setting start _ _ s.runner (complete_commands given) r.out.items h.printed same g.written;
      tries = tries_ending s t given h.keeps tries;
    },
  )

  pub last_line_part : (s t : IntakeOn) (r : Runner) (before after : Counted W) → r.out.items ≡ s.runner.out
      → TriesLastLine s t → SendsPart contents r before after → EndsPart contents s t before after
  last_line_part s t r before after same tries g setting start given h = (
    complete_commands given,
    ([], sym (append-nil (complete_commands given))),
    (_, commands-parts given ∙ append_assoc (complete_commands given) _ _),
    record {
      state = s.runner.container;
      wrote = printed_part setting start _ _ s.runner (complete_commands given) g.part g.rest h.printed (sym g.out ∙ same) g.written;
      tries = tries_ending s t given h.keeps tries;
    },
  )

  -- the refusal of a put block without its end comes last
  tries_unclosed : (s t u : IntakeOn) (given : List ℕ) → Keeps s (mode_of given) (begun_line given) → EndsLastLine s t
      → TriesMode t u
      → Tries (complete_commands given ++ commands_of_lines (mode_of given) (last_line (begun_line given))) (commands given)
      t.runner.container u.runner.container
  tries_unclosed s t u given k e tries =
      let front = complete_commands given ++ commands_of_lines (mode_of given) (last_line (begun_line given)) in
      let mode = mode_of_lines (mode_of given) (last_line (begun_line given)) in
      subst (λ all. Tries front all t.runner.container u.runner.container) (sym (commands-parts given))
      (tries_behind front (unclosed mode) t.runner.container u.runner.container (tries mode (e.mode _ _ k)))

  -- memory wanted for that refusal
  pub end_memory : (s t u : IntakeOn) (r : Runner) (before after : Counted W) → EndsLastLine s t
      → r.out.items ≡ t.runner.out → TriesMode t u
      → SendsLast contents r before after → EndsBeforeMemory contents s u before after
  end_memory s t u r before after e same tries g setting start given h = (
    complete_commands given ++ commands_of_lines (mode_of given) (last_line (begun_line given)),
    (_, refl),
    (_, commands-parts given),
    record {
      state = t.runner.container;
      wrote = printed_all setting start _ _ t.runner _ r.out.items (printed_last_line setting start _ s t given h e) same g.written;
      tries = tries_unclosed s t u given h.keeps e tries;
    },
  )

  pub end_part : (s t u : IntakeOn) (r : Runner) (before after : Counted W) → EndsLastLine s t
      → r.out.items ≡ t.runner.out → TriesMode t u
      → SendsPart contents r before after → EndsPart contents s u before after
  end_part s t u r before after e same tries g setting start given h = (
    complete_commands given ++ commands_of_lines (mode_of given) (last_line (begun_line given)),
    (_, refl),
    (_, commands-parts given),
    record {
      state = t.runner.container;
      wrote = printed_part setting start _ _ t.runner _ g.part g.rest (printed_last_line setting start _ s t given h e) (sym g.out ∙ same)
          g.written;
      tries = tries_unclosed s t u given h.keeps e tries;
    },
  )
