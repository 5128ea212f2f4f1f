-- A run from one read to the next, and how it ends.
use Rattle.cdi_script.proofs.Common.{◌≡◌, ℕ, List, [], ◌∷◌, ◌++◌, take, refl, ap, sym, ◌∙◌, subst, Option, Some, None, length, true, false}
use Rattle.cdi_script.proofs.Common.{inl, inr, append_assoc, arith, Bool, Err, ◌<◌, ◌≤◌, Appends, append-nil, length-append, Command}
use Rattle.cdi_script.proofs.Common.{outside, complete_commands, commands, AreFirst, bytes_of, has_failed, ServesLine, names_of, State}
use Rattle.cdi_script.proofs.Common.{Tries, ServesMode, IntakeOn, intake_on, Setting, WroteAll, RunsOutOfMemoryTo, FailsToWriteTo, Goes}
use Rattle.cdi_script.proofs.Common.{Feeds, FeedsBeforeMemory, FeedsPart, EndsBeforeMemory, EndsPart, Intake}
use Rattle.std.specs.Prelude.{◌&&◌, not, alloc_error}
use Rattle.std.proofs.lemmas.{Bool.false≢true, Bool.true≢false, List.length-take}
use Rattle.std.specs.Io.KnownBytes.{Consumes}
use Rattle.cdi_devices.specs.{Counted.inner_of, Counted.is_flushed, Counted.is_settled, Devices.Gives, declared.counted.Counted.Counted}
use Rattle.cdi_devices.proofs.Known.{Consumes-more}
use Rattle.cdi_container.specs.History.{Unserved, runs as is_run}
use Rattle.cdi_script.proofs.{Feeding.first_complete, Serving.serves_itself}
use Rattle.cdi_script.specs.{Intake.IsFresh, Run.AnswersFirst, Run.Leaves}

Appends-none : (known : Option (List ℕ)) → Appends known known []
Appends-none None = tt
Appends-none (Some xs) = sym (append-nil xs)

Consumes-none : (known : Option (List ℕ)) → Consumes known known []
Consumes-none None = tt
Consumes-none (Some xs) = refl

-- nothing was run
pub wrote_nothing : (setting : Setting) (known : Option (List ℕ)) → WroteAll setting known known [] setting.begun
wrote_nothing setting known = record {
  history = [];
  is_history = record { legal = refl; commands_are = refl; memory = refl };
  written = Appends-none known;
}

-- a command that is no run and found no memory may have evaluated nothing
none_below : (j : ℕ) → j < 0 → ⊥
none_below j below = absurd (omega (arith, below))

nothing_served : (state : State) (command : Command) → is_run command ≡ false → Unserved state command state
nothing_served state command is = record {
  left = state;
  asks = record { some = []; among = refl; apart = λ i j d lt below. absurd (none_below j below); are = refl };
  rest = rw is refl;
}

-- and has changed nothing
left_unread : (command : Command) (rest first all : List Command) (state : State) → all ≡ first ++ command ∷ rest
    → (run : Bool) → is_run command ≡ run → Leaves first all state state
left_unread command rest first all state cut true is =
    inr (inl (command, (rest, cut ∙ sym (append_assoc first (command ∷ []) rest)), is, refl))
left_unread command rest first all state cut false is = inl (
  record { command = command; answer = Err alloc_error; trace = []; names = names_of state.decls },
  (rest, cut ∙ sym (append_assoc first (command ∷ []) rest)),
  record { answered = nothing_served state command is; trace = refl; names = refl },
)

left_as_it_was : (later first all : List Command) (state : State) → all ≡ first ++ later → Leaves first all state state
left_as_it_was [] first all state cut = inr (inr (sym (cut ∙ append-nil first), refl))
left_as_it_was (command ∷ rest) first all state cut = left_unread command rest first all state cut (is_run command) refl

-- what is left where at most one command more was carried out
left_after : (first all : List Command) (state left : State) → AreFirst first all → Tries first all state left
    → Leaves first all state left
left_after first all state left later (inl same) =
    subst (Leaves first all state) (sym same) (left_as_it_was later.0 first all state later.1)
left_after first all state left later (inr step) = inl step

-- behind a flush, and behind no error, a note stays as it is
behind_flush : (noted flushed failed : Bool) → flushed ≡ true → failed ≡ false → (noted && flushed && not failed) ≡ noted
behind_flush noted flushed failed is still = grind (arith, true≢false, false≢true)

module _ {R W : Type 0} (remaining : R → Option (List ℕ)) (contents : W → Option (List ℕ)) (limit piece : ℕ)
    (setting : Setting) (r0 : Counted R) (w0 : Counted W) where
  pub goes_first : (s : Intake) → IsFresh s → s.runner.quiet ≡ setting.quiet
      → bytes_of r0 ≡ 0
      → has_failed r0 ≡ false → has_failed w0 ≡ false
      → is_flushed w0 ≡ true → Goes remaining contents limit setting r0 w0 r0 w0 (intake_on s setting.begun)
  goes_first s f quiet_is count r_ok w_ok flushed = record {
    given = [];
    came = Consumes-none _;
    stands = record {
      printed = record {
        history = [];
        is_history = record { legal = refl; commands_are = refl; memory = refl };
        sent = [];
        text = sym f.out;
        written = Appends-none _;
        refused_is = f.refused;
        quiet_is = quiet_is;
      };
      keeps = record {
        line_serves = subst (λ l. ServesLine l []) (sym f.line) (serves_itself []);
        mode_serves = subst (λ m. ServesMode m outside) (sym f.mode) (record { batch = tt; text = tt });
      };
    };
    out = f.out;
    count = count;
    within = omega arith;
    reader_still = r_ok;
    writer_still = w_ok;
    flushed = flushed;
    settled = refl;
  }

  -- a read that comes then is behind a flush, and behind no read that failed
  pub stays_settled : (r r' : Counted R) (w : Counted W) (s : IntakeOn) → Goes remaining contents limit setting r0 w0 r w s
      → is_settled r' ≡ (is_settled r && is_flushed w && not (has_failed r)) → is_settled r' ≡ is_settled r0
  stays_settled r r' w s h noted = noted ∙ behind_flush (is_settled r) (is_flushed w) (has_failed r) h.flushed h.reader_still ∙ h.settled

  pub goes_on : (r r' : Counted R) (w w' : Counted W) (s s' : IntakeOn) (n : ℕ) (buffer : List ℕ)
      → Goes remaining contents limit setting r0 w0 r w s → Gives remaining limit r r' n buffer
      → Feeds contents s s' w w' (take n buffer) → has_failed w' ≡ has_failed w → is_flushed w' ≡ true → s'.runner.out ≡ []
      → is_settled r' ≡ (is_settled r && is_flushed w && not (has_failed r)) → Goes remaining contents limit setting r0 w0 r' w' s'
  goes_on r r' w w' s s' n buffer h g f still flushed out noted = record {
    given = h.given ++ take n buffer;
    came = Consumes-more _ _ _ h.given (take n buffer) h.came g.bytes;
    stands = f setting (contents (inner_of w0)) h.given h.stands;
    out = out;
    count = let e = h.count in let f = g.count in let b = g.bound in omega
        (arith, length-append h.given (take n buffer), length-take n buffer);
    within = g.within;
    reader_still = g.still ∙ h.reader_still;
    writer_still = still ∙ h.writer_still;
    flushed = flushed;
    settled = stays_settled r r' w s h noted;
  }

  module _ (r r' : Counted R) (w w' : Counted W) (s t : IntakeOn) (h : Goes remaining contents limit setting r0 w0 r w s)
      (n : ℕ) (buffer : List ℕ) (g : Gives remaining limit r r' n buffer) where
    came : Consumes (remaining (inner_of r0)) (remaining (inner_of r')) (h.given ++ take n buffer)
    came = Consumes-more _ _ _ h.given (take n buffer) h.came g.bytes

    count : bytes_of r' ≡ length (h.given ++ take n buffer)
    count = let e = h.count in let f = g.count in let b = g.bound in omega
        (arith, length-append h.given (take n buffer), length-take n buffer)

    none_came : n ≡ 0 → h.given ++ take n buffer ≡ h.given
    none_came none = ap (λ k. h.given ++ take k buffer) none ∙ append-nil h.given

    -- at the end these commands were answered, all that were complete before among them
    at_end : n ≡ 0 → (first : List Command) → AreFirst (complete_commands h.given) first → AreFirst first (commands h.given)
        → AnswersFirst remaining limit piece r0 r' first (commands h.given)
    at_end none first before within = record {
      given = h.given;
      last = [];
      came = subst (λ l. Consumes (remaining (inner_of r0)) (remaining (inner_of r')) l) (none_came none ∙ sym (append-nil h.given)) came;
      count = count ∙ ap length (none_came none ∙ sym (append-nil h.given));
      within = let a = h.count in let b = h.within in omega (arith, length-append h.given []);
      last_read = omega arith;
      all_before = before;
      among = within;
      complete = inr (g.end none, ap commands (sym (append-nil h.given)));
    }

    pub ends_in_memory : n ≡ 0 → EndsBeforeMemory contents s t w w'
        → RunsOutOfMemoryTo remaining contents limit piece setting r0 r' w0 w' t.runner.container
    ends_in_memory none e =
        let end = e setting (contents (inner_of w0)) h.given h.stands in
        record {
          first = end.0;
          all = commands h.given;
          state = end.3.state;
          answers = at_end none end.0 end.1 end.2;
          wrote = end.3.wrote;
          leaves = left_after end.0 (commands h.given) end.3.state t.runner.container end.2 end.3.tries;
        }

    pub ends_in_write : n ≡ 0 → EndsPart contents s t w w'
        → FailsToWriteTo remaining contents limit piece setting r0 r' w0 w' t.runner.container
    ends_in_write none e =
        let end = e setting (contents (inner_of w0)) h.given h.stands in
        record {
          first = end.0;
          all = commands h.given;
          state = end.3.state;
          answers = at_end none end.0 end.1 end.2;
          wrote = end.3.wrote;
          leaves = left_after end.0 (commands h.given) end.3.state t.runner.container end.2 end.3.tries;
        }

    module _ (room : length buffer ≤ piece) where
      -- what a front part of the last bytes completed was answered
      among_so_far : (done rest : List ℕ) → take n buffer ≡ done ++ rest
          → AreFirst (complete_commands (h.given ++ done)) (complete_commands (h.given ++ take n buffer))
      among_so_far done rest cut = subst (λ l. AreFirst (complete_commands (h.given ++ done)) (complete_commands l))
          (append_assoc h.given done rest ∙ ap (λ l. h.given ++ l) (sym cut)) (first_complete (h.given ++ done) rest)

      answered_so_far : (done rest : List ℕ) → take n buffer ≡ done ++ rest → AnswersFirst remaining limit piece r0 r'
          (complete_commands (h.given ++ done)) (complete_commands (h.given ++ take n buffer))
      answered_so_far done rest cut = record {
        given = h.given;
        last = take n buffer;
        came = came;
        count = count;
        within = let a = count in let b = g.within in omega arith;
        last_read = let b = g.bound in omega (arith, length-take n buffer);
        all_before = first_complete h.given done;
        among = among_so_far done rest cut;
        complete = inl refl;
      }

      pub feeds_to_memory : FeedsBeforeMemory contents s t w w' (take n buffer)
          → RunsOutOfMemoryTo remaining contents limit piece setting r0 r' w0 w' t.runner.container
      feeds_to_memory e =
          let but = e.3 setting (contents (inner_of w0)) h.given h.stands in
          record {
            first = complete_commands (h.given ++ e.0);
            all = complete_commands (h.given ++ take n buffer);
            state = but.state;
            answers = answered_so_far e.0 e.1 e.2;
            wrote = but.wrote;
            leaves = left_after (complete_commands (h.given ++ e.0)) (complete_commands (h.given ++ take n buffer)) but.state
                t.runner.container (among_so_far e.0 e.1 e.2) but.tries;
          }

      pub feeds_to_write : FeedsPart contents s t w w' (take n buffer)
          → FailsToWriteTo remaining contents limit piece setting r0 r' w0 w' t.runner.container
      feeds_to_write e =
          let but = e.3 setting (contents (inner_of w0)) h.given h.stands in
          record {
            first = complete_commands (h.given ++ e.0);
            all = complete_commands (h.given ++ take n buffer);
            state = but.state;
            answers = answered_so_far e.0 e.1 e.2;
            wrote = but.wrote;
            leaves = left_after (complete_commands (h.given ++ e.0)) (complete_commands (h.given ++ take n buffer)) but.state
                t.runner.container (among_so_far e.0 e.1 e.2) but.tries;
          }

  -- want of memory before anything was read
  pub out_of_memory_first : bytes_of r0 ≡ 0 → RunsOutOfMemoryTo remaining contents limit piece setting r0 r0 w0 w0 setting.begun
  out_of_memory_first none = record {
    first = [];
    all = [];
    state = setting.begun;
    answers = record {
      given = [];
      last = [];
      came = Consumes-none _;
      count = none;
      within = omega arith;
      last_read = omega arith;
      all_before = ([], refl);
      among = ([], refl);
      complete = inl refl;
    };
    wrote = wrote_nothing setting _;
    leaves = inr (inr (refl, refl));
  }
