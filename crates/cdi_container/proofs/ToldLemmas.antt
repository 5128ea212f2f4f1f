-- The state behind a legal history is told by what was commanded, answered and traced.
use Rattle.cdi_container.proofs.Common.{◌≡◌, ℕ, List, Bool, true, refl, subst, sym, Result, Ok, Err, if◌then◌else◌, [], ◌∷◌, ap, ◌∙◌}
use Rattle.cdi_container.proofs.Common.{list_all, and_parts, false≢true, Key, AllocError, Names, State, emptied, Given, changes_of}
use Rattle.cdi_container.proofs.Common.{changes_of_all, Entry, names_of, closed, Done, Command, Batch, Chain, LookUp, Call, Fire}
use Rattle.cdi_container.proofs.Common.{EndRequest, Stop, Unreadable, Answer, Chosen, Intercepted, Observed, Reported, Counted, Worked}
use Rattle.cdi_container.proofs.Common.{Refused, History, Acts, EditsFrom, LegalAnswer, LegalHistory, trace_behind, arith, Edit}
use Rattle.cdi_model.specs.declared.edit.Edit.{Edit as Change}
use Rattle.cdi_legal.specs.Follows.{after}
use Rattle.cdi_legal.proofs.Commands.{run_follows, request_end_follows, end_follows}
use Rattle.cdi_lines.specs.declared.command.Command.TheVariants as commands
use Rattle.cdi_container.proofs.{HistoryLemmas.acts_count, HistoryLemmas.acts_edits, HistoryLemmas.after_asking, Telling.acts_tell}
use Rattle.cdi_container.specs.Told.{standing_behind, carried_out, is_served, known_behind, told_behind, told_by, AreOneButKnown, IsTold}

same_state : (a b : State) → a.decls ≡ b.decls → a.counts ≡ b.counts → a.known ≡ b.known → a.work ≡ b.work → a.book ≡ b.book
    → a.standing ≡ b.standing → a.trace ≡ b.trace → a.text ≡ b.text → a ≡ b
same_state a b d c k w p s t x = grind arith

-- ---- bodies never change

edit_book : (old new : State) (changes : List Change) → EditsFrom old changes new → new.book ≡ old.book
edit_book old new changes h = ap (λ s. s.book) h.rest ∙ ap (λ s. s.book) h.ends.rest

acts_book : (old new : State) (command : Command) (answer : Answer) → Acts old command answer new → new.book ≡ old.book
acts_book old new (Edit edit) answer h = edit_book old new (changes_of edit) h.1
acts_book old new (Batch edits) answer h = edit_book old new (changes_of_all edits) h.1
acts_book old new (Chain bean place) answer h = ap (λ s. s.book) h.rest
acts_book old new (LookUp t quals) answer h = ap (λ s. s.book) h.rest
acts_book old new (Call method arg t quals) answer h = ap (λ s. s.book) h.rest
acts_book old new (Fire arg t quals) answer h = ap (λ s. s.book) h.rest
acts_book old new EndRequest answer h = ap (λ s. s.book) h.rest
acts_book old new Stop answer h = ap (λ s. s.book) h.rest
acts_book old new Unreadable answer h = absurd h
acts_book old new other answer h = ap (λ s. s.book) h.1

-- ---- what stands is the fold of the entries

edit_standing : (old new : State) (changes : List Change) → EditsFrom old changes new
    → new.standing ≡ closed (after old.standing new.trace)
edit_standing old new changes h =
    subst (λ (s : State). s.standing ≡ closed (after old.standing s.trace)) (sym h.rest) (end_follows h.ends.legal)

acts_standing : (old new : State) (command : Command) (answer : Answer) → Acts old command answer new
    → new.standing ≡ standing_behind command old.standing new.trace
acts_standing old new (Edit edit) answer h = edit_standing old new (changes_of edit) h.1
acts_standing old new (Batch edits) answer h = edit_standing old new (changes_of_all edits) h.1
acts_standing old new (Chain bean place) answer h = ap (λ s. s.standing) h.rest
acts_standing old new (LookUp t quals) answer h = run_follows h.legal
acts_standing old new (Call method arg t quals) answer h = run_follows h.legal
acts_standing old new (Fire arg t quals) answer h = run_follows h.legal
acts_standing old new EndRequest answer h = request_end_follows h.legal
acts_standing old new Stop answer h = end_follows h.legal
acts_standing old new Unreadable answer h = absurd h
acts_standing old new other answer h = ap (λ s. s.standing) h.1

-- ---- what is known, and the work

acts_known : (old new : State) (command : Command) (answer : Answer) → Acts old command answer new
    → new.known ≡ known_behind old command answer
acts_known old new (Edit edit) answer h =
    subst (λ a. new.known ≡ known_behind old (Edit edit) a) (sym h.0) (ap (λ s. s.known) h.1.rest)
acts_known old new (Batch edits) answer h =
    subst (λ a. new.known ≡ known_behind old (Batch edits) a) (sym h.0) (ap (λ s. s.known) h.1.rest)
acts_known old new (Chain bean place) answer h = ap (λ s. s.known) h.rest
acts_known old new (LookUp t quals) answer h = ap (λ s. s.known) h.rest
acts_known old new (Call method arg t quals) answer h = ap (λ s. s.known) h.rest
acts_known old new (Fire arg t quals) answer h = ap (λ s. s.known) h.rest
acts_known old new EndRequest answer h = ap (λ s. s.known) h.rest
acts_known old new Stop answer h = ap (λ s. s.known) h.rest
acts_known old new Unreadable answer h = absurd h
acts_known old new other answer h = ap (λ s. s.known) h.1

edit_work : (old new : State) (changes : List Change) → EditsFrom old changes new → new.work ≡ old.work
edit_work old new changes h = ap (λ s. s.work) h.rest ∙ ap (λ s. s.work) h.ends.rest

acts_work : (old new : State) (command : Command) (answer : Answer) → Acts old command answer new → new.work ≡ old.work
acts_work old new (Edit edit) answer h = edit_work old new (changes_of edit) h.1
acts_work old new (Batch edits) answer h = edit_work old new (changes_of_all edits) h.1
acts_work old new (Chain bean place) answer h = ap (λ s. s.work) h.rest
acts_work old new (LookUp t quals) answer h = ap (λ s. s.work) h.rest
acts_work old new (Call method arg t quals) answer h = ap (λ s. s.work) h.rest
acts_work old new (Fire arg t quals) answer h = ap (λ s. s.work) h.rest
acts_work old new EndRequest answer h = ap (λ s. s.work) h.rest
acts_work old new Stop answer h = ap (λ s. s.work) h.rest
acts_work old new Unreadable answer h = absurd h
acts_work old new other answer h = ap (λ s. s.work) h.1

-- ---- steps

acts_told : (old new : State) (command : Command) (answer : Answer) → Acts old command answer new
    → new ≡ carried_out old command answer new.trace (names_of old.decls)
acts_told old new command answer h =
    grind (arith, new.trace, old.decls, same_state, acts_edits, acts_count, acts_known, acts_work, acts_book, acts_standing, acts_tell)

answer_told : (old new : State) (command : Command) (answer : Answer) → LegalAnswer old command (Ok answer) new
    → new ≡ told_behind old command (Ok answer) new.trace (names_of old.decls)
answer_told old new command Done h = acts_told (after_asking old command) new command Done h.1
answer_told old new command (Chosen choice) h = acts_told (after_asking old command) new command (Chosen choice) h.1
answer_told old new command (Intercepted names) h = acts_told (after_asking old command) new command (Intercepted names) h.1
answer_told old new command (Observed ids) h = acts_told (after_asking old command) new command (Observed ids) h.1
answer_told old new command (Reported list) h = acts_told (after_asking old command) new command (Reported list) h.1
answer_told old new command (Counted counts) h = acts_told (after_asking old command) new command (Counted counts) h.1
answer_told old new command (Worked done) h = acts_told (after_asking old command) new command (Worked done) h.1
answer_told old new command (Given outcome) h = acts_told (after_asking old command) new command (Given outcome) h.1
answer_told old new command (Refused refusal edit) h = h.1

-- where memory sufficed
served_told : (old new : State) (command : Command) (answer : Result Answer AllocError) (trace : List Entry) (names : Names)
    → LegalAnswer old command answer new → trace ≡ trace_behind answer new → names ≡ names_of old.decls → is_served answer ≡ true
    → new ≡ told_behind old command answer trace names
served_told old new command (Ok answer) trace names h traced named served = grind (arith, old.decls, answer_told)
served_told old new command (Err error) trace names h traced named served = absurd (false≢true served)

history_told : (old new : State) (history : History) → LegalHistory old history new
    → list_all (λ step. is_served step.answer) history ≡ true → new ≡ told_by old history
history_told old new [] h served = h
history_told old new (step ∷ steps) h served =
    let parts = and_parts (is_served step.answer) (list_all (λ step. is_served step.answer) steps) served in
    history_told h.0 new steps h.2 parts.1 ∙ ap (λ (s : State). told_by s steps)
    (served_told old h.0 step.command step.answer step.trace step.names h.1.answered h.1.trace h.1.names parts.0)

-- ---- and where it did not

-- a state with other known keys, and another work
abbrev but_known : State → List Key → ℕ → State
but_known s known work = record s { known = known; work = work }

told_but_known : (s : State) (known : List Key) (work : ℕ) (command : Command) (answer : Answer) (trace : List Entry) (names : Names)
    → AreOneButKnown (told_behind (but_known s known work) command (Ok answer) trace names) (told_behind s command (Ok answer) trace names)
told_but_known s known work command Done trace names = refl
told_but_known s known work command other trace names = refl

unserved_but_known : (s : State) (known : List Key) (work : ℕ) (b : Bool)
    → AreOneButKnown (if b then emptied (but_known s known work) else but_known s known work) (if b then emptied s else s)
unserved_but_known s known work b = grind arith

-- a state that differs from another in these at most
known_apart : (old s new : State) (command : Command) (answer : Result Answer AllocError) (trace : List Entry) (names : Names)
    → AreOneButKnown old s → LegalAnswer old command answer new → trace ≡ trace_behind answer new → names ≡ names_of old.decls
    → AreOneButKnown new (told_behind s command answer trace names)
known_apart old s new command (Ok answer) trace names like h traced named =
    subst (λ (n : State). AreOneButKnown n (told_behind s command (Ok answer) trace names))
    (sym (served_told old new command (Ok answer) trace names h traced named refl))
    (subst (λ (o : State). AreOneButKnown (told_behind o command (Ok answer) trace names) (told_behind s command (Ok answer) trace names))
    (sym like) (told_but_known s old.known old.work command answer trace names))
known_apart old s new command (Err error) trace names like h traced named =
    grind (arith, h.rest, h.asks.are, h.asks.some, unserved_but_known)

history_but_known : (old s new : State) (history : History) → AreOneButKnown old s → LegalHistory old history new
    → AreOneButKnown new (told_by s history)
history_but_known old s new [] like h = subst (λ (n : State). AreOneButKnown n s) (sym h) like
history_but_known old s new (step ∷ steps) like h =
    history_but_known h.0 (told_behind s step.command step.answer step.trace step.names) new steps
    (known_apart old s h.0 step.command step.answer step.trace step.names like h.1.answered h.1.trace h.1.names) h.2

pub is_told : (history : History) → IsTold history
is_told history book state h = grind (arith, history_but_known, history_told)
