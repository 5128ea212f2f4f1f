-- That the state behind a legal history is told by what was commanded, answered and traced.
use Rattle.std.specs.Prelude.{◌≡◌, Bool, true, false, List, [], ◌∷◌, Result, Ok, Err}
use Rattle.std.specs.List.{list_all}
use Rattle.std.specs.declared.alloc.AllocError.{AllocError}
use Rattle.cdi_model.specs.Edits.{edited_all}
use Rattle.cdi_bodies.specs.Book.{Promised}
use Rattle.cdi_contexts.specs.Standing.{Standing, opened, closed}
use Rattle.cdi_legal.specs.Follows.{after}
use Rattle.cdi_legal.specs.declared.entry.Entry.{Entry}
use Rattle.cdi_observe.specs.Keys.{Key}
use Rattle.cdi_staging.specs.declared.names.Names.{Names}
use Rattle.cdi_trace.specs.TraceText.{text_of_entries}
use Rattle.cdi_lines.specs.declared.command.Command.{Command}
use Rattle.cdi_lines.specs.declared.command.Command.TheVariants.{Edit, Batch, LookUp, Call, Fire, BeginRequest, EndRequest, Stop}
use Rattle.cdi_container.specs.declared.answer.Answer.{Answer}
use Rattle.cdi_container.specs.declared.answer.Answer.TheVariants.{Refused}
use Rattle.cdi_container.specs.History.{State, History, LegalHistory, empty, untold, asked, evaluates, left_unserved, accepted_changes, counts_behind}
use Rattle.cdi_container.specs.Known.{known_still}

-- what stands behind a command that was carried out with this trace: the fold of its entries; and a request begins only by its
-- own command, and is active no more behind the end of its context
abbrev pub standing_behind : Command → Standing → List Entry → Standing
standing_behind (Edit edit) s trace = closed (after s trace)
standing_behind (Batch edits) s trace = closed (after s trace)
standing_behind (LookUp t quals) s trace = after s trace
standing_behind (Call method arg t quals) s trace = after s trace
standing_behind (Fire arg t quals) s trace = after s trace
standing_behind BeginRequest s trace = opened s
standing_behind EndRequest s trace = closed (after s trace)
standing_behind Stop s trace = closed (after s trace)
standing_behind command s trace = s

-- the known keys behind a command that was carried out: an edit and a batch leave those that are still wanted and not touched
abbrev pub known_behind : State → Command → Answer → List Key
known_behind old (Edit edit) answer = known_still old.decls (edited_all old.decls (accepted_changes (Edit edit) (Ok answer))) old.known
known_behind old (Batch edits) answer = known_still old.decls (edited_all old.decls (accepted_changes (Batch edits) (Ok answer))) old.known
known_behind old command answer = old.known

-- the state behind a command that was carried out, after what it evaluated
abbrev pub carried_out : State → Command → Answer → List Entry → Names → State
carried_out old command answer trace names = record {
  decls = edited_all old.decls (accepted_changes command (Ok answer));
  counts = counts_behind old.decls old.counts command (Ok answer);
  known = known_behind old command answer;
  work = old.work;
  book = old.book;
  standing = standing_behind command old.standing trace;
  trace = trace;
  text = text_of_entries names trace;
}

-- the state behind a command that was answered so
abbrev pub told_behind : State → Command → Result Answer AllocError → List Entry → Names → State
told_behind old command (Ok (Refused refusal edit)) trace names = untold (asked old (evaluates old command))
told_behind old command (Ok answer) trace names = carried_out (asked old (evaluates old command)) command answer trace names
told_behind old command (Err error) trace names = left_unserved old command

-- the state behind some steps
abbrev pub told_by : State → History → State
told_by state [] = state
told_by state (step ∷ steps) = told_by (told_behind state step.command step.answer step.trace step.names) steps

-- two states differ at most in what is known, and in how many answers were computed
abbrev pub AreOneButKnown : State → State → Type 0
AreOneButKnown a b = a ≡ record b { known = a.known; work = a.work }

-- memory sufficed for a step
abbrev pub is_served : Result Answer AllocError → Bool
is_served (Ok answer) = true
is_served (Err error) = false

-- The state behind a legal history is told by it: by its accepted edits and batches, its traces, where requests begin and end, and where a
-- run found no memory. So is what is known, and how many answers were computed, where memory sufficed for each step.
pub record IsToldBy (history : History) (book : List Promised) (state : State) : Type 0 where
  pub but_known : AreOneButKnown state (told_by (empty book) history)
  pub served : list_all (λ step. is_served step.answer) history ≡ true → state ≡ told_by (empty book) history

abbrev pub IsTold : History → Type 0
IsTold history = (book : List Promised) (state : State) → LegalHistory (empty book) history state → IsToldBy history book state
