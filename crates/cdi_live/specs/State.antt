-- What is seen of declarations whose answers are kept.
use Rattle.std.specs.Prelude.{◌≡◌, ◌⊎◌, ℕ, Bool, true, List, [], ◌∷◌, Option, Some, None}
use Rattle.cdi_model.specs.declared.decl.Decl.{Decl}
use Rattle.cdi_model.specs.declared.quals.Qual.{Qual}
use Rattle.cdi_effective.specs.Beans.{beans}
use Rattle.cdi_effective.specs.Qualifiers.{default_use}
use Rattle.cdi_index.specs.State.{Drafted, Staged, staged_by as index_staged_by, State as IndexState}
use Rattle.cdi_index.specs.declared.counts.Counts.{Counts}
use Rattle.cdi_memo.specs.Answers.{answer, Answers}
use Rattle.cdi_model.specs.SameUse.{same_quals}
use Rattle.cdi_observe.specs.Kept.{Kept}
use Rattle.cdi_observe.specs.Keys.{Key, ChainKey, ChoiceKey, EventKey}
use Rattle.cdi_observe.specs.Observers.{notified}
use Rattle.cdi_observe.specs.declared.observers.ObserverId.{ObserverId}
use Rattle.cdi_resolve.specs.declared.choice.Choice.{Choice}
use Rattle.cdi_resolve.specs.Choices.{chosen}
use Rattle.cdi_seen.specs.Touched.{still_known}
use Rattle.cdi_live.specs.ChainGone.{is_kept_chain, AreRightChains}
use Rattle.cdi_live.specs.Dropped.{is_kept}
use Rattle.cdi_live.specs.EventCompared.{Events}
use Rattle.cdi_live.specs.EventDropped.{is_kept as is_kept_event}
use Rattle.cdi_live.specs.EventLists.{AreRightLists}
use Rattle.cdi_live.specs.Kept.{no_answers, AreAsked, AreGoing}
use Rattle.cdi_live.specs.declared.event_lists.EventLists.{EventLists}
use Rattle.cdi_live.specs.declared.memos.Going.{Going}
use Rattle.cdi_live.specs.declared.memos.Memos.{Memos}

pub record State : Type 0 where
  pub decls : List Decl
  -- the answers that are kept
  pub memos : Memos
  -- how many answers were computed
  pub work : ℕ
  -- how many records were
  pub counts : Counts
  -- what is taken over at the next commit
  pub staged : Option Staged

-- the keys whose answers are kept
abbrev pub knows_in : Memos → Key → Bool
knows_in memos (ChoiceKey t us) = is_kept memos.choices t us
knows_in memos (ChainKey class place) = is_kept_chain memos.chains class place
knows_in memos (EventKey t us) = is_kept_event memos.events t us

abbrev pub knows : State → Key → Bool
knows state key = knows_in state.memos key

abbrev pub empty : State
empty = record { decls = []; memos = no_answers; work = 0; counts = record { closures = 0; beans = 0 }; staged = None }

-- what it keeps
abbrev pub kept_in : State → Kept
kept_in state = record { keeps = true; knows = knows state; work = state.work }

abbrev pub with_staged : State → Option Staged → State
with_staged state staged = record state { staged = staged }

-- what a draft stages
abbrev pub staged_by : State → Drafted → Staged
staged_by state draft = index_staged_by (record { decls = state.decls; counts = state.counts; staged = None }) draft

-- What is staged is taken over. The known keys after it are those that were known, are still wanted and are not touched.
pub record TakesOver (old : State) (next : Staged) (new : State) : Type 0 where
  pub decls : new.decls ≡ next.decls
  pub counts : new.counts ≡ next.counts
  pub work : new.work ≡ old.work
  pub staged : new.staged ≡ None
  pub known : (key : Key) → knows new key ≡ still_known old.decls next.decls (knows old) key

-- It is taken over, if anything is.
abbrev pub CommitsTo : State → Option Staged → State → Type 0
CommitsTo old None new = new ≡ old
CommitsTo old (Some next) new = TakesOver old next new

abbrev pub Commits : State → State → Type 0
Commits old new = CommitsTo old old.staged new

-- ---- as it is kept

-- a staged draft is seen where what goes with it is known
abbrev pub staged_with : Option Going → Option Staged → Option Staged
staged_with None staged = None
staged_with (Some going) staged = staged

abbrev pub seen : IndexState → Memos → ℕ → Option Going → State
seen index memos work going = record {
  decls = index.decls;
  memos = memos;
  work = work;
  counts = index.counts;
  staged = staged_with going index.staged;
}

-- Each kept choice is the chosen bean.
abbrev pub AreRight : List Decl → Answers (List Qual) Choice → Type 0
AreRight ds m = (t : List ℕ) (us : List Qual) (choice : Choice) → answer same_quals m t us ≡ Some choice
    → choice ≡ chosen ds (beans ds) t us

-- The kept observer methods of each event are those that are notified.
abbrev pub AreRightEvents : List Decl → Events → Type 0
AreRightEvents ds m = (t : List ℕ) (us : List Qual) (ids : List ObserverId) → answer same_quals m t us ≡ Some ids
    → ids ≡ notified ds (beans ds) t us

-- What goes with the staged draft goes from the kept answers after it.
pub record IsGoing (index : IndexState) (memos : Memos) (going : Going) : Type 0 where
  pub next : Staged
  pub staged : index.staged ≡ Some next
  pub are : AreGoing index.decls next.decls memos going

abbrev pub MayGo : IndexState → Memos → Option Going → Type 0
MayGo index memos None = Unit {0}
MayGo index memos (Some going) = IsGoing index memos going

-- The kept answers are right, and declarations ask for each.
pub record AreKept (ds : List Decl) (memos : Memos) : Type 0 where
  pub choices : AreRight ds memos.choices
  pub chains : AreRightChains ds memos.chains
  pub events : AreRightEvents ds memos.events
  pub asked : AreAsked ds memos

-- the use of `Default`, or none yet
abbrev pub IsDefaultOrNone : List Qual → Type 0
IsDefaultOrNone us = (us ≡ default_use ∷ []) ⊎ (us ≡ [])

-- no choice is kept
abbrev pub KeepsNone : Answers (List Qual) Choice → Type 0
KeepsNone m = (t : List ℕ) (us : List Qual) → answer same_quals m t us ≡ None

-- Before `Default` is there no choice is kept.
abbrev pub HasDefault : List Qual → Answers (List Qual) Choice → Type 0
HasDefault us m = (us ≡ default_use ∷ []) ⊎ ((us ≡ []) × KeepsNone m)

pub record IsLive (index : IndexState) (memos : Memos) (lists : EventLists) (by_default : List Qual) (going : Option Going) : Type 0 where
  pub default : HasDefault by_default memos.choices
  pub kept : AreKept index.decls memos
  pub shared : AreRightLists index.decls lists
  pub staged : MayGo index memos going
