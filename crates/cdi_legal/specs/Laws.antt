-- Laws of whole commands: of look-ups, calls and events, and of the ends of contexts.
use Rattle.std.specs.Prelude.{◌≡◌, ◌≤◌, true, List, [], length}
use Rattle.std.specs.List.{AllByRecursion}
use Rattle.cdi_model.specs.declared.outcome.Failure.{Failure}
use Rattle.cdi_model.specs.declared.outcome.Outcome.{Outcome}
use Rattle.cdi_model.specs.declared.outcome.Outcome.TheVariants.{Failed}
use Rattle.cdi_contexts.specs.Standing.{Standing, closed}
use Rattle.cdi_contexts.specs.Rising.{IsRising}
use Rattle.cdi_contexts.specs.declared.instance.Owner.TheVariants.{Request}
use Rattle.cdi_scene.specs.Sound.{Bodies, IsSound, IsSoundAt}
use Rattle.cdi_scene.specs.declared.scene.Scene.{Scene}
use Rattle.cdi_legal.specs.Causes.{Cause}
use Rattle.cdi_legal.specs.Furnished.{IsFurnished}
use Rattle.cdi_legal.specs.LegalRun.{Command, LegalRun, LegalRequestEnd, LegalEnd}
use Rattle.cdi_legal.specs.Moment.{Moment}
use Rattle.cdi_legal.specs.Opened.{opened, IsInLimits}
use Rattle.cdi_legal.specs.Placed.{IsCalledAt, IsInPlace}
use Rattle.cdi_legal.specs.Rooted.{IsRooted}
use Rattle.cdi_legal.specs.Single.{IsSingle}
use Rattle.cdi_legal.specs.Throughout.{AtEachEntry, AtEachPoint, Throughout}
use Rattle.cdi_legal.specs.declared.entry.Entry.{Entry}

-- it holds of what stands before each command, its trace, and what stands after
pub record HoldsOfCommands (R : Scene → Standing → List Entry → Standing → Type 0) : Type 0 where
  pub run : (s : Scene) (command : Command) (before : Standing) (trace : List Entry) (outcome : Outcome)
      (after : Standing) → LegalRun s command before trace outcome after → R s before trace after
  pub request_end : (s : Scene) (before : Standing) (trace : List Entry) (after : Standing)
      → LegalRequestEnd s before trace after → R s before trace after
  pub end : (s : Scene) (before : Standing) (trace : List Entry) (after : Standing)
      → LegalEnd s before trace after → R s before trace after

-- whatever the trace is
abbrev pub IsKeptByCommands : (Scene → Standing → Standing → Type 0) → Type 0
IsKeptByCommands R = HoldsOfCommands (λ s before trace after. R s before after)

-- where it holds before a command, it holds at each point of its trace
abbrev pub IsKeptThroughout : (Scene → Standing → Type 0) → Type 0
IsKeptThroughout P = HoldsOfCommands (λ s before trace after. P s before → Throughout (P s) before trace)

-- at most one instance of each bean with a normal scope is live
abbrev pub IsSingleAt : Scene → Standing → Type 0
IsSingleAt s x = IsSingle s x.live

-- at most 1,024 instances are live, those that are being created too (profile)
abbrev pub IsWithinLimit : Scene → Standing → Type 0
IsWithinLimit s x = length x.live ≤ 1024

-- an instance of the request context is live only while a request is active (CDI 4.0, Context management for built-in scopes)
abbrev pub IsRequested : Scene → Standing → Type 0
IsRequested s x = AllByRecursion (λ i. i.owner ≡ Request → x.active ≡ true) x.live

pub record CommandsKeepThroughout : Type 0 where
  pub single : IsKeptThroughout IsSingleAt
  pub limit : IsKeptThroughout IsWithinLimit
  pub requested : IsKeptThroughout IsRequested

-- a command asks bodies at most 20,000 times outside destruction (profile)
abbrev pub CommandsKeepBudget : Type 0
CommandsKeepBudget = (s : Scene) (command : Command) (before : Standing) (trace : List Entry) (outcome : Outcome) (after : Standing)
    → (l : LegalRun s command before trace outcome after) → l.end.asked ≤ 20000

-- Of a trace: at each point the limits of what is open are kept, each entry is in its place, bodies run where they are called, and
-- all that was opened is closed.
pub record IsOrdered (s : Scene) (trace : List Entry) : Type 0 where
  pub limits : AtEachPoint (λ earlier. IsInLimits (opened earlier)) trace
  pub places : AtEachEntry (λ earlier entry. IsInPlace s (IsCalledAt s) (opened earlier) entry) trace
  pub closed : opened trace ≡ []

abbrev pub CommandsAreOrdered : Type 0
CommandsAreOrdered = HoldsOfCommands (λ s before trace after. IsOrdered s trace)

-- Each body that runs is one of the book, its promise keeps to the place, its sites name beans and methods that are there, and each act
-- is one that the promise permits, with its site among those of the body.
abbrev pub IsFaultless : Bodies → Scene → List Entry → Type 0
IsFaultless book s trace = AtEachEntry (λ earlier entry. IsInPlace s (IsSoundAt book s) (opened earlier) entry) trace

abbrev pub CommandsAreFaultless : Type 0
CommandsAreFaultless = (book : Bodies) → HoldsOfCommands (λ s before trace after. IsSound book s → IsFaultless book s trace)

-- where a run from what stands before it to its end failed, this has its cause
abbrev pub HasCause : Scene → Standing → Moment → Outcome → Type 0
HasCause s before end outcome = (failure : Failure) → outcome ≡ Failed failure → Cause s before end failure

abbrev pub CommandsFailForCauses : Type 0
CommandsFailForCauses = (s : Scene) (command : Command) (before : Standing) (trace : List Entry) (outcome : Outcome) (after : Standing)
    → (l : LegalRun s command before trace outcome after) → HasCause s before l.end outcome

-- where at most one instance of each bean with a normal scope is live before, this is so after
abbrev pub KeepsSingle : Scene → Standing → Standing → Type 0
KeepsSingle s before after = IsSingle s before.live → IsSingle s after.live

abbrev pub CommandsKeepSingle : Type 0
CommandsKeepSingle = IsKeptByCommands KeepsSingle

-- no number is taken back
abbrev pub RaisesGiven : Scene → Standing → Standing → Type 0
RaisesGiven s before after = before.given ≤ after.given

abbrev pub CommandsRaiseGiven : Type 0
CommandsRaiseGiven = IsKeptByCommands RaisesGiven

-- where nothing is live, both ends are legal without an entry
pub record EmptyEnds : Type 0 where
  pub request_end : (s : Scene) (before : Standing) → before.live ≡ [] → LegalRequestEnd s before [] (closed before)
  pub end : (s : Scene) (before : Standing) → before.live ≡ [] → LegalEnd s before [] (closed before)

-- where numbers rise and each ready instance has its dependent objects before, this is so after, in a sound scene
abbrev pub KeepsFurnished : Scene → Standing → Standing → Type 0
KeepsFurnished s before after =
    (book : Bodies) → IsSound book s → IsRising before.given before.live → IsFurnished s before.live
    → IsRising after.given after.live × IsFurnished s after.live

abbrev pub CommandsKeepFurnished : Type 0
CommandsKeepFurnished = IsKeptByCommands KeepsFurnished

-- where numbers rise, and each live instance stands in a context or was made for a live one before, this is so after
abbrev pub KeepsRooted : Scene → Standing → Standing → Type 0
KeepsRooted s before after =
    IsRising before.given before.live → IsRooted before.live → IsRising after.given after.live × IsRooted after.live

abbrev pub CommandsKeepRooted : Type 0
CommandsKeepRooted = IsKeptByCommands KeepsRooted

-- then the end of both contexts leaves no instance
abbrev pub BothEndsLeaveNothing : Type 0
BothEndsLeaveNothing =
    (s : Scene) (before : Standing) (trace : List Entry) (after : Standing) → IsRising before.given before.live
    → IsRooted before.live → LegalEnd s before trace after → after.live ≡ []
