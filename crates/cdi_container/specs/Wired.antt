-- What is kept of a deployment between questions.
use Rattle.std.specs.Prelude.{◌≡◌, ◌≢◌, ◌⊎◌, ◌∷◌, ℕ, Bool, true, false, List, [], AllPairs, Option, Some, None, IsSome, unwrap_or, if◌then◌else◌}
use Rattle.std.specs.Prelude.{Result, Ok, Err}
use Rattle.std.specs.List.{list_all}
use Rattle.cdi_model.specs.declared.decl.Decl.{Decl}
use Rattle.cdi_model.specs.declared.edit.Edit.{Edit}
use Rattle.cdi_model.specs.declared.edit.Edit.TheVariants as edits
use Rattle.cdi_model.specs.declared.refusal.Error.{Error}
use Rattle.cdi_model.specs.declared.refusal.Error.TheVariants as errors
use Rattle.cdi_model.specs.Short.{HasShortLists}
use Rattle.cdi_bodies.specs.Book.{Promised}
use Rattle.cdi_index.specs.Counted.{counted}
use Rattle.cdi_index.specs.State.{Drafted, Staged}
use Rattle.cdi_index.specs.declared.counts.Counts.{Counts}
use Rattle.cdi_legal.specs.Furnished.{IsFurnished}
use Rattle.cdi_legal.specs.Moment.{Moment}
use Rattle.cdi_legal.specs.Rooted.{IsRooted}
use Rattle.cdi_scene.specs.Scene.{bean_at}
use Rattle.cdi_scene.specs.declared.scene.Scene.{Scene}
use Rattle.cdi_live.specs.State.{State as Live, knows}
use Rattle.cdi_observe.specs.Keys.{Key, has_key}
use Rattle.cdi_observe.specs.Wanted.{is_wanted}
use Rattle.cdi_run.specs.Known.{IsUsable}
use Rattle.cdi_staging.specs.Naming.{names_of}
use Rattle.cdi_staging.specs.Staged.{scene_of}
use Rattle.cdi_staging.specs.declared.names.Names.{Names}
use Rattle.cdi_container.specs.Known.{known_still, known_with, work_with}
use Rattle.cdi_container.specs.declared.asked.Aim.{Aim}
use Rattle.cdi_wiring.specs.declared.verdict.Wiring.{Wiring}
use Rattle.cdi_wiring.specs.declared.verdict.Wiring.TheVariants as wirings

-- declarations and bodies, how many records were computed, the known keys in the order in which the declarations ask for them, how many
-- answers were computed, what the next commit takes over, and whether a sound scene is there
pub record Deployed : Type 0 where
  pub decls : List Decl
  pub counts : Counts
  pub known : List Key
  pub work : ℕ
  pub staged : Option Staged
  pub book : List Promised
  pub is_wired : Bool

abbrev pub is_sound : Option Wiring → Bool
is_sound None = false
is_sound (Some (wirings.Faulty count)) = false
is_sound (Some (wirings.Sound wired)) = true

abbrev pub with_staged : Deployed → Option Staged → Deployed
with_staged d staged = record d { staged = staged }

-- what a draft stages
abbrev pub staged_by : List Decl → Counts → Drafted → Staged
staged_by ds counts draft = record { decls = draft.decls; counts = counted counts ds draft.decls draft.keys }

-- what is staged is taken over, if anything is, and the scene is gone
abbrev pub redeployed_to : Deployed → Option Staged → Deployed
redeployed_to d None = record d { is_wired = false }
redeployed_to d (Some next) = record d {
  decls = next.decls;
  counts = next.counts;
  known = known_still d.decls next.decls d.known;
  staged = None;
  is_wired = false;
}

abbrev pub redeployed : Deployed → Deployed
redeployed d = redeployed_to d d.staged

-- what is put has short lists
abbrev pub IsShortEdit : Edit → Type 0
IsShortEdit (edits.Put d) = HasShortLists d
IsShortEdit (edits.Remove kind name) = Unit {0}

-- the names of a scene that is there
abbrev pub names_in : Option Wiring → Option Names
names_in None = None
names_in (Some (wirings.Faulty count)) = None
names_in (Some (wirings.Sound wired)) = Some wired.names

-- the names of a scene that was there
abbrev pub names_if : Deployed → Option Names
names_if d = if d.is_wired then Some (names_of d.decls) else None

-- what the trace is told by: names from before, where the declarations have changed since, and else theirs
abbrev pub trace_names : Deployed → Option Names → Names
trace_names d before = unwrap_or before (names_of d.decls)

-- each wanted key is known
abbrev pub KnowsAll : Live → Type 0
KnowsAll live = (key : Key) → is_wanted live.decls key ≡ true → knows live key ≡ true

-- some keys were evaluated, each of which is listed once; what was staged may be given up, and the scene is there if it was
pub record IsAsked (keys : List Key) (old new : Deployed) : Type 0 where
  pub rest : new ≡ record old {
    known = known_with old.decls old.known keys;
    work = work_with old.known keys old.work;
    staged = new.staged;
    is_wired = new.is_wired;
  }
  pub wired : old.is_wired ≡ true → new.is_wired ≡ true

-- some of these keys were evaluated, or none
pub record IsAskedSome (keys : List Key) (old new : Deployed) : Type 0 where
  pub some : List Key
  pub among : list_all (has_key keys) some ≡ true
  pub apart : AllPairs (λ k l. k ≢ l) some
  pub are : IsAsked some old new

-- a call evaluates a key, and where memory runs out it may not have
abbrev pub AsksOwn : {X : Type 0} → Key → Result X Error → Deployed → Deployed → Type 0
AsksOwn key (Ok x) old new = IsAsked (key ∷ []) old new
AsksOwn key (Err (errors.Refused refusal)) old new = IsAsked (key ∷ []) old new
AsksOwn key (Err errors.OutOfMemory) old new = (new ≡ old) ⊎ IsAsked (key ∷ []) old new

-- a call evaluates these keys, and some of them where memory runs out
abbrev pub Evaluates : {X : Type 0} → List Key → Result X Error → Deployed → Deployed → Type 0
Evaluates keys (Ok x) old new = IsAsked keys old new
Evaluates keys (Err (errors.Refused refusal)) old new = IsAsked keys old new
Evaluates keys (Err errors.OutOfMemory) old new = IsAskedSome keys old new

-- Without a scene nothing is live, and nothing is told but by names from before, which are there only without one. Each live
-- instance stands in a context or was made for a point of a live one, and each ready one has its dependent objects.
pub record RestsOnScene (d : Deployed) (m : Moment) (before : Option Names) : Type 0 where
  pub nothing_lives : d.is_wired ≡ false → m.standing.live ≡ []
  pub nothing_told : d.is_wired ≡ false → before ≡ None → m.trace ≡ []
  pub told_now : d.is_wired ≡ true → before ≡ None
  pub rooted : IsRooted m.standing.live
  pub furnished : IsFurnished (scene_of d.decls d.book) m.standing.live

-- the bean that is aimed at is there, with the method that is called
pub record StandsIn (scene : Scene) (aim : Aim) : Type 0 where
  pub there : IsSome (bean_at scene aim.bean)
  pub usable : IsUsable scene aim.bean aim.purpose
