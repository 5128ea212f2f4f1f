-- What the code of pre-destroy callbacks rests on.
use Rattle.std.specs.Prelude.{◌≡◌, ℕ, ◌<◌, Bool, true, false, Some, slice_get, length, ◌++◌, ◌∷◌, []}
use Rattle.cdi_model.specs.declared.outcome.Outcome.{Outcome}
use Rattle.cdi_model.specs.declared.outcome.Val.{Val}
use Rattle.cdi_bodies.specs.Flags as flags
use Rattle.cdi_bodies.specs.declared.act.Act.{Act}
use Rattle.cdi_bodies.specs.declared.act.Act.TheVariants as acts
use Rattle.cdi_contexts.specs.declared.instance.Actor.{Actor}
use Rattle.cdi_contexts.specs.declared.instance.Actor.TheVariants.{Target, Interceptor}
use Rattle.cdi_contexts.specs.declared.instance.InstanceId.{InstanceId}
use Rattle.cdi_scene.specs.Scene.{part_at}
use Rattle.cdi_scene.specs.Sound.{IsSoundPart, IsQuiet, IsStatic, KeepsToItself, Lacks}
use Rattle.cdi_scene.specs.declared.place.Place.TheVariants.{Pre}
use Rattle.cdi_scene.specs.declared.place.Seat.{Seat}
use Rattle.cdi_scene.specs.declared.scene.Managed.{Managed}
use Rattle.cdi_scene.specs.declared.scene.Part.{Part}
use Rattle.cdi_scene.specs.declared.scene.Scene.{Scene}
use Rattle.cdi_legal.specs.Acts.{Permits}
use Rattle.cdi_legal.specs.Ends.{Ends, seat_on, invoke_back, asks_back}
use Rattle.cdi_legal.specs.Moment.{Moment, put}
use Rattle.cdi_legal.specs.declared.entry.Entry.TheVariants.{Proceeded, Got}
use Rattle.cdi_ending.specs.Staged.{Staged}
use Rattle.cdi_ending.specs.declared.shared.Shared.{Shared}
use Rattle.cdi_bodies.specs.declared.act.Frame.{Frame}

abbrev pub is_proceeding : Act → Bool
is_proceeding acts.Load = false
is_proceeding (acts.Store v) = false
is_proceeding (acts.Call site arg) = false
is_proceeding (acts.Fire site arg) = false
is_proceeding (acts.Proceed arg) = true
is_proceeding (acts.Return v) = false
is_proceeding (acts.Fail f) = false

-- the actor runs before the destruction: an interceptor of the chain, or the bean where it has a body of its own
abbrev pub ActsBefore : Managed → Actor → Type 0
ActsBefore managed Target = (part : Part) × (managed.pre.part ≡ Some part)
ActsBefore managed (Interceptor q) = (k : ℕ) × (slice_get managed.pre.chain k ≡ Some q)

-- the part runs before the destruction of the instance, for this actor
pub record IsBack (x : Staged) (i : InstanceId) (actor : Actor) (body : Part) : Type 0 where
  pub runs : part_at x.scene (seat_on i actor Pre) ≡ Some body
  pub sound : IsSoundPart x.promises x.scene body
  pub quiet : IsQuiet body
  pub own : KeepsToItself actor body

-- the part is a disposer method, which runs without an instance
pub record IsOwnDisposal (x : Staged) (seat : Seat) (body : Part) : Type 0 where
  pub runs : part_at x.scene seat ≡ Some body
  pub sound : IsSoundPart x.promises x.scene body
  pub quiet : IsQuiet body
  pub static : IsStatic body
  pub own : Lacks body flags.proceed

abbrev pub IsInterceptor : Actor → Type 0
IsInterceptor Target = ⊥
IsInterceptor (Interceptor q) = Unit {0}

-- a proceeding to a link, with its entries
pub record Proceeds (s : Scene) (i : InstanceId) (link : ℕ) (v : Val) (m : Moment) (r : Outcome) (m' : Moment) : Type 0 where
  pub begun : Moment
  pub ended : Moment
  pub first : begun ≡ put (Proceeded v) m
  pub invoked : Ends s (invoke_back i v link r) begun ended
  pub last : m' ≡ put (Got r) ended

-- the frame, with one answer more
abbrev pub with_answer : Outcome → Frame → Frame
with_answer answer shown = record shown { answers = record { items = shown.answers.items ++ answer ∷ [] } }

-- After so many answers a callback makes acts until it would proceed, for the first time. What follows from there follows.
pub record Pauses (s : Scene) (seat : Seat) (j : ℕ) (p : Bool) (m : Moment) (shared : Shared) (m' : Moment) : Type 0 where
  pub first : p ≡ false
  pub only : IsInterceptor seat.actor
  pub permitted : Permits s seat (acts.Proceed shared.argument)
  pub few : length shared.shown.answers.items < 8
  pub rest : (k : ℕ) (o : Outcome) (m₁ : Moment) → Ends s (asks_back seat k (length shared.shown.answers.items) false o) m' m₁
      → Ends s (asks_back seat k j false o) m m₁

-- After so many answers a callback makes acts until it pauses, or until it ends.
abbrev pub Halts : Scene → InstanceId → Actor → ℕ → Bool → Moment → Bool → Shared → Moment → Type 0
Halts s i actor j p m true shared m' = Pauses s (seat_on i actor Pre) j p m shared m'
Halts s i actor j p m false shared m' = (k : ℕ) → Ends s (asks_back (seat_on i actor Pre) k j p shared.outcome) m m'
