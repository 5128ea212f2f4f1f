-- Which runs are legal: what the trace of a look-up, a call or an event is, and its outcome.
use Rattle.std.specs.Prelude.{◌≡◌, ℕ, Bool, true, false, Some, None, List, [], IsSome}
use Rattle.cdi_model.specs.declared.decl.Scope.TheVariants as scopes
use Rattle.cdi_model.specs.declared.outcome.Failure.{Failure}
use Rattle.cdi_model.specs.declared.outcome.Outcome.{Outcome}
use Rattle.cdi_model.specs.declared.outcome.Outcome.TheVariants.{Value, Failed}
use Rattle.cdi_model.specs.declared.outcome.Val.{Val}
use Rattle.cdi_contexts.specs.Standing.{Standing, own_state, closed}
use Rattle.cdi_contexts.specs.declared.instance.InstanceId.{InstanceId}
use Rattle.cdi_contexts.specs.declared.instance.Owner.TheVariants.{Nobody}
use Rattle.cdi_scene.specs.Scene.{bean_at, product_at}
use Rattle.cdi_scene.specs.declared.place.Place.TheVariants.{Method}
use Rattle.cdi_scene.specs.declared.scene.Bean.{Bean}
use Rattle.cdi_scene.specs.declared.scene.Notified.{Notified}
use Rattle.cdi_scene.specs.declared.scene.Scene.{Scene}
use Rattle.cdi_legal.specs.Ends.{Ends, destroy, context}
use Rattle.cdi_legal.specs.Legal.{Legal, obtain, create, invoke, fire, made_is, outcome_is, answered_is, answered, is_normal, at}
use Rattle.cdi_legal.specs.Moment.{Moment, beginning}
use Rattle.cdi_legal.specs.declared.entry.Entry.{Entry}
use Rattle.cdi_legal.specs.declared.entry.Made.TheVariants.{Instance as Obtained, Refused}

-- how many creations and frames may be open (profile)
abbrev pub depth : ℕ
depth = 32

-- what is done with the instance of a bean: its state is looked up (profile), or a method is called with an argument
pub data Use : Type 0 where
  look : Use
  call : ℕ → Val → Use

-- this use of the instance leads from one moment to another, and gives this
pub data Uses (s : Scene) (i : InstanceId) : Use → Moment → Outcome → Moment → Type 0 where
  looked : (o : Outcome) (m : Moment)
      → o ≡ Value (own_state m.standing.live i.number)
      → Uses s i look m o m
  called : (method : ℕ) (arg : Val) (o : Outcome) (c : Bool) (m m' : Moment)
      → product_at s i.bean ≡ None
      → Legal s depth (invoke i (Method method) [] arg 0) m (answered_is (answered o c)) m'
      → Uses s i (call method arg) m o m'
  called_product : (method : ℕ) (arg : Val) (o : Outcome) (m : Moment)
      → IsSome (product_at s i.bean)
      → o ≡ Value (own_state m.standing.live i.number)
      → Uses s i (call method arg) m o m

pub data Command : Type 0 where
  -- the use of an instance of the bean
  use_bean : ℕ → Use → Command
  -- an event for these observers
  notify_all : List Notified → Val → Command

-- The command leads from one moment to another, and this is its outcome. A dependent instance is destroyed before the
-- answer, also where its use failed.
pub data Runs (s : Scene) : Command → Moment → Outcome → Moment → Type 0 where
  refused_shared : (b : ℕ) (x : Bean) (u : Use) (f : Failure) (m m' : Moment)
      → bean_at s b ≡ Some x → is_normal x.scope ≡ true
      → Legal s depth (obtain b) m (made_is (Refused f)) m'
      → Runs s (use_bean b u) m (Failed f) m'
  used_shared : (b : ℕ) (x : Bean) (u : Use) (n : ℕ) (o : Outcome) (m m₁ m' : Moment)
      → bean_at s b ≡ Some x → is_normal x.scope ≡ true
      → Legal s depth (obtain b) m (made_is (Obtained n)) m₁
      → Uses s (at b n) u m₁ o m'
      → Runs s (use_bean b u) m o m'
  refused_own : (b : ℕ) (x : Bean) (u : Use) (f : Failure) (m m' : Moment)
      → bean_at s b ≡ Some x → is_normal x.scope ≡ false
      → Legal s depth (create b Nobody) m (made_is (Refused f)) m'
      → Runs s (use_bean b u) m (Failed f) m'
  used_own : (b : ℕ) (x : Bean) (u : Use) (n : ℕ) (o : Outcome) (m m₁ m₂ m' : Moment)
      → bean_at s b ≡ Some x → is_normal x.scope ≡ false
      → Legal s depth (create b Nobody) m (made_is (Obtained n)) m₁
      → Uses s (at b n) u m₁ o m₂
      → Ends s (destroy (at b n)) m₂ m'
      → Runs s (use_bean b u) m o m'
  fired : (os : List Notified) (arg : Val) (o : Outcome) (m m' : Moment)
      → Legal s depth (fire os 0 arg) m (outcome_is o) m'
      → Runs s (notify_all os arg) m o m'

-- From what stands, the command has this trace and this outcome, and leaves this.
pub record LegalRun (s : Scene) (command : Command) (before : Standing) (trace : List Entry) (outcome : Outcome)
    (after : Standing) : Type 0 where
  pub end : Moment
  pub runs : Runs s command (beginning before) outcome end
  pub pushed : trace ≡ end.trace
  pub leaves : after ≡ end.standing

-- The request context ends, and then no request is active.
pub record LegalRequestEnd (s : Scene) (before : Standing) (trace : List Entry) (after : Standing) : Type 0 where
  pub end : Moment
  pub ends : Ends s (context scopes.Request) (beginning before) end
  pub pushed : trace ≡ end.trace
  pub leaves : after ≡ closed end.standing

-- The request context ends, in which instances are only made while a request is active, and then the application context.
pub record LegalEnd (s : Scene) (before : Standing) (trace : List Entry) (after : Standing) : Type 0 where
  pub middle : Moment
  pub end : Moment
  pub first : Ends s (context scopes.Request) (beginning before) middle
  pub then : Ends s (context scopes.Application) middle end
  pub pushed : trace ≡ end.trace
  pub leaves : after ≡ closed end.standing
