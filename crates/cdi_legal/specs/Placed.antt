-- Which entries come where something is open.
use Rattle.std.specs.Prelude.{◌≡◌, ℕ, Bool, true, Some, List, ◌∷◌, IsSome, slice_get}
use Rattle.cdi_bodies.specs.declared.act.Act.{Act}
use Rattle.cdi_bodies.specs.declared.act.Act.TheVariants as acts
use Rattle.cdi_contexts.specs.declared.instance.Actor.{Actor}
use Rattle.cdi_contexts.specs.declared.instance.Actor.TheVariants.{Target, Interceptor}
use Rattle.cdi_contexts.specs.declared.instance.InstanceId.{InstanceId}
use Rattle.cdi_scene.specs.Scene.{bean_at, invocable_at, observer_at, product_at}
use Rattle.cdi_scene.specs.declared.place.Place.{Place}
use Rattle.cdi_scene.specs.declared.place.Place.TheVariants.{Disposer, Producer}
use Rattle.cdi_scene.specs.declared.place.Seat.{Seat}
use Rattle.cdi_scene.specs.declared.scene.Invocable.{Invocable}
use Rattle.cdi_scene.specs.declared.scene.Notified.{Notified}
use Rattle.cdi_scene.specs.declared.scene.Part.{Part}
use Rattle.cdi_scene.specs.declared.scene.Product.{Product}
use Rattle.cdi_scene.specs.declared.scene.Scene.{Scene}
use Rattle.cdi_legal.specs.Acts.{Permits}
use Rattle.cdi_legal.specs.Ends.{seat_of_class, seat_on}
use Rattle.cdi_legal.specs.Opened.{creation, destruction, frame, Opening}
use Rattle.cdi_legal.specs.declared.entry.Entry.{Entry}
use Rattle.cdi_legal.specs.declared.entry.Entry.TheVariants as entries

-- A body is to run there: an interceptor of the chain at a place of an instance, the bean's own body at that place, a static
-- producer method, or a disposer method.
pub data IsCalledAt (s : Scene) : Seat → Type 0 where
  link : (i : InstanceId) (place : Place) (x : Invocable) (l q : ℕ)
      → invocable_at s i.bean place ≡ Some x → slice_get x.chain l ≡ Some q
      → IsCalledAt s (seat_on i (Interceptor q) place)
  target : (i : InstanceId) (place : Place) (x : Invocable) (part : Part)
      → invocable_at s i.bean place ≡ Some x → x.part ≡ Some part
      → IsCalledAt s (seat_on i Target place)
  producer : (b : ℕ) (x : Product)
      → product_at s b ≡ Some x → x.is_static ≡ true
      → IsCalledAt s (seat_of_class x.declaring (Producer b))
  disposer : (b : ℕ) (x : Product) (part : Part)
      → product_at s b ≡ Some x → x.disposer ≡ Some part
      → IsCalledAt s (seat_of_class x.declaring (Disposer b))

-- the youngest that is open is this creation, or this destruction, or a frame
abbrev pub Creates : InstanceId → List Opening → Type 0
Creates id xs = (older : List Opening) × (xs ≡ creation id ∷ older)

abbrev pub Destroys : InstanceId → List Opening → Type 0
Destroys id xs = (older : List Opening) × (xs ≡ destruction id ∷ older)

pub record RunsAt (seat : Seat) (xs : List Opening) : Type 0 where
  pub within : Bool
  pub acts : ℕ
  pub proceedings : ℕ
  pub older : List Opening
  pub youngest : xs ≡ frame seat within acts proceedings ∷ older

-- it is a frame at this seat, which is of this sort, and its body may make the act
pub record MayAct (s : Scene) (Sort : Seat → Type 0) (seat : Seat) (act : Act) (xs : List Opening) : Type 0 where
  pub runs : RunsAt seat xs
  pub sort : Sort seat
  pub permits : Permits s seat act

-- it is such a frame
abbrev pub IsActing : Scene → (Seat → Type 0) → Act → List Opening → Type 0
IsActing s Sort act xs = (seat : Seat) × MayAct s Sort seat act xs

-- at the seat runs an actor on the instance of this number
pub record IsActorOf (n : ℕ) (who : Actor) (seat : Seat) : Type 0 where
  pub instance : seat.number ≡ Some n
  pub actor : seat.actor ≡ who

-- it is a frame
abbrev pub IsRunning : List Opening → Type 0
IsRunning xs = (seat : Seat) × RunsAt seat xs

-- what an entry needs where it comes
pub data Need : Type 0 where
  -- a bean at this position
  needs_bean : ℕ → Need
  -- the youngest that is open is the creation of this instance, or its destruction
  needs_creation : InstanceId → Need
  needs_destruction : InstanceId → Need
  -- a body is to run at this seat
  needs_seat : Seat → Need
  -- the youngest that is open is a frame
  needs_frame : Need
  -- whose body may make this act: at any seat, at this one, or at one of this actor on the instance of this number
  needs_act : Act → Need
  needs_act_at : Seat → Act → Need
  needs_act_of : ℕ → Actor → Act → Need
  -- this observer method
  needs_observer : Notified → Need
  needs_nothing : Need

abbrev pub need : Entry → Need
need (entries.Create id owner) = needs_bean id.bean
need (entries.Ready id product) = needs_creation id
need (entries.Broken id failure) = needs_creation id
need (entries.Enter seat arg) = needs_seat seat
need (entries.Leave outcome) = needs_frame
need (entries.Loaded value) = needs_act acts.Load
need (entries.Stored number actor value) = needs_act_of number actor (acts.Store value)
need (entries.Called seat site arg) = needs_act_at seat (acts.Call site arg)
need (entries.Fired seat site arg) = needs_act_at seat (acts.Fire site arg)
need (entries.Proceeded arg) = needs_act (acts.Proceed arg)
need (entries.Got outcome) = needs_frame
need (entries.Skip o) = needs_observer o
need (entries.Gone id) = needs_destruction id
need entry = needs_nothing

-- where these are open, and bodies run at seats of one sort
abbrev pub IsMet : Scene → (Seat → Type 0) → List Opening → Need → Type 0
IsMet s Sort xs (needs_bean b) = IsSome (bean_at s b)
IsMet s Sort xs (needs_creation id) = Creates id xs
IsMet s Sort xs (needs_destruction id) = Destroys id xs
IsMet s Sort xs (needs_seat seat) = Sort seat
IsMet s Sort xs needs_frame = IsRunning xs
IsMet s Sort xs (needs_act act) = IsActing s Sort act xs
IsMet s Sort xs (needs_act_at seat act) = MayAct s Sort seat act xs
IsMet s Sort xs (needs_act_of number actor act) = (seat : Seat) × IsActorOf number actor seat × MayAct s Sort seat act xs
IsMet s Sort xs (needs_observer o) = IsSome (observer_at s o.bean o.observer)
IsMet s Sort xs needs_nothing = Unit {0}

-- the entry may come there
abbrev pub IsInPlace : Scene → (Seat → Type 0) → List Opening → Entry → Type 0
IsInPlace s Sort xs e = IsMet s Sort xs (need e)
