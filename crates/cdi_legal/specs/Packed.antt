-- Which entry a packed one is.
use Rattle.std.specs.Prelude.{ℕ, Option, Some, None}
use Rattle.std.specs.Int.{cast_signed, w64}
use Rattle.cdi_model.specs.declared.outcome.Failure.{Failure}
use Rattle.cdi_model.specs.declared.outcome.Failure.TheVariants as failures
use Rattle.cdi_model.specs.declared.outcome.Outcome.{Outcome}
use Rattle.cdi_model.specs.declared.outcome.Outcome.TheVariants.{Value, Failed}
use Rattle.cdi_model.specs.declared.outcome.Val.{Val}
use Rattle.cdi_model.specs.declared.outcome.Val.TheVariants.{Null, Int}
use Rattle.cdi_contexts.specs.declared.instance.Actor.{Actor}
use Rattle.cdi_contexts.specs.declared.instance.Actor.TheVariants.{Target, Interceptor}
use Rattle.cdi_contexts.specs.declared.instance.InstanceId.{InstanceId}
use Rattle.cdi_contexts.specs.declared.instance.Owner.{Owner}
use Rattle.cdi_contexts.specs.declared.instance.Owner.TheVariants as owners
use Rattle.cdi_scene.specs.declared.place.Place.{Place}
use Rattle.cdi_scene.specs.declared.place.Place.TheVariants as places
use Rattle.cdi_scene.specs.declared.place.Seat.{Seat}
use Rattle.cdi_legal.specs.declared.entry.Entry.{Entry}
use Rattle.cdi_legal.specs.declared.entry.Entry.TheVariants as entries
use Rattle.cdi_legal.specs.declared.packed.Kind.{Kind}
use Rattle.cdi_legal.specs.declared.packed.Kind.TheVariants as kinds
use Rattle.cdi_legal.specs.declared.packed.Packed.{Packed}
use Rattle.cdi_legal.specs.declared.packed.Spot.{Spot}
use Rattle.cdi_legal.specs.declared.packed.Spot.TheVariants as spots
use Rattle.cdi_legal.specs.declared.packed.Tag.{Tag}
use Rattle.cdi_legal.specs.declared.packed.Tag.TheVariants as tags

-- a value by its tag and its number
abbrev pub val_by : Tag → ℕ → Val
val_by tags.Int bits = Int (cast_signed w64 bits)
val_by tag bits = Null

abbrev pub product_by : Tag → ℕ → Option Val
product_by tags.Null bits = Some Null
product_by tags.Int bits = Some (Int (cast_signed w64 bits))
product_by tag bits = None

abbrev pub failure_by : Tag → ℕ → Failure
failure_by tags.NotActive code = failures.NotActive
failure_by tags.Creating code = failures.Creating
failure_by tags.Depth code = failures.Depth
failure_by tags.Steps code = failures.Steps
failure_by tags.Budget code = failures.Budget
failure_by tags.IllegalProduct code = failures.IllegalProduct
failure_by tags.NotConstructed code = failures.NotConstructed
failure_by tags.Limit code = failures.Limit
failure_by tag code = failures.User code

abbrev pub outcome_by : Tag → ℕ → ℕ → Outcome
outcome_by tags.Null bits code = Value Null
outcome_by tags.Int bits code = Value (Int (cast_signed w64 bits))
outcome_by tag bits code = Failed (failure_by tag code)

-- whose body runs at a spot
abbrev pub actor_by : Spot → ℕ → Actor
actor_by spots.Construct position = Target
actor_by spots.Post position = Target
actor_by spots.Pre position = Target
actor_by spots.Method position = Target
actor_by spots.Producer position = Target
actor_by spots.Disposer position = Target
actor_by spots.Observer position = Target
actor_by spot position = Interceptor position

abbrev pub place_by : Spot → ℕ → Place
place_by spots.Construct position = places.Construct
place_by spots.AroundConstruct position = places.Construct
place_by spots.Post position = places.Post
place_by spots.AroundPost position = places.Post
place_by spots.Pre position = places.Pre
place_by spots.AroundPre position = places.Pre
place_by spots.Method position = places.Method position
place_by spots.AroundMethod position = places.Method position
place_by spots.Producer position = places.Producer position
place_by spots.AroundProducer position = places.Producer position
place_by spots.Disposer position = places.Disposer position
place_by spots.AroundDisposer position = places.Disposer position
place_by spots.Observer position = places.Observer position
place_by spots.AroundObserver position = places.Observer position

abbrev pub owner_by : Tag → ℕ → Spot → ℕ → ℕ → Owner
owner_by tags.Request instance spot actor point = owners.Request
owner_by tags.Application instance spot actor point = owners.Application
owner_by tags.Point instance spot actor point = owners.Point instance (actor_by spot actor) point
owner_by tag instance spot actor point = owners.Nobody

abbrev pub id_of : Packed → InstanceId
id_of p = record { bean = p.bean; number = p.number }

-- a seat on the instance of this number, or on none
abbrev pub seat_of : Packed → Option ℕ → Seat
seat_of p number = record { bean = p.bean; number = number; actor = actor_by p.spot p.actor; place = place_by p.spot p.place }

abbrev pub entry_by : Kind → Packed → Entry
entry_by kinds.Create p = entries.Create (id_of p) (owner_by p.tag p.bits p.spot p.actor p.place)
entry_by kinds.Ready p = entries.Ready (id_of p) (product_by p.tag p.bits)
entry_by kinds.Broken p = entries.Broken (id_of p) (failure_by p.tag p.code)
entry_by kinds.Enter p = entries.Enter (seat_of p (Some p.number)) (val_by p.tag p.bits)
entry_by kinds.EnterClass p = entries.Enter (seat_of p None) (val_by p.tag p.bits)
entry_by kinds.Loaded p = entries.Loaded (val_by p.tag p.bits)
entry_by kinds.Stored p = entries.Stored p.number (actor_by p.spot p.actor) (val_by p.tag p.bits)
entry_by kinds.Called p = entries.Called (seat_of p (Some p.number)) p.code (val_by p.tag p.bits)
entry_by kinds.CalledClass p = entries.Called (seat_of p None) p.code (val_by p.tag p.bits)
entry_by kinds.Fired p = entries.Fired (seat_of p (Some p.number)) p.code (val_by p.tag p.bits)
entry_by kinds.FiredClass p = entries.Fired (seat_of p None) p.code (val_by p.tag p.bits)
entry_by kinds.Proceeded p = entries.Proceeded (val_by p.tag p.bits)
entry_by kinds.Got p = entries.Got (outcome_by p.tag p.bits p.code)
entry_by kinds.Leave p = entries.Leave (outcome_by p.tag p.bits p.code)
entry_by kinds.Skip p = entries.Skip (record { bean = p.bean; observer = p.place })
entry_by kinds.Destroy p = entries.Destroy (id_of p)
entry_by kinds.Gone p = entries.Gone (id_of p)

abbrev pub entry_of : Packed → Entry
entry_of p = entry_by p.kind p
