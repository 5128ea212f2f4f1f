-- The entries of a trace, with names in place of positions.
use Rattle.std.specs.Prelude.{ℕ, List, [], map, Option, Some, None, option_and_then, option_map}
use Rattle.cdi_model.specs.declared.decl.CallDecl.{CallDecl}
use Rattle.cdi_model.specs.declared.decl.EventDecl.{EventDecl}
use Rattle.cdi_model.specs.declared.place.PartPlace.{PartPlace}
use Rattle.cdi_model.specs.declared.place.PartPlace.TheVariants as parts
use Rattle.cdi_contexts.specs.declared.instance.Actor.{Actor}
use Rattle.cdi_contexts.specs.declared.instance.Actor.TheVariants.{Target, Interceptor as By}
use Rattle.cdi_effective.specs.declared.records.BeanId.{BeanId}
use Rattle.cdi_legal.specs.declared.entry.Entry.{Entry}
use Rattle.cdi_legal.specs.declared.entry.Entry.TheVariants as entries
use Rattle.cdi_scene.specs.declared.place.Place.{Place}
use Rattle.cdi_scene.specs.declared.place.Place.TheVariants as places
use Rattle.cdi_scene.specs.declared.place.Seat.{Seat}
use Rattle.cdi_staging.specs.declared.names.Names.{Names}
use Rattle.cdi_trace.specs.Names.{bean_told, method_told, observer_told, interceptor_told, call_told, fire_told}
use Rattle.cdi_trace.specs.declared.entries.NamedEntry.{NamedEntry}

-- an entry, and the names by which it is read
pub record Shown : Type 0 where
  pub names : Names
  pub entry : Entry

abbrev pub shown : NamedEntry → Shown
shown e = record { names = e.names.now; entry = e.entry }

-- the entries by these names, where there are some
abbrev pub all_shown : Option Names → List Entry → List Shown
all_shown None trace = []
all_shown (Some names) trace = map (λ entry. record { names = names; entry = entry }) trace

-- the position of the bean that an entry is about
abbrev pub position_of_entry : Entry → Option ℕ
position_of_entry (entries.Create id owner) = Some id.bean
position_of_entry (entries.Ready id product) = Some id.bean
position_of_entry (entries.Broken id failure) = Some id.bean
position_of_entry (entries.Enter seat arg) = Some seat.bean
position_of_entry (entries.Loaded value) = None
position_of_entry (entries.Stored n actor value) = None
position_of_entry (entries.Called seat k arg) = Some seat.bean
position_of_entry (entries.Fired seat k arg) = Some seat.bean
position_of_entry (entries.Proceeded arg) = None
position_of_entry (entries.Got outcome) = None
position_of_entry (entries.Leave outcome) = None
position_of_entry (entries.Skip observer) = Some observer.bean
position_of_entry (entries.Destroy id) = Some id.bean
position_of_entry (entries.Gone id) = Some id.bean

abbrev pub bean_of_entry : Shown → Option BeanId
bean_of_entry e = option_map (λ x. x.id) (option_and_then (bean_told e.names) (position_of_entry e.entry))

-- the number of the instance that it is about
abbrev pub number_of_entry : Entry → Option ℕ
number_of_entry (entries.Create id owner) = Some id.number
number_of_entry (entries.Ready id product) = Some id.number
number_of_entry (entries.Broken id failure) = Some id.number
number_of_entry (entries.Enter seat arg) = seat.number
number_of_entry (entries.Loaded value) = None
number_of_entry (entries.Stored n actor value) = Some n
number_of_entry (entries.Called seat k arg) = seat.number
number_of_entry (entries.Fired seat k arg) = seat.number
number_of_entry (entries.Proceeded arg) = None
number_of_entry (entries.Got outcome) = None
number_of_entry (entries.Leave outcome) = None
number_of_entry (entries.Skip observer) = None
number_of_entry (entries.Destroy id) = Some id.number
number_of_entry (entries.Gone id) = Some id.number

-- where the body runs that begins, calls or fires
abbrev pub seat_of : Entry → Option Seat
seat_of (entries.Enter seat arg) = Some seat
seat_of (entries.Called seat k arg) = Some seat
seat_of (entries.Fired seat k arg) = Some seat
seat_of entry = None

-- a producer method that runs on no instance is static
abbrev pub producer_at : Option ℕ → List ℕ → PartPlace
producer_at None name = parts.StaticProducer name
producer_at (Some n) name = parts.Producer name

abbrev pub place_named : Names → ℕ → Option ℕ → Place → Option PartPlace
place_named names b number places.Construct = Some parts.Construct
place_named names b number places.Post = Some parts.Post
place_named names b number places.Pre = Some parts.Pre
place_named names b number (places.Method m) = option_map (λ x. parts.Method x.name) (method_told names b m)
place_named names b number (places.Producer p) = option_map (producer_at number) (option_and_then (λ x. x.id.producer) (bean_told names p))
place_named names b number (places.Disposer p) = option_map parts.Disposer (option_and_then (λ x. x.disposer) (bean_told names p))
place_named names b number (places.Observer o) = option_map (λ x. parts.Observer x.name) (observer_told names b o)

abbrev pub place_of_seat : Names → Seat → Option PartPlace
place_of_seat names seat = place_named names seat.bean seat.number seat.place

-- the place at which the body runs, or the observer method that is skipped
abbrev pub place_at : Names → Entry → Option PartPlace
place_at names (entries.Skip o) = option_map (λ x. parts.Observer x.name) (observer_told names o.bean o.observer)
place_at names entry = option_and_then (place_of_seat names) (seat_of entry)

abbrev pub place_of_entry : Shown → Option PartPlace
place_of_entry e = place_at e.names e.entry

-- the interceptor whose body runs, if it is one's
abbrev pub interceptor_by : Names → Actor → Option (List ℕ)
interceptor_by names Target = None
interceptor_by names (By q) = option_map (λ x. x.name) (interceptor_told names q)

abbrev pub interceptor_of_entry : Shown → Option (List ℕ)
interceptor_of_entry e = option_and_then (λ seat. interceptor_by e.names seat.actor) (seat_of e.entry)

-- the call site of a call, and the event that is fired
abbrev pub call_at : Names → Entry → Option CallDecl
call_at names (entries.Called seat k arg) = call_told names seat k
call_at names entry = None

abbrev pub call_of_entry : Shown → Option CallDecl
call_of_entry e = call_at e.names e.entry

abbrev pub event_at : Names → Entry → Option EventDecl
event_at names (entries.Fired seat k arg) = fire_told names seat k
event_at names entry = None

abbrev pub event_of_entry : Shown → Option EventDecl
event_of_entry e = event_at e.names e.entry
