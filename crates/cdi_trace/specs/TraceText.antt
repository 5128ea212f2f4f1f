-- The text of a trace.
use Rattle.std.specs.Prelude.{ℕ, List, [], ◌∷◌, ◌++◌, codes, flat_map, Option, Some, None}
use Rattle.cdi_model.specs.Bytes.{feed, space}
use Rattle.cdi_model.specs.OutcomeText.{text_of_val, text_of_failure}
use Rattle.cdi_model.specs.declared.outcome.Outcome.{Outcome}
use Rattle.cdi_model.specs.declared.outcome.Outcome.TheVariants.{Value, Failed}
use Rattle.cdi_scene.specs.declared.place.Place.{Place}
use Rattle.cdi_scene.specs.declared.place.Place.TheVariants as places
use Rattle.cdi_scene.specs.declared.place.Seat.{Seat}
use Rattle.cdi_legal.specs.declared.entry.Entry.{Entry}
use Rattle.cdi_legal.specs.declared.entry.Entry.TheVariants as entries
use Rattle.cdi_staging.specs.declared.names.Names.{Names}
use Rattle.cdi_trace.specs.Names.{bean_told, text_of_instance, class_of_bean, method_told, observer_told, name_of_method}
use Rattle.cdi_trace.specs.Names.{name_of_producer, name_of_disposer, text_of_actor}
use Rattle.cdi_trace.specs.Names.{call_told, fire_told, text_of_call_site, text_of_fire_site}

-- a value, or `failed` and the failure
abbrev pub text_of_outcome : Outcome → List ℕ
text_of_outcome (Value v) = text_of_val v
text_of_outcome (Failed f) = codes "failed " ++ text_of_failure f

abbrev pub text_of_place : Names → ℕ → Place → List ℕ
text_of_place names b places.Construct = codes "construct"
text_of_place names b places.Post = codes "post"
text_of_place names b places.Pre = codes "pre"
text_of_place names b (places.Method m) = codes "method " ++ name_of_method (method_told names b m)
text_of_place names b (places.Producer p) = codes "producer " ++ name_of_producer (bean_told names p)
text_of_place names b (places.Disposer p) = codes "disposer " ++ name_of_disposer (bean_told names p)
text_of_place names b (places.Observer o) = codes "observer " ++ name_of_method (observer_told names b o)

-- the instance on which a body runs, or the class where it runs on none
abbrev pub text_of_host : Names → ℕ → Option ℕ → List ℕ
text_of_host names b None = class_of_bean (bean_told names b)
text_of_host names b (Some n) = text_of_instance names b n

-- where a body runs, and whose it is
abbrev pub text_of_seat : Names → Seat → List ℕ
text_of_seat names seat = text_of_host names seat.bean seat.number ++ space ∷ text_of_place names seat.bean seat.place
    ++ text_of_actor names seat.actor

-- what an entry tells
abbrev pub text_of_entry : Names → Entry → List ℕ
text_of_entry names (entries.Create id owner) = codes "create " ++ text_of_instance names id.bean id.number
text_of_entry names (entries.Ready id product) = codes "ready " ++ text_of_instance names id.bean id.number
text_of_entry names (entries.Broken id f) = codes "broken " ++ text_of_instance names id.bean id.number ++ space ∷ text_of_failure f
text_of_entry names (entries.Enter seat arg) = codes "enter " ++ text_of_seat names seat ++ codes " arg " ++ text_of_val arg
text_of_entry names (entries.Loaded v) = codes "load " ++ text_of_val v
text_of_entry names (entries.Stored n actor v) = codes "store " ++ text_of_val v
text_of_entry names (entries.Called seat k arg) =
    codes "call " ++ text_of_call_site (call_told names seat k) ++ space ∷ text_of_val arg
text_of_entry names (entries.Fired seat k arg) =
    codes "fire " ++ text_of_val arg ++ space ∷ text_of_fire_site (fire_told names seat k)
text_of_entry names (entries.Proceeded arg) = codes "proceed " ++ text_of_val arg
text_of_entry names (entries.Got o) = codes "got " ++ text_of_outcome o
text_of_entry names (entries.Leave o) = codes "leave " ++ text_of_outcome o
text_of_entry names (entries.Skip o) =
    codes "skip " ++ class_of_bean (bean_told names o.bean) ++ space ∷ text_of_place names o.bean (places.Observer o.observer)
text_of_entry names (entries.Destroy id) = codes "destroy " ++ text_of_instance names id.bean id.number
text_of_entry names (entries.Gone id) = codes "gone " ++ text_of_instance names id.bean id.number

-- each entry on a line of its own, behind two spaces
abbrev pub line_of_entry : Names → Entry → List ℕ
line_of_entry names entry = codes "  " ++ text_of_entry names entry ++ feed ∷ []

abbrev pub text_of_entries : Names → List Entry → List ℕ
text_of_entries names entries = flat_map (line_of_entry names) entries
