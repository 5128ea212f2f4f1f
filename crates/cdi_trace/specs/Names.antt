-- What stands at the positions that a trace tells.
use Rattle.std.specs.Prelude.{ℕ, List, [], ◌∷◌, ◌++◌, codes, decimal, slice_get}
use Rattle.std.specs.Prelude.{Option, Some, None, option_and_then, option_map, unwrap_or}
use Rattle.cdi_model.specs.Bytes.{hash}
use Rattle.cdi_model.specs.CallText.{text_of_call}
use Rattle.cdi_model.specs.EventText.{text_of_event}
use Rattle.cdi_model.specs.declared.decl.CallDecl.{CallDecl}
use Rattle.cdi_model.specs.declared.decl.EventDecl.{EventDecl}
use Rattle.cdi_contexts.specs.declared.instance.Actor.{Actor}
use Rattle.cdi_contexts.specs.declared.instance.Actor.TheVariants.{Target, Interceptor as By}
use Rattle.cdi_effective.specs.BeanText.{text_of_id}
use Rattle.cdi_scene.specs.declared.place.Place.{Place}
use Rattle.cdi_scene.specs.declared.place.Place.TheVariants as places
use Rattle.cdi_scene.specs.declared.place.Seat.{Seat}
use Rattle.cdi_staging.specs.declared.names.BeanNames.{BeanNames}
use Rattle.cdi_staging.specs.declared.names.InterceptorNames.{InterceptorNames}
use Rattle.cdi_staging.specs.declared.names.MethodNames.{MethodNames}
use Rattle.cdi_staging.specs.declared.names.Names.{Names}
use Rattle.cdi_staging.specs.declared.names.SiteNames.{SiteNames}

-- a bean of the bean list
abbrev pub bean_told : Names → ℕ → Option BeanNames
bean_told names b = slice_get names.beans b

abbrev pub text_of_bean : Option BeanNames → List ℕ
text_of_bean None = []
text_of_bean (Some x) = text_of_id x.id

abbrev pub class_of_bean : Option BeanNames → List ℕ
class_of_bean None = []
class_of_bean (Some x) = x.id.class

-- an instance: its bean and its number
abbrev pub text_of_instance : Names → ℕ → ℕ → List ℕ
text_of_instance names b n = text_of_bean (bean_told names b) ++ hash ∷ decimal n

-- a method, by its position in the bean
abbrev pub method_told : Names → ℕ → ℕ → Option MethodNames
method_told names b m = option_and_then (λ x. slice_get x.methods m) (bean_told names b)

-- an observer method, by its position in the bean
abbrev pub observer_told : Names → ℕ → ℕ → Option MethodNames
observer_told names b o = option_and_then (λ x. slice_get x.observers o) (bean_told names b)

abbrev pub name_of_method : Option MethodNames → List ℕ
name_of_method None = []
name_of_method (Some method) = method.name

-- the producer method of a product, and the disposer method that matches it
abbrev pub name_of_producer : Option BeanNames → List ℕ
name_of_producer None = []
name_of_producer (Some x) = unwrap_or x.id.producer []

abbrev pub name_of_disposer : Option BeanNames → List ℕ
name_of_disposer None = []
name_of_disposer (Some x) = unwrap_or x.disposer []

-- ---- interceptors

-- an interceptor among those that are enabled
abbrev pub interceptor_told : Names → ℕ → Option InterceptorNames
interceptor_told names q = slice_get names.interceptors q

abbrev pub name_of_interceptor : Option InterceptorNames → List ℕ
name_of_interceptor None = []
name_of_interceptor (Some q) = q.name

-- who runs, where it is an interceptor
abbrev pub text_of_actor : Names → Actor → List ℕ
text_of_actor names Target = []
text_of_actor names (By q) = codes " by " ++ name_of_interceptor (interceptor_told names q)

-- ---- call sites and fire sites

-- those at a place of a bean; disposer methods have none
abbrev pub sites_told : Names → ℕ → Place → Option SiteNames
sites_told names b places.Construct = option_map (λ x. x.construct) (bean_told names b)
sites_told names b places.Post = option_map (λ x. x.post) (bean_told names b)
sites_told names b places.Pre = option_map (λ x. x.pre) (bean_told names b)
sites_told names b (places.Method m) = option_map (λ x. x.sites) (method_told names b m)
sites_told names b (places.Producer p) = option_map (λ x. x.produces) (bean_told names p)
sites_told names b (places.Disposer p) = None
sites_told names b (places.Observer o) = option_map (λ x. x.sites) (observer_told names b o)

-- those of an interceptor's part for a place
abbrev pub sites_around : Place → InterceptorNames → SiteNames
sites_around places.Construct q = q.around_construct
sites_around places.Post q = q.post
sites_around places.Pre q = q.pre
sites_around (places.Method m) q = q.around_invoke
sites_around (places.Producer p) q = q.around_invoke
sites_around (places.Disposer p) q = q.around_invoke
sites_around (places.Observer o) q = q.around_invoke

-- those of whoever runs at a place of a bean
abbrev pub sites_by : Names → ℕ → Place → Actor → Option SiteNames
sites_by names b place Target = sites_told names b place
sites_by names b place (By q) = option_map (sites_around place) (interceptor_told names q)

-- a call site of a seat, and a fire site, by its position
abbrev pub call_told : Names → Seat → ℕ → Option CallDecl
call_told names seat k = option_and_then (λ x. slice_get x.calls k) (sites_by names seat.bean seat.place seat.actor)

abbrev pub fire_told : Names → Seat → ℕ → Option EventDecl
fire_told names seat k = option_and_then (λ x. slice_get x.fires k) (sites_by names seat.bean seat.place seat.actor)

abbrev pub text_of_call_site : Option CallDecl → List ℕ
text_of_call_site None = []
text_of_call_site (Some call) = text_of_call call

abbrev pub text_of_fire_site : Option EventDecl → List ℕ
text_of_fire_site None = []
text_of_fire_site (Some event) = text_of_event event
