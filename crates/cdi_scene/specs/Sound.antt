-- What a deployment without faults gives its runs: each body is in the book and keeps to what its place allows, each
-- position that is named stands in the scene.
use Rattle.std.specs.Prelude.{◌≡◌, ℕ, ◌≤◌, List, [], Option, Some, None, length, slice_get, true}
use Rattle.cdi_bodies.specs.declared.promise.Promise.{Promise}
use Rattle.cdi_bodies.specs.Flags as flags
use Rattle.cdi_bodies.specs.Within.{Has}
use Rattle.cdi_contexts.specs.declared.instance.Actor.{Actor}
use Rattle.cdi_contexts.specs.declared.instance.Actor.TheVariants.{Target, Interceptor as By}
use Rattle.cdi_model.specs.Quals.{list_limit}
use Rattle.cdi_scene.specs.declared.place.Place.{Place}
use Rattle.cdi_scene.specs.declared.place.Place.TheVariants as places
use Rattle.cdi_scene.specs.declared.place.Seat.{Seat}
use Rattle.cdi_scene.specs.declared.scene.Bean.{Bean}
use Rattle.cdi_scene.specs.declared.scene.CallSite.{CallSite}
use Rattle.cdi_scene.specs.declared.scene.Form.{Form}
use Rattle.cdi_scene.specs.declared.scene.Form.TheVariants as forms
use Rattle.cdi_scene.specs.declared.scene.Injection.{Injection}
use Rattle.cdi_scene.specs.declared.scene.Invocable.{Invocable}
use Rattle.cdi_scene.specs.declared.scene.Managed.{Managed}
use Rattle.cdi_scene.specs.declared.scene.Notified.{Notified}
use Rattle.cdi_scene.specs.declared.scene.Observer.{Observer}
use Rattle.cdi_scene.specs.declared.scene.Part.{Part}
use Rattle.cdi_scene.specs.declared.scene.Product.{Product}
use Rattle.cdi_scene.specs.declared.scene.Scene.{Scene}
use Rattle.cdi_scene.specs.declared.scene.Via.{Via}
use Rattle.cdi_scene.specs.declared.scene.Via.TheVariants.{Own, Param}
use Rattle.cdi_scene.specs.Scene.{bean_at, managed_at, product_at, observer_at, invocable_at, part_at}

-- the bodies of a book, by their positions, with their names and promises
abbrev pub Bodies : Type 0
Bodies = List (List ℕ × Promise)

-- ---- parts

-- the part's body is that of the book, with its promise
pub record IsInBook (book : Bodies) (part : Part) : Type 0 where
  pub name : List ℕ
  pub found : slice_get book part.body ≡ Some (name, part.promise)

-- there is a bean at each of these positions
abbrev pub AreBeans : Scene → List ℕ → Type 0
AreBeans s bs = (k b : ℕ) → slice_get bs k ≡ Some b → (bean : Bean) × (bean_at s b ≡ Some bean)

-- the called bean is there, and has the method unless it is a product
abbrev pub HasMethod : Scene → CallSite → Form → Type 0
HasMethod s site (forms.Managed managed) = (invocable : Invocable) × (slice_get managed.methods site.method ≡ Some invocable)
HasMethod s site (forms.Product product) = Unit {0}

pub record IsSoundSite (s : Scene) (site : CallSite) : Type 0 where
  pub bean : Bean
  pub there : bean_at s site.bean ≡ Some bean
  pub method : HasMethod s site bean.form

-- each of them is an observer method of a managed bean
pub record IsSoundNotified (s : Scene) (o : Notified) : Type 0 where
  pub observer : Observer
  pub there : observer_at s o.bean o.observer ≡ Some observer

abbrev pub AreObservers : Scene → List Notified → Type 0
AreObservers s os = (k : ℕ) (o : Notified) → slice_get os k ≡ Some o → IsSoundNotified s o

pub record IsSoundPart (book : Bodies) (s : Scene) (part : Part) : Type 0 where
  pub body : IsInBook book part
  pub few_calls : length part.calls ≤ list_limit
  pub few_fires : length part.fires ≤ list_limit
  pub calls : (k : ℕ) (site : CallSite) → slice_get part.calls k ≡ Some site → IsSoundSite s site
  pub fires : (k : ℕ) (os : List Notified) → slice_get part.fires k ≡ Some os → AreObservers s os

-- ---- what places allow

-- the part's promise has no such flag
abbrev pub Lacks : Part → ℕ → Type 0
Lacks part flag = Has part.promise flag → ⊥

-- before the destruction nothing is called or fired
pub record IsQuiet (part : Part) : Type 0 where
  pub calls_nothing : Lacks part flags.call
  pub fires_nothing : Lacks part flags.fire

-- a body that runs without an instance neither loads nor stores
pub record IsStatic (part : Part) : Type 0 where
  pub loads_nothing : Lacks part flags.load
  pub stores_nothing : Lacks part flags.store

-- a body that is not an interceptor's proceeds to nothing
abbrev pub KeepsToItself : Actor → Part → Type 0
KeepsToItself Target part = Lacks part flags.proceed
KeepsToItself (By q) part = Unit {0}

abbrev pub IsAllowedAt : Place → Part → Type 0
IsAllowedAt places.Construct part = Unit {0}
IsAllowedAt places.Post part = Unit {0}
IsAllowedAt places.Pre part = IsQuiet part
IsAllowedAt (places.Method m) part = Unit {0}
IsAllowedAt (places.Producer b) part = Unit {0}
IsAllowedAt (places.Disposer b) part = IsQuiet part × IsStatic part
IsAllowedAt (places.Observer o) part = Unit {0}

-- a seat without an instance is that of a body that needs none
abbrev pub IsSeated : Option ℕ → Part → Type 0
IsSeated None part = IsStatic part × Lacks part flags.proceed
IsSeated (Some n) part = Unit {0}

-- ---- where call sites lead

-- the beans that are chosen for the parameters of the method at a place of a bean
abbrev pub params_at : Scene → ℕ → Place → List ℕ
params_at s b places.Construct = []
params_at s b places.Post = []
params_at s b places.Pre = []
params_at s b (places.Method m) = []
params_at s b (places.Producer product) = elim (product_at s product) [ Some x ↦ x.params | None ↦ [] ]
params_at s b (places.Disposer product) = []
params_at s b (places.Observer o) = elim (observer_at s b o) [ Some x ↦ x.params | None ↦ [] ]

-- the bean whose instance runs at a place of a bean: a producer method runs on an instance of the bean that declares it
abbrev pub home_of : Scene → ℕ → Place → ℕ
home_of s b places.Construct = b
home_of s b places.Post = b
home_of s b places.Pre = b
home_of s b (places.Method m) = b
home_of s b (places.Producer product) = elim (product_at s product) [ Some x ↦ x.declaring | None ↦ b ]
home_of s b (places.Disposer product) = b
home_of s b (places.Observer o) = b

-- this bean is chosen for the injection point at a position of whoever runs at the seat, which has an instance
pub record IsOwnPoint (s : Scene) (seat : Seat) (point b : ℕ) : Type 0 where
  pub managed : Managed
  pub there : managed_at s (home_of s seat.bean seat.place) ≡ Some managed
  pub number : ℕ
  pub seated : seat.number ≡ Some number
  pub place : ℕ
  pub injected : slice_get managed.injections place ≡ Some (record { actor = seat.actor; point = point; bean = b })

-- this bean is chosen for what a call site of whoever runs at the seat names
abbrev pub IsNamed : Scene → Seat → Via → ℕ → Type 0
IsNamed s seat (Own point) b = IsOwnPoint s seat point b
IsNamed s seat (Param param) b = slice_get (params_at s seat.bean seat.place) param ≡ Some b

abbrev pub SitesLead : Scene → Seat → Part → Type 0
SitesLead s seat part = (k : ℕ) (site : CallSite) → slice_get part.calls k ≡ Some site → IsNamed s seat site.via site.bean

-- the body that runs at a seat: it is sound, keeps to what the place allows, and calls what was chosen for what it names
pub record IsSoundAt (book : Bodies) (s : Scene) (seat : Seat) : Type 0 where
  pub body : Part
  pub runs : part_at s seat ≡ Some body
  pub sound : IsSoundPart book s body
  pub allowed : IsAllowedAt seat.place body
  pub own : KeepsToItself seat.actor body
  pub seated : IsSeated seat.number body
  pub leads : SitesLead s seat body

-- the interceptors of a chain have sound bodies for the place, and so has the bean where it has one, on any instance
pub record IsSoundInvocable (book : Bodies) (s : Scene) (b : ℕ) (place : Place) (x : Invocable) : Type 0 where
  pub links : (k q n : ℕ) → slice_get x.chain k ≡ Some q
      → IsSoundAt book s (record { bean = b; number = Some n; actor = By q; place = place })
  pub target : (part : Part) (n : ℕ) → x.part ≡ Some part
      → IsSoundAt book s (record { bean = b; number = Some n; actor = Target; place = place })

-- ---- beans

pub record IsSoundManaged (s : Scene) (managed : Managed) : Type 0 where
  pub injections : (k : ℕ) (i : Injection) → slice_get managed.injections k ≡ Some i
      → (bean : Bean) × (bean_at s i.bean ≡ Some bean)
  -- no two are of one actor and point
  pub apart : (j k : ℕ) (x y : Injection) → slice_get managed.injections j ≡ Some x → slice_get managed.injections k ≡ Some y
      → x.actor ≡ y.actor → x.point ≡ y.point → j ≡ k
  pub observers : (k : ℕ) (o : Observer) → slice_get managed.observers k ≡ Some o
      → AreBeans s o.params × (length o.params ≤ list_limit)

pub record IsSoundProduct (book : Bodies) (s : Scene) (b : ℕ) (product : Product) : Type 0 where
  pub host : Managed
  pub declared : managed_at s product.declaring ≡ Some host
  pub params : AreBeans s product.params
  pub few : length product.params ≤ list_limit
  -- a static producer method has a body of its own, and so has a disposer method; neither has an instance
  pub producer : product.is_static ≡ true
      → IsSoundAt book s (record { bean = product.declaring; number = None; actor = Target; place = places.Producer b })
  pub disposer : (part : Part) → product.disposer ≡ Some part
      → IsSoundAt book s (record { bean = product.declaring; number = None; actor = Target; place = places.Disposer b })

abbrev pub IsSoundForm : Bodies → Scene → ℕ → Form → Type 0
IsSoundForm book s b (forms.Managed managed) = IsSoundManaged s managed
IsSoundForm book s b (forms.Product product) = IsSoundProduct book s b product

-- each bean is sound, and what is invoked at each place
pub record IsSound (book : Bodies) (s : Scene) : Type 0 where
  pub beans : (b : ℕ) (bean : Bean) → bean_at s b ≡ Some bean → IsSoundForm book s b bean.form
  pub invocables : (b : ℕ) (place : Place) (x : Invocable) → invocable_at s b place ≡ Some x → IsSoundInvocable book s b place x
