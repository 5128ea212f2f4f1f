-- Which trees of entries are legal (CDI 4.0, Lifecycle of contextual instances; Interceptors 2.1, Method Interceptors).
-- A proof of `Legal` is such a tree: one constructor for each case of a node, with the moments before and after it. It knows
-- no stack: what is live is read off the entries so far.
use Rattle.std.specs.Prelude.{◌≡◌, ℕ, ◌+◌, ◌<◌, ◌≤◌, Bool, true, false, ◌||◌, Option, Some, None, IsSome, option_map}
use Rattle.std.specs.Prelude.{List, [], ◌∷◌, ◌++◌, length, slice_get}
use Rattle.cdi_model.specs.declared.decl.Scope.{Scope}
use Rattle.cdi_model.specs.declared.decl.Scope.TheVariants as scopes
use Rattle.cdi_model.specs.declared.outcome.Failure.{Failure}
use Rattle.cdi_model.specs.declared.outcome.Failure.TheVariants as failures
use Rattle.cdi_model.specs.declared.outcome.Outcome.{Outcome}
use Rattle.cdi_model.specs.declared.outcome.Outcome.TheVariants.{Value, Failed}
use Rattle.cdi_model.specs.declared.outcome.Val.{Val}
use Rattle.cdi_model.specs.declared.outcome.Val.TheVariants.{Null, Int}
use Rattle.cdi_bodies.specs.declared.act.Act.{Act}
use Rattle.cdi_bodies.specs.declared.act.Act.TheVariants.{Call, Fire, Proceed}
use Rattle.cdi_contexts.specs.Owned.{context_of}
use Rattle.cdi_contexts.specs.Standing.{IsFull, found, made_for, own_state}
use Rattle.cdi_contexts.specs.declared.instance.Actor.TheVariants.{Target, Interceptor}
use Rattle.cdi_contexts.specs.declared.instance.Instance.{Instance}
use Rattle.cdi_contexts.specs.declared.instance.InstanceId.{InstanceId}
use Rattle.cdi_contexts.specs.declared.instance.Owner.{Owner}
use Rattle.cdi_contexts.specs.declared.instance.Owner.TheVariants.{Point, Nobody}
use Rattle.cdi_scene.specs.Scene.{bean_at, managed_at, product_at, invocable_at, observer_at, part_at, as_product}
use Rattle.cdi_scene.specs.declared.place.Place.{Place}
use Rattle.cdi_scene.specs.declared.place.Place.TheVariants.{Construct, Post, Method, Producer, Observer as Observing}
use Rattle.cdi_scene.specs.declared.place.Seat.{Seat}
use Rattle.cdi_scene.specs.declared.scene.Bean.{Bean}
use Rattle.cdi_scene.specs.declared.scene.CallSite.{CallSite}
use Rattle.cdi_scene.specs.declared.scene.Form.{Form}
use Rattle.cdi_scene.specs.declared.scene.Form.TheVariants as forms
use Rattle.cdi_scene.specs.declared.scene.Injection.{Injection}
use Rattle.cdi_scene.specs.declared.scene.Invocable.{Invocable}
use Rattle.cdi_scene.specs.declared.scene.Managed.{Managed}
use Rattle.cdi_scene.specs.declared.scene.Notified.{Notified}
use Rattle.cdi_scene.specs.declared.scene.Observer.{Observer}
use Rattle.cdi_scene.specs.declared.scene.Part.{Part}
use Rattle.cdi_scene.specs.declared.scene.Product.{Product}
use Rattle.cdi_scene.specs.declared.scene.Scene.{Scene}
use Rattle.cdi_scene.specs.declared.scene.Via.{Via}
use Rattle.cdi_scene.specs.declared.scene.Via.TheVariants.{Own, Param}
use Rattle.cdi_legal.specs.Acts.{Permits, ending, Touches, ignored, has_returned}
use Rattle.cdi_legal.specs.Ends.{Ends, Held, seat_on, seat_of_class, destroy, dependents, held}
use Rattle.cdi_legal.specs.Moment.{Moment, put, ask_more}
use Rattle.cdi_legal.specs.declared.entry.Answered.{Answered}
use Rattle.cdi_legal.specs.declared.entry.Entry.TheVariants as entries
use Rattle.cdi_legal.specs.declared.entry.Made.{Made}
use Rattle.cdi_legal.specs.declared.entry.Made.TheVariants.{Instance as Obtained, Refused}

-- ---- words

-- the scope is that of requests, and none is active
pub record IsInactive (scope : Scope) (m : Moment) : Type 0 where
  pub request : scope ≡ scopes.Request
  pub inactive : m.standing.active ≡ false

-- a normal scope: instances are shared, and client proxies stand at injection points (CDI 4.0, Client proxies)
abbrev pub is_normal : Scope → Bool
is_normal scopes.Request = true
is_normal scopes.Dependent = false
is_normal scopes.Application = true

-- whom the instances for the parameters of a method belong to: the product, or nobody where an observer is notified
abbrev pub for_param : Option InstanceId → ℕ → Owner
for_param (Some product) p = Point product.number Target p
for_param None p = Nobody

-- what a product holds once it is ready
abbrev pub product_of : Form → Val → Option Val
product_of (forms.Managed managed) v = None
product_of (forms.Product product) v = Some v

-- what a producer method gives: null only for a dependent product (CDI 4.0, Producer methods)
abbrev pub produced : Scope → Outcome → Outcome
produced scopes.Dependent (Value v) = Value v
produced scopes.Request (Value Null) = Failed failures.IllegalProduct
produced scopes.Application (Value Null) = Failed failures.IllegalProduct
produced scopes.Request (Value (Int n)) = Value (Int n)
produced scopes.Application (Value (Int n)) = Value (Int n)
produced scope (Failed f) = Failed f

abbrev pub answered : Outcome → Bool → Answered
answered o returned = record { outcome = o; has_returned = returned }

-- no ready instance of the bean stands in the context of its scope
pub record IsAbsent (b : ℕ) (scope : Scope) (m : Moment) : Type 0 where
  pub absent : (i : Instance) → found m.standing.live scope b ≡ Some i → i.is_ready ≡ false

-- an observer is not notified: its bean is request-scoped with no request active, or it is conditional and its bean has no
-- ready instance (CDI 4.0, Conditional observer methods)
pub data IsSkipped (o : Notified) (observer : Observer) (scope : Scope) (m : Moment) : Type 0 where
  no_request : IsInactive scope m → IsSkipped o observer scope m
  no_instance : observer.is_conditional ≡ true → IsAbsent o.bean scope m → IsSkipped o observer scope m

abbrev pub number_of : Option InstanceId → Option ℕ
number_of made = option_map (λ i. i.number) made

-- the dependent object that was made for a point of whoever runs at the seat, or for a parameter
abbrev pub dependent_of : List Instance → Seat → Held → Via → Option ℕ
dependent_of live seat h (Own p) = elim seat.number [ Some n ↦ option_map (λ i. i.id.number) (made_for live n seat.actor p) | None ↦ None ]
dependent_of live seat h (Param p) = elim (slice_get h p) [ Some made ↦ number_of made | None ↦ None ]

-- the instance of this bean and number
abbrev pub at : ℕ → ℕ → InstanceId
at b n = record { bean = b; number = n }

-- ---- nodes

pub data Node : Type 0 where
  -- the instance of a bean with a normal scope
  obtain : ℕ → Node
  -- a new instance of a bean, for an owner
  create : ℕ → Owner → Node
  -- what makes it ready; the value is that of a product
  setup : InstanceId → Node
  -- the dependent objects for its injection points, from this one on
  inject : InstanceId → List Injection → ℕ → Node
  -- the dependent objects for the parameters of a method, from this one on, behind those that are held
  supply : Option InstanceId → List ℕ → ℕ → Held → Node
  -- the invocation of the producer method of a product, on an instance unless it is static
  produce : InstanceId → Product → Option InstanceId → Node
  -- the invocation at a place of an instance, from this link of the chain on
  invoke : InstanceId → Place → Held → Val → ℕ → Node
  -- a frame, with how many links of the chain were entered
  frame : Seat → Held → Val → ℕ → Node
  -- the rest of a frame after so many answers, and whether the bean's own body gave a value within so far
  asks : Seat → Held → ℕ → ℕ → Bool → Node
  -- what one act answers
  does : Seat → Held → ℕ → Act → Node
  -- the call of a site, and the instance that it reaches
  call : Seat → Held → CallSite → Val → Node
  reach : Seat → Held → CallSite → Node
  -- the notification of these observers, from this one on
  fire : List Notified → ℕ → Val → Node
  -- the notification of one, and that on the instance of its bean
  notify : Notified → Val → Node
  attend : InstanceId → ℕ → Observer → Val → Node

pub data Answer : Type 0 where
  -- an instance or a failure
  made_is : Made → Answer
  -- a value or a failure
  outcome_is : Outcome → Answer
  -- what an invocation gave
  answered_is : Answered → Answer
  -- none, or the failure that ended the steps
  failure_is : Option Failure → Answer
  -- what was made for parameters, and the failure that ended it
  held_is : Held → Option Failure → Answer

-- With so many entries that may still be opened, the node leads from one moment to another, and answers this.
pub data Legal (s : Scene) : ℕ → Node → Moment → Answer → Moment → Type 0 where
  -- ---- obtain (CDI 4.0, Normal scopes and pseudo-scopes; that an instance which is being created is not given: profile)
  inactive : (k b : ℕ) (x : Bean) (m : Moment)
      → bean_at s b ≡ Some x → IsInactive x.scope m
      → Legal s k (obtain b) m (made_is (Refused failures.NotActive)) m
  present : (k b : ℕ) (x : Bean) (i : Instance) (m : Moment)
      → bean_at s b ≡ Some x → (IsInactive x.scope m → ⊥)
      → found m.standing.live x.scope b ≡ Some i → i.is_ready ≡ true
      → Legal s k (obtain b) m (made_is (Obtained i.id.number)) m
  creating : (k b : ℕ) (x : Bean) (i : Instance) (m : Moment)
      → bean_at s b ≡ Some x → (IsInactive x.scope m → ⊥)
      → found m.standing.live x.scope b ≡ Some i → i.is_ready ≡ false
      → Legal s k (obtain b) m (made_is (Refused failures.Creating)) m
  absent : (k b : ℕ) (x : Bean) (a : Answer) (m m' : Moment)
      → bean_at s b ≡ Some x → (IsInactive x.scope m → ⊥)
      → found m.standing.live x.scope b ≡ None
      → Legal s k (create b (context_of x.scope)) m a m'
      → Legal s k (obtain b) m a m'
  -- ---- create (the limits of depth and of live instances: profile)
  too_deep : (k b : ℕ) (o : Owner) (m : Moment)
      → k ≡ 0
      → Legal s k (create b o) m (made_is (Refused failures.Depth)) m
  too_many : (k b : ℕ) (o : Owner) (m : Moment)
      → 0 < k → IsFull m.standing
      → Legal s k (create b o) m (made_is (Refused failures.Limit)) m
  made : (k j b : ℕ) (x : Bean) (o : Owner) (i : InstanceId) (v : Val) (m m₁ m₂ m' : Moment)
      → k ≡ j + 1 → (IsFull m.standing → ⊥) → bean_at s b ≡ Some x
      → i.bean ≡ b → i.number ≡ m.standing.given + 1
      → m₁ ≡ put (entries.Create i o) m
      → Legal s j (setup i) m₁ (outcome_is (Value v)) m₂
      → m' ≡ put (entries.Ready i (product_of x.form v)) m₂
      → Legal s k (create b o) m (made_is (Obtained i.number)) m'
  broken : (k j b : ℕ) (o : Owner) (i : InstanceId) (f : Failure) (m m₁ m₂ m₃ m' : Moment)
      → k ≡ j + 1 → (IsFull m.standing → ⊥)
      → i.bean ≡ b → i.number ≡ m.standing.given + 1
      → m₁ ≡ put (entries.Create i o) m
      → Legal s j (setup i) m₁ (outcome_is (Failed f)) m₂
      → m₃ ≡ put (entries.Broken i f) m₂
      → Ends s (dependents i.number) m₃ m'
      → Legal s k (create b o) m (made_is (Refused f)) m'
  -- ---- the setup of a managed bean: points, constructor, post-construct callbacks (CDI 4.0, Lifecycle of managed beans; that
  -- it fails where no constructor returned a value: profile)
  uninjected : (k : ℕ) (i : InstanceId) (b : Managed) (f : Failure) (m m' : Moment)
      → managed_at s i.bean ≡ Some b
      → Legal s k (inject i b.injections 0) m (failure_is (Some f)) m'
      → Legal s k (setup i) m (outcome_is (Failed f)) m'
  construction_failed : (k : ℕ) (i : InstanceId) (b : Managed) (f : Failure) (c : Bool) (m m₁ m' : Moment)
      → managed_at s i.bean ≡ Some b
      → Legal s k (inject i b.injections 0) m (failure_is None) m₁
      → Legal s k (invoke i Construct [] Null 0) m₁ (answered_is (answered (Failed f) c)) m'
      → Legal s k (setup i) m (outcome_is (Failed f)) m'
  not_constructed : (k : ℕ) (i : InstanceId) (b : Managed) (v : Val) (m m₁ m' : Moment)
      → managed_at s i.bean ≡ Some b
      → Legal s k (inject i b.injections 0) m (failure_is None) m₁
      → Legal s k (invoke i Construct [] Null 0) m₁ (answered_is (answered (Value v) false)) m'
      → Legal s k (setup i) m (outcome_is (Failed failures.NotConstructed)) m'
  constructed : (k : ℕ) (i : InstanceId) (b : Managed) (v : Val) (o : Outcome) (c : Bool) (m m₁ m₂ m' : Moment)
      → managed_at s i.bean ≡ Some b
      → Legal s k (inject i b.injections 0) m (failure_is None) m₁
      → Legal s k (invoke i Construct [] Null 0) m₁ (answered_is (answered (Value v) true)) m₂
      → Legal s k (invoke i Post [] Null 0) m₂ (answered_is (answered o c)) m'
      → Legal s k (setup i) m (outcome_is (ignored o)) m'
  -- ---- the setup of a product: the declaring instance, the parameters, the producer method (CDI 4.0, Lifecycle of
  -- producer methods; Dependent objects)
  produced_statically : (k : ℕ) (i : InstanceId) (x : Bean) (b : Product) (o : Outcome) (m m' : Moment)
      → bean_at s i.bean ≡ Some x → as_product x.form ≡ Some b → b.is_static ≡ true
      → Legal s k (produce i b None) m (outcome_is o) m'
      → Legal s k (setup i) m (outcome_is (produced x.scope o)) m'
  no_shared_host : (k : ℕ) (i : InstanceId) (b : Product) (d : Bean) (f : Failure) (m m' : Moment)
      → product_at s i.bean ≡ Some b → b.is_static ≡ false → bean_at s b.declaring ≡ Some d → is_normal d.scope ≡ true
      → Legal s k (obtain b.declaring) m (made_is (Refused f)) m'
      → Legal s k (setup i) m (outcome_is (Failed f)) m'
  produced_on_shared : (k h : ℕ) (i : InstanceId) (x d : Bean) (b : Product) (o : Outcome) (m m₁ m' : Moment)
      → bean_at s i.bean ≡ Some x → as_product x.form ≡ Some b → b.is_static ≡ false
      → bean_at s b.declaring ≡ Some d → is_normal d.scope ≡ true
      → Legal s k (obtain b.declaring) m (made_is (Obtained h)) m₁
      → Legal s k (produce i b (Some (at b.declaring h))) m₁ (outcome_is o) m'
      → Legal s k (setup i) m (outcome_is (produced x.scope o)) m'
  no_own_host : (k : ℕ) (i : InstanceId) (b : Product) (d : Bean) (f : Failure) (m m' : Moment)
      → product_at s i.bean ≡ Some b → b.is_static ≡ false → bean_at s b.declaring ≡ Some d → is_normal d.scope ≡ false
      → Legal s k (create b.declaring Nobody) m (made_is (Refused f)) m'
      → Legal s k (setup i) m (outcome_is (Failed f)) m'
  produced_on_own : (k h : ℕ) (i : InstanceId) (x d : Bean) (b : Product) (o : Outcome) (m m₁ m₂ m' : Moment)
      → bean_at s i.bean ≡ Some x → as_product x.form ≡ Some b → b.is_static ≡ false
      → bean_at s b.declaring ≡ Some d → is_normal d.scope ≡ false
      → Legal s k (create b.declaring Nobody) m (made_is (Obtained h)) m₁
      → Legal s k (produce i b (Some (at b.declaring h))) m₁ (outcome_is o) m₂
      → Ends s (destroy (at b.declaring h)) m₂ m'
      → Legal s k (setup i) m (outcome_is (produced x.scope o)) m'
  -- ---- the producer method
  unsupplied : (k : ℕ) (i : InstanceId) (b : Product) (host : Option InstanceId) (h : Held) (f : Failure) (m m' : Moment)
      → Legal s k (supply (Some i) b.params 0 []) m (held_is h (Some f)) m'
      → Legal s k (produce i b host) m (outcome_is (Failed f)) m'
  run_statically : (k : ℕ) (i : InstanceId) (b : Product) (h : Held) (o : Outcome) (c : Bool) (m m₁ m' : Moment)
      → Legal s k (supply (Some i) b.params 0 []) m (held_is h None) m₁
      → Legal s k (frame (seat_of_class b.declaring (Producer i.bean)) h Null 0) m₁ (answered_is (answered o c)) m'
      → Legal s k (produce i b None) m (outcome_is o) m'
  run_on_host : (k : ℕ) (i host : InstanceId) (b : Product) (h : Held) (o : Outcome) (c : Bool) (m m₁ m' : Moment)
      → Legal s k (supply (Some i) b.params 0 []) m (held_is h None) m₁
      → Legal s k (invoke host (Producer i.bean) h Null 0) m₁ (answered_is (answered o c)) m'
      → Legal s k (produce i b (Some host)) m (outcome_is o) m'
  -- ---- injection points: a dependent object for each that a dependent bean is chosen for, a client proxy for the others
  no_more_points : (k p : ℕ) (i : InstanceId) (ps : List Injection) (m : Moment)
      → length ps ≤ p
      → Legal s k (inject i ps p) m (failure_is None) m
  proxy_injected : (k p : ℕ) (i : InstanceId) (ps : List Injection) (point : Injection) (x : Bean) (a : Answer) (m m' : Moment)
      → slice_get ps p ≡ Some point → bean_at s point.bean ≡ Some x → is_normal x.scope ≡ true
      → Legal s k (inject i ps (p + 1)) m a m'
      → Legal s k (inject i ps p) m a m'
  dependent_injected : (k p d : ℕ) (i : InstanceId) (ps : List Injection) (point : Injection) (x : Bean) (a : Answer) (m m₁ m' : Moment)
      → slice_get ps p ≡ Some point → bean_at s point.bean ≡ Some x → is_normal x.scope ≡ false
      → Legal s k (create point.bean (Point i.number point.actor point.point)) m (made_is (Obtained d)) m₁
      → Legal s k (inject i ps (p + 1)) m₁ a m'
      → Legal s k (inject i ps p) m a m'
  injection_failed : (k p : ℕ) (i : InstanceId) (ps : List Injection) (point : Injection) (x : Bean) (f : Failure) (m m' : Moment)
      → slice_get ps p ≡ Some point → bean_at s point.bean ≡ Some x → is_normal x.scope ≡ false
      → Legal s k (create point.bean (Point i.number point.actor point.point)) m (made_is (Refused f)) m'
      → Legal s k (inject i ps p) m (failure_is (Some f)) m'
  -- ---- parameters
  no_more_params : (k p : ℕ) (product : Option InstanceId) (ps : List ℕ) (h : Held) (m : Moment)
      → length ps ≤ p
      → Legal s k (supply product ps p h) m (held_is h None) m
  proxy_supplied : (k p b : ℕ) (product : Option InstanceId) (ps : List ℕ) (h : Held) (x : Bean) (a : Answer) (m m' : Moment)
      → slice_get ps p ≡ Some b → bean_at s b ≡ Some x → is_normal x.scope ≡ true
      → Legal s k (supply product ps (p + 1) (h ++ None ∷ [])) m a m'
      → Legal s k (supply product ps p h) m a m'
  dependent_supplied : (k p b d : ℕ) (product : Option InstanceId) (ps : List ℕ) (h : Held) (x : Bean) (a : Answer) (m m₁ m' : Moment)
      → slice_get ps p ≡ Some b → bean_at s b ≡ Some x → is_normal x.scope ≡ false
      → Legal s k (create b (for_param product p)) m (made_is (Obtained d)) m₁
      → Legal s k (supply product ps (p + 1) (h ++ Some (at b d) ∷ [])) m₁ a m'
      → Legal s k (supply product ps p h) m a m'
  supply_failed : (k p b : ℕ) (product : Option InstanceId) (ps : List ℕ) (h : Held) (x : Bean) (f : Failure) (m m' : Moment)
      → slice_get ps p ≡ Some b → bean_at s b ≡ Some x → is_normal x.scope ≡ false
      → Legal s k (create b (for_param product p)) m (made_is (Refused f)) m'
      → Legal s k (supply product ps p h) m (held_is h (Some f)) m'
  -- ---- invocations: the interceptors of the chain in order, then the bean's own body (Interceptors 2.1, Interceptor
  -- Ordering); a bean without one gives null, with no frame
  linked : (k l q : ℕ) (i : InstanceId) (place : Place) (x : Invocable) (h : Held) (arg : Val) (a : Answer) (m m' : Moment)
      → invocable_at s i.bean place ≡ Some x → slice_get x.chain l ≡ Some q
      → Legal s k (frame (seat_on i (Interceptor q) place) h arg (l + 1)) m a m'
      → Legal s k (invoke i place h arg l) m a m'
  bare : (k l : ℕ) (i : InstanceId) (place : Place) (x : Invocable) (h : Held) (arg : Val) (m : Moment)
      → invocable_at s i.bean place ≡ Some x → length x.chain ≤ l → x.part ≡ None
      → Legal s k (invoke i place h arg l) m (answered_is (answered (Value Null) true)) m
  targeted : (k l : ℕ) (i : InstanceId) (place : Place) (x : Invocable) (part : Part) (h : Held) (arg : Val) (a : Answer) (m m' : Moment)
      → invocable_at s i.bean place ≡ Some x → length x.chain ≤ l → x.part ≡ Some part
      → Legal s k (frame (seat_on i Target place) h arg l) m a m'
      → Legal s k (invoke i place h arg l) m a m'
  -- ---- frames (the limits of depth, of askings and of 64 acts: profile)
  frame_too_deep : (k l : ℕ) (seat : Seat) (h : Held) (arg : Val) (m : Moment)
      → k ≡ 0
      → Legal s k (frame seat h arg l) m (answered_is (answered (Failed failures.Depth) false)) m
  framed : (k j l : ℕ) (seat : Seat) (h : Held) (arg : Val) (o : Outcome) (c : Bool) (m m₁ m₂ m' : Moment)
      → k ≡ j + 1
      → m₁ ≡ put (entries.Enter seat arg) m
      → Legal s j (asks seat h l 0 false) m₁ (answered_is (answered o c)) m₂
      → m' ≡ put (entries.Leave o) m₂
      → Legal s k (frame seat h arg l) m (answered_is (answered o (has_returned seat.actor o c))) m'
  out_of_budget : (k l j : ℕ) (c : Bool) (seat : Seat) (h : Held) (m : Moment)
      → 20000 ≤ m.asked
      → Legal s k (asks seat h l j c) m (answered_is (answered (Failed failures.Budget) c)) m
  ended : (k l j : ℕ) (c : Bool) (seat : Seat) (h : Held) (x : Act) (o : Outcome) (m m' : Moment)
      → m.asked < 20000 → m' ≡ ask_more m → Permits s seat x
      → ending x ≡ Some o
      → Legal s k (asks seat h l j c) m (answered_is (answered o c)) m'
  stopped : (k l : ℕ) (c : Bool) (seat : Seat) (h : Held) (x : Act) (m m' : Moment)
      → m.asked < 20000 → m' ≡ ask_more m → Permits s seat x
      → ending x ≡ None
      → Legal s k (asks seat h l 64 c) m (answered_is (answered (Failed failures.Steps) c)) m'
  went_on : (k l j : ℕ) (c d : Bool) (seat : Seat) (h : Held) (x : Act) (r : Outcome) (a : Answer) (m m₁ m₂ m' : Moment)
      → m.asked < 20000 → m₁ ≡ ask_more m → Permits s seat x
      → j < 64
      → Legal s k (does seat h l x) m₁ (answered_is (answered r d)) m₂
      → Legal s k (asks seat h l (j + 1) (c || d)) m₂ a m'
      → Legal s k (asks seat h l j c) m a m'
  -- ---- acts
  touched : (k l n : ℕ) (seat : Seat) (h : Held) (x : Act) (r : Outcome) (m m' : Moment)
      → seat.number ≡ Some n → Touches n seat.actor x m r m'
      → Legal s k (does seat h l x) m (answered_is (answered r false)) m'
  called : (k l site : ℕ) (seat : Seat) (h : Held) (part : Part) (c : CallSite) (arg : Val) (o : Outcome) (m m₁ m₂ m' : Moment)
      → part_at s seat ≡ Some part → slice_get part.calls site ≡ Some c
      → m₁ ≡ put (entries.Called seat site arg) m
      → Legal s k (call seat h c arg) m₁ (outcome_is o) m₂
      → m' ≡ put (entries.Got o) m₂
      → Legal s k (does seat h l (Call site arg)) m (answered_is (answered o false)) m'
  fired : (k l site : ℕ) (seat : Seat) (h : Held) (part : Part) (os : List Notified) (arg : Val) (o : Outcome) (m m₁ m₂ m' : Moment)
      → part_at s seat ≡ Some part → slice_get part.fires site ≡ Some os
      → m₁ ≡ put (entries.Fired seat site arg) m
      → Legal s k (fire os 0 arg) m₁ (outcome_is o) m₂
      → m' ≡ put (entries.Got o) m₂
      → Legal s k (does seat h l (Fire site arg)) m (answered_is (answered o false)) m'
  proceeded : (k l : ℕ) (i : InstanceId) (seat : Seat) (h : Held) (arg : Val) (o : Outcome) (c : Bool) (m m₁ m₂ m' : Moment)
      → seat.number ≡ Some i.number → seat.bean ≡ i.bean
      → m₁ ≡ put (entries.Proceeded arg) m
      → Legal s k (invoke i seat.place h arg l) m₁ (answered_is (answered o c)) m₂
      → m' ≡ put (entries.Got o) m₂
      → Legal s k (does seat h l (Proceed arg)) m (answered_is (answered o c)) m'
  -- ---- calls (CDI 4.0, Client proxy invocation)
  unreached : (k : ℕ) (seat : Seat) (h : Held) (c : CallSite) (arg : Val) (f : Failure) (m m' : Moment)
      → Legal s k (reach seat h c) m (made_is (Refused f)) m'
      → Legal s k (call seat h c arg) m (outcome_is (Failed f)) m'
  called_managed : (k : ℕ) (seat : Seat) (h : Held) (c : CallSite) (n : ℕ) (arg : Val) (o : Outcome) (r : Bool) (m m₁ m' : Moment)
      → Legal s k (reach seat h c) m (made_is (Obtained n)) m₁
      → product_at s c.bean ≡ None
      → Legal s k (invoke (at c.bean n) (Method c.method) [] arg 0) m₁ (answered_is (answered o r)) m'
      → Legal s k (call seat h c arg) m (outcome_is o) m'
  called_product : (k : ℕ) (seat : Seat) (h : Held) (c : CallSite) (n : ℕ) (arg : Val) (o : Outcome) (m m' : Moment)
      → Legal s k (reach seat h c) m (made_is (Obtained n)) m'
      → IsSome (product_at s c.bean)
      → o ≡ Value (own_state m'.standing.live n)
      → Legal s k (call seat h c arg) m (outcome_is o) m'
  reached_shared : (k : ℕ) (seat : Seat) (h : Held) (c : CallSite) (x : Bean) (a : Answer) (m m' : Moment)
      → bean_at s c.bean ≡ Some x → is_normal x.scope ≡ true
      → Legal s k (obtain c.bean) m a m'
      → Legal s k (reach seat h c) m a m'
  reached_own : (k : ℕ) (seat : Seat) (h : Held) (c : CallSite) (x : Bean) (n : ℕ) (m : Moment)
      → bean_at s c.bean ≡ Some x → is_normal x.scope ≡ false
      → dependent_of m.standing.live seat h c.via ≡ Some n
      → Legal s k (reach seat h c) m (made_is (Obtained n)) m
  -- ---- events (CDI 4.0, Observer notification; Observer ordering)
  all_notified : (k p : ℕ) (os : List Notified) (arg : Val) (m : Moment)
      → length os ≤ p
      → Legal s k (fire os p arg) m (outcome_is (Value Null)) m
  notified : (k p : ℕ) (os : List Notified) (o : Notified) (arg v : Val) (a : Answer) (m m₁ m' : Moment)
      → slice_get os p ≡ Some o
      → Legal s k (notify o arg) m (outcome_is (Value v)) m₁
      → Legal s k (fire os (p + 1) arg) m₁ a m'
      → Legal s k (fire os p arg) m a m'
  notification_failed : (k p : ℕ) (os : List Notified) (o : Notified) (arg : Val) (f : Failure) (m m' : Moment)
      → slice_get os p ≡ Some o
      → Legal s k (notify o arg) m (outcome_is (Failed f)) m'
      → Legal s k (fire os p arg) m (outcome_is (Failed f)) m'
  skipped : (k : ℕ) (o : Notified) (observer : Observer) (x : Bean) (arg : Val) (m m' : Moment)
      → bean_at s o.bean ≡ Some x → observer_at s o.bean o.observer ≡ Some observer → IsSkipped o observer x.scope m
      → m' ≡ put (entries.Skip o) m
      → Legal s k (notify o arg) m (outcome_is (Value Null)) m'
  unattended_shared : (k : ℕ) (o : Notified) (observer : Observer) (x : Bean) (arg : Val) (f : Failure) (m m' : Moment)
      → bean_at s o.bean ≡ Some x → observer_at s o.bean o.observer ≡ Some observer → (IsSkipped o observer x.scope m → ⊥)
      → is_normal x.scope ≡ true
      → Legal s k (obtain o.bean) m (made_is (Refused f)) m'
      → Legal s k (notify o arg) m (outcome_is (Failed f)) m'
  attended_shared : (k : ℕ) (o : Notified) (observer : Observer) (x : Bean) (n : ℕ) (arg : Val) (a : Answer) (m m₁ m' : Moment)
      → bean_at s o.bean ≡ Some x → observer_at s o.bean o.observer ≡ Some observer → (IsSkipped o observer x.scope m → ⊥)
      → is_normal x.scope ≡ true
      → Legal s k (obtain o.bean) m (made_is (Obtained n)) m₁
      → Legal s k (attend (at o.bean n) o.observer observer arg) m₁ a m'
      → Legal s k (notify o arg) m a m'
  unattended_own : (k : ℕ) (o : Notified) (observer : Observer) (x : Bean) (arg : Val) (f : Failure) (m m' : Moment)
      → bean_at s o.bean ≡ Some x → observer_at s o.bean o.observer ≡ Some observer → (IsSkipped o observer x.scope m → ⊥)
      → is_normal x.scope ≡ false
      → Legal s k (create o.bean Nobody) m (made_is (Refused f)) m'
      → Legal s k (notify o arg) m (outcome_is (Failed f)) m'
  attended_own : (k : ℕ) (o : Notified) (observer : Observer) (x : Bean) (n : ℕ) (arg : Val) (a : Answer) (m m₁ m₂ m' : Moment)
      → bean_at s o.bean ≡ Some x → observer_at s o.bean o.observer ≡ Some observer → (IsSkipped o observer x.scope m → ⊥)
      → is_normal x.scope ≡ false
      → Legal s k (create o.bean Nobody) m (made_is (Obtained n)) m₁
      → Legal s k (attend (at o.bean n) o.observer observer arg) m₁ a m₂
      → Ends s (destroy (at o.bean n)) m₂ m'
      → Legal s k (notify o arg) m a m'
  not_supplied : (k p : ℕ) (i : InstanceId) (observer : Observer) (h : Held) (arg : Val) (f : Failure) (m m₁ m' : Moment)
      → Legal s k (supply None observer.params 0 []) m (held_is h (Some f)) m₁
      → Ends s (held h (length h)) m₁ m'
      → Legal s k (attend i p observer arg) m (outcome_is (Failed f)) m'
  attended : (k p : ℕ) (i : InstanceId) (observer : Observer) (h : Held) (arg : Val) (o : Outcome) (c : Bool) (m m₁ m₂ m' : Moment)
      → Legal s k (supply None observer.params 0 []) m (held_is h None) m₁
      → Legal s k (invoke i (Observing p) h arg 0) m₁ (answered_is (answered o c)) m₂
      → Ends s (held h (length h)) m₂ m'
      → Legal s k (attend i p observer arg) m (outcome_is o) m'
