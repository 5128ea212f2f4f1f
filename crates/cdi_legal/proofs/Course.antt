-- The scheme of what holds along legal trees and ends: each case is gone through here, once.
use Rattle.cdi_legal.proofs.Common.{arith, ◌≡◌, ◌<◌, ℕ, false, None, Some, refl, Outcome, Act, Call, Proceed, IsFull, Actor, InstanceId}
use Rattle.cdi_legal.proofs.Common.{Owner, Nobody, Seat, Scene, Touches, Ends, End, Answer, Legal, Node, Moment, put, ask_more, Entry}
use Rattle.cdi_legal.proofs.Common.{Create, ◌+◌, Bool, true, ap, ◌∙◌, Scope, context_of, is_of, Target, Point, is_normal, Option, Failure}
use Rattle.cdi_legal.proofs.Common.{Val, as_product, bean_at, Bean, Product, Permits, for_param, link, producer, target, IsCalledAt, found}
use Rattle.cdi_legal.proofs.Common.{managed_at, product_at, Injection, Managed, create, disposer, Destroy, Enter, Gone, Got, Leave}
use Rattle.cdi_legal.proofs.Common.{Proceeded, Skip, false≢true}
use Rattle.cdi_model.specs.declared.decl.Scope.TheVariants as scopes
use Rattle.cdi_bodies.specs.declared.act.Act.TheVariants.{Fire}
use Rattle.cdi_scene.specs.{Scene.invocable_at, Scene.observer_at, Scene.place_of, declared.scene.Observer.Observer}
use Rattle.cdi_scene.specs.declared.{place.Place.TheVariants.Pre, place.Place.TheVariants.Producer, scene.Notified.Notified}
use Rattle.cdi_legal.specs.declared.entry.Entry.TheVariants.{Broken, Called, Fired, Ready}
use Rattle.cdi_legal.specs.{Ends.seat_of_class, Legal.IsInactive}
use Rattle.cdi_legal.specs.Ends as ends
use Rattle.cdi_legal.specs.Legal as nodes

-- ---- what is known where steps begin

-- the owner is no context
abbrev pub IsOutside : Owner → Type 0
IsOutside o = (scope : Scope) → is_of scope o ≡ false

-- An instance of the bean may begin for the owner: the context of a normal scope, in which none is found and which is active, or a
-- point or nobody, where the bean is dependent.
pub record MayBegin (s : Scene) (b : ℕ) (o : Owner) (m : Moment) : Type 0 where
  pub bean : Bean
  pub there : bean_at s b ≡ Some bean
  pub none : is_normal bean.scope ≡ true → found m.standing.live bean.scope b ≡ None
  pub owner : is_normal bean.scope ≡ true → o ≡ context_of bean.scope
  pub active : is_normal bean.scope ≡ true → IsInactive bean.scope m → ⊥
  pub outside : is_normal bean.scope ≡ false → IsOutside o

-- what a law asks where an instance of a bean begins for an owner, where a frame begins at a seat, and where a body acts there
pub record Claims : Type 1 where
  pub create : ℕ → Owner → Moment → Type 0
  pub enter : Seat → Type 0
  pub act : Seat → Act → Type 0

-- what is asked where the node begins
abbrev pub Given : Claims → Node → Moment → Type 0
Given C (create b o) m = C.create b o m
Given C (nodes.frame seat h arg l) m = C.enter seat
Given C (nodes.produce i product None) m = C.enter (seat_of_class product.declaring (Producer i.bean))
Given C (nodes.does seat h l x) m = C.act seat x
Given C node m = Unit {0}

abbrev pub GivenEnd : Claims → End → Type 0
GivenEnd C (ends.frame_back seat arg k o) = C.enter seat
GivenEnd C end = Unit {0}

-- it closes the creation of this instance
pub data Closes (i : InstanceId) : Entry → Type 0 where
  ready : (product : Option Val) → Closes i (Ready i product)
  broken : (f : Failure) → Closes i (Broken i f)

-- the entry of an act at a seat within which others come
pub data Writes (seat : Seat) : Act → Entry → Type 0 where
  call : (site : ℕ) (arg : Val) → Writes seat (Call site arg) (Called seat site arg)
  fire : (site : ℕ) (arg : Val) → Writes seat (Fire site arg) (Fired seat site arg)
  proceed : (arg : Val) → Writes seat (Proceed arg) (Proceeded arg)

-- ---- what is proved

pub data Ground : Type 0 where
  -- outside destruction, where so many entries may still be opened
  outside : ℕ → Ground
  -- where instances are destroyed, and within the destruction of one
  ending : Ground
  inside : Ground

-- what holds between the moments before and after: of nodes, of the rest of a frame at a seat after so many answers, of an act there,
-- and of the rest of a frame within a destruction
pub record Relations : Type 1 where
  pub over : Ground → Moment → Moment → Type 0
  pub asks : ℕ → Seat → ℕ → Moment → Moment → Type 0
  pub act : ℕ → Seat → Act → Moment → Moment → Type 0
  pub asks_back : Seat → ℕ → Bool → Moment → Moment → Type 0

abbrev pub Leads : Relations → ℕ → Node → Moment → Moment → Type 0
Leads R k (nodes.asks seat h l j c) m m' = R.asks k seat j m m'
Leads R k (nodes.does seat h l x) m m' = R.act k seat x m m'
Leads R k node m m' = R.over (outside k) m m'

abbrev pub LeadsEnd : Relations → End → Moment → Moment → Type 0
LeadsEnd R (ends.asks_back seat k j p o) m m' = R.asks_back seat j p m m'
LeadsEnd R (ends.callback i) m m' = R.over inside m m'
LeadsEnd R (ends.invoke_back i arg k o) m m' = R.over inside m m'
LeadsEnd R (ends.frame_back seat arg k o) m m' = R.over inside m m'
LeadsEnd R end m m' = R.over ending m m'

-- it holds along destructions
pub record IsEnding (s : Scene) (C : Claims) (R : Relations) : Type 0 where
  pub none : (g : Ground) (m : Moment) → R.over g m m
  pub then : (g : Ground) (a b c : Moment) → R.over g a b → R.over g b c → R.over g a c
  pub may_enter : (seat : Seat) → IsCalledAt s seat → C.enter seat
  pub may_act : (seat : Seat) (x : Act) → Permits s seat x → C.act seat x
  pub within : (m m' : Moment) → R.over ending m m' → R.over inside m m'
  pub destroyed : (i : InstanceId) (m m₁ m₂ m' : Moment) → m₁ ≡ put (Destroy i) m → R.over inside m₁ m₂ → m' ≡ put (Gone i) m₂
      → R.over ending m m'
  pub entered_back : (seat : Seat) (arg : Val) (o : Outcome) (m m₁ m₂ m' : Moment) → C.enter seat → m₁ ≡ put (Enter seat arg) m
      → R.asks_back seat 0 false m₁ m₂ → m' ≡ put (Leave o) m₂ → R.over inside m m'
  pub ended_back : (seat : Seat) (j : ℕ) (p : Bool) (m : Moment) → R.asks_back seat j p m m
  pub touched_back : (seat : Seat) (j : ℕ) (p : Bool) (x : Act) (n : ℕ) (r : Outcome) (m m₁ m' : Moment) → C.act seat x → j < 8
      → seat.number ≡ Some n → Touches n seat.actor x m r m₁ → R.asks_back seat (j + 1) p m₁ m' → R.asks_back seat j p m m'
  pub proceeded_back : (seat : Seat) (j : ℕ) (arg : Val) (o : Outcome) (m m₁ m₂ m₃ m' : Moment) → C.act seat (Proceed arg) → j < 8
      → m₁ ≡ put (Proceeded arg) m → R.over inside m₁ m₂ → m₃ ≡ put (Got o) m₂ → R.asks_back seat (j + 1) true m₃ m'
      → R.asks_back seat j false m m'

-- and along all else
pub record IsCourse (s : Scene) (C : Claims) (R : Relations) : Type 0 where
  pub ends : IsEnding s C R
  pub may_create : (b : ℕ) (o : Owner) (m : Moment) → MayBegin s b o m → C.create b o m
  pub ended : (k : ℕ) (m m' : Moment) → R.over ending m m' → R.over (outside k) m m'
  pub skipped : (k : ℕ) (o : Notified) (observer : Observer) (m m' : Moment) → observer_at s o.bean o.observer ≡ Some observer
      → m' ≡ put (Skip o) m → R.over (outside k) m m'
  pub created : (k j b : ℕ) (o : Owner) (i : InstanceId) (e : Entry) (m m₁ m₂ m' : Moment) → k ≡ j + 1 → C.create b o m
      → (IsFull m.standing → ⊥) → i.bean ≡ b → i.number ≡ m.standing.given + 1 → m₁ ≡ put (Create i o) m
      → R.over (outside j) m₁ m₂ → Closes i e → m' ≡ put e m₂ → R.over (outside k) m m'
  pub entered : (k j : ℕ) (seat : Seat) (arg : Val) (o : Outcome) (m m₁ m₂ m' : Moment) → k ≡ j + 1 → C.enter seat
      → m₁ ≡ put (Enter seat arg) m → R.asks j seat 0 m₁ m₂ → m' ≡ put (Leave o) m₂ → R.over (outside k) m m'
  pub unasked : (k : ℕ) (seat : Seat) (j : ℕ) (m : Moment) → R.asks k seat j m m
  pub asked_last : (k : ℕ) (seat : Seat) (j : ℕ) (m m' : Moment) → m.asked < 20000 → m' ≡ ask_more m → R.asks k seat j m m'
  pub asked : (k : ℕ) (seat : Seat) (j : ℕ) (x : Act) (m m₁ m₂ m' : Moment) → m.asked < 20000 → m₁ ≡ ask_more m → j < 64
      → R.act k seat x m₁ m₂ → R.asks k seat (j + 1) m₂ m' → R.asks k seat j m m'
  pub touched : (k : ℕ) (seat : Seat) (x : Act) (n : ℕ) (r : Outcome) (m m' : Moment) → C.act seat x → seat.number ≡ Some n
      → Touches n seat.actor x m r m' → R.act k seat x m m'
  pub acted : (k : ℕ) (seat : Seat) (x : Act) (e : Entry) (o : Outcome) (m m₁ m₂ m' : Moment) → C.act seat x → Writes seat x e
      → m₁ ≡ put e m → R.over (outside k) m₁ m₂ → m' ≡ put (Got o) m₂ → R.act k seat x m m'

-- ---- ends

pub invoked : (s : Scene) (b : ℕ) (x : Managed) → managed_at s b ≡ Some x → invocable_at s b Pre ≡ Some x.pre
invoked s b x there = ap (λ (o : Option Managed). elim o [ Some managed ↦ place_of managed Pre | None ↦ None ]) there

pub ends_course : {s : Scene} {C : Claims} {R : Relations} → IsEnding s C R → {e : End} {m m' : Moment} → Ends s e m m' → GivenEnd C e
    → LeadsEnd R e m m'
ends_course law (Ends.destroyed i m m₁ m₂ m₃ m' p0 p1 p2 p3) _ =
    law.destroyed i m m₁ m₃ m' p0 (law.then inside m₁ m₂ m₃ (ends_course law p1 tt) (law.within m₂ m₃ (ends_course law p2 tt))) p3
ends_course law (Ends.no_dependent _ m _) _ = law.none ending m
ends_course law (Ends.youngest _ _ m m₁ m' _ p1 p2) _ = law.then ending m m₁ m' (ends_course law p1 tt) (ends_course law p2 tt)
ends_course law (Ends.none_held _ m) _ = law.none ending m
ends_course law (Ends.proxy_held _ _ _ _ _ _ _ p2) _ = ends_course law p2 tt
ends_course law (Ends.instance_held _ _ _ _ m m₁ m' _ _ p2 p3) _ = law.then ending m m₁ m' (ends_course law p2 tt) (ends_course law p3 tt)
ends_course law (Ends.context_empty _ m _) _ = law.none ending m
ends_course law (Ends.context_left _ _ m m₁ m' _ p1 p2) _ = law.then ending m m₁ m' (ends_course law p1 tt) (ends_course law p2 tt)
ends_course law (Ends.called_back _ _ _ _ _ _ p1) _ = ends_course law p1 tt
ends_course law (Ends.undisposed _ _ m _ _) _ = law.none inside m
ends_course law (Ends.disposed i b part _ _ _ p0 p1 p2) _ = ends_course law p2 (law.may_enter _ (disposer i.bean b part p0 p1))
ends_course law (Ends.no_bean _ m _ _) _ = law.none inside m
ends_course {s} law (Ends.linked_back i b _ k q _ _ _ p0 p1 p2) _ =
    ends_course law p2 (law.may_enter _ (link i Pre b.pre k q (invoked s i.bean b p0) p1))
ends_course law (Ends.bare_back _ _ _ _ m _ _ _) _ = law.none inside m
ends_course {s} law (Ends.targeted_back i b part _ _ _ _ _ p0 _ p2 p3) _ =
    ends_course law p3 (law.may_enter _ (target i Pre b.pre part (invoked s i.bean b p0) p2))
ends_course law (Ends.framed_back seat arg _ o m m₁ m₂ m' p0 p1 p2) g =
    law.entered_back seat arg o m m₁ m₂ m' g p0 (ends_course law p1 tt) p2
ends_course law (Ends.ended_back seat _ j p _ _ m _ _) _ = law.ended_back seat j p m
ends_course law (Ends.stopped_back seat _ p _ m _ _) _ = law.ended_back seat 8 p m
ends_course law (Ends.proceeded_twice seat _ j _ m _) _ = law.ended_back seat j true m
ends_course law (Ends.touched_back seat _ j n p x r _ m m₁ m' p0 p1 p2 p3 p4) _ =
    law.touched_back seat j p x n r m m₁ m' (law.may_act seat x p0) p1 p2 p3 (ends_course law p4 tt)
ends_course law (Ends.proceeded_back seat _ _ j v r _ m m₁ m₂ m₃ m' p0 p1 _ _ p4 p5 p6 p7) _ =
    law.proceeded_back seat j v r m m₁ m₂ m₃ m' (law.may_act seat (Proceed v) p0) p1 p4 (ends_course law p5 tt) p6 (ends_course law p7 tt)

-- ---- nodes

pub outside-nobody : IsOutside Nobody
outside-nobody scopes.Request = refl
outside-nobody other = refl

pub outside-point : (n : ℕ) (actor : Actor) (p : ℕ) → IsOutside (Point n actor p)
outside-point n actor p scopes.Request = refl
outside-point n actor p other = refl

pub outside-param : (product : Option InstanceId) (p : ℕ) → IsOutside (for_param product p)
outside-param (Some product) p = outside-point product.number Target p
outside-param None p = outside-nobody

-- an instance of a dependent bean may begin for a point or for nobody
pub own_begins : (s : Scene) (b : ℕ) (x : Bean) (o : Owner) (m : Moment) → bean_at s b ≡ Some x → is_normal x.scope ≡ false → IsOutside o
    → MayBegin s b o m
own_begins s b x o m there own apart = grind (arith, false≢true)

-- one of a bean with a normal scope may where none is found, and the context is active
pub shared_begins : (s : Scene) (b : ℕ) (x : Bean) (m : Moment) → bean_at s b ≡ Some x → (IsInactive x.scope m → ⊥)
    → found m.standing.live x.scope b ≡ None → MayBegin s b (context_of x.scope) m
shared_begins s b x m there active none = grind (arith, x.scope, outside-nobody, false≢true)

pub product_there : (s : Scene) (b : ℕ) (x : Bean) (product : Product) → bean_at s b ≡ Some x → as_product x.form ≡ Some product
    → product_at s b ≡ Some product
product_there s b x product there is = ap (λ (o : Option Bean). elim o [ Some bean ↦ as_product bean.form | None ↦ None ]) there ∙ is

-- what is asked where an instance of a dependent bean begins
owned : {s : Scene} {C : Claims} {R : Relations} → IsCourse s C R → (b : ℕ) (x : Bean) (o : Owner) (m : Moment)
    → bean_at s b ≡ Some x → is_normal x.scope ≡ false → IsOutside o → C.create b o m
owned {s} law b x o m there own apart = law.may_create b o m (own_begins s b x o m there own apart)

for_point : {s : Scene} {C : Claims} {R : Relations} → IsCourse s C R → (i : InstanceId) (point : Injection) (x : Bean) (m : Moment)
    → bean_at s point.bean ≡ Some x → is_normal x.scope ≡ false → C.create point.bean (Point i.number point.actor point.point) m
for_point law i point x m there own =
    owned law point.bean x (Point i.number point.actor point.point) m there own (outside-point i.number point.actor point.point)

pub legal_course : {s : Scene} {C : Claims} {R : Relations} → IsCourse s C R → {k : ℕ} {x : Node} {a : Answer} {m m' : Moment}
    → Legal s k x m a m' → Given C x m → Leads R k x m m'
legal_course law (Legal.inactive k _ _ m _ _) _ = law.ends.none (outside k) m
legal_course law (Legal.present k _ _ _ m _ _ _ _) _ = law.ends.none (outside k) m
legal_course law (Legal.creating k _ _ _ m _ _ _ _) _ = law.ends.none (outside k) m
legal_course {s} law (Legal.absent _ b x _ m _ p0 p1 p2 p3) _ =
    legal_course law p3 (law.may_create b (context_of x.scope) m (shared_begins s b x m p0 p1 p2))
legal_course law (Legal.too_deep k _ _ m _) _ = law.ends.none (outside k) m
legal_course law (Legal.too_many k _ _ m _ _) _ = law.ends.none (outside k) m
legal_course law (Legal.made k j b _ o i v m m₁ m₂ m' p0 p1 _ p3 p4 p5 p6 p7) g =
    law.created k j b o i _ m m₁ m₂ m' p0 g p1 p3 p4 p5 (legal_course law p6 tt) (ready _) p7
legal_course law (Legal.broken k j b o i f m m₁ m₂ m₃ m' p0 p1 p2 p3 p4 p5 p6 p7) g =
    law.ends.then (outside k) m m₃ m' (law.created k j b o i _ m m₁ m₂ m₃ p0 g p1 p2 p3 p4 (legal_course law p5 tt) (broken f) p6)
    (law.ended k m₃ m' (ends_course law.ends p7 tt))
legal_course law (Legal.uninjected _ _ _ _ _ _ _ p1) _ = legal_course law p1 tt
legal_course law (Legal.construction_failed k _ _ _ _ m m₁ m' _ p1 p2) _ =
    law.ends.then (outside k) m m₁ m' (legal_course law p1 tt) (legal_course law p2 tt)
legal_course law (Legal.not_constructed k _ _ _ m m₁ m' _ p1 p2) _ =
    law.ends.then (outside k) m m₁ m' (legal_course law p1 tt) (legal_course law p2 tt)
legal_course law (Legal.constructed k _ _ _ _ _ m m₁ m₂ m' _ p1 p2 p3) _ =
    law.ends.then (outside k) m m₁ m' (legal_course law p1 tt)
    (law.ends.then (outside k) m₁ m₂ m' (legal_course law p2 tt) (legal_course law p3 tt))
legal_course {s} law (Legal.produced_statically _ i x b _ _ _ p0 p1 p2 p3) _ =
    legal_course law p3 (law.ends.may_enter _ (producer i.bean b (product_there s i.bean x b p0 p1) p2))
legal_course law (Legal.no_shared_host _ _ _ _ _ _ _ _ _ _ _ p4) _ = legal_course law p4 tt
legal_course law (Legal.produced_on_shared k _ _ _ _ _ _ m m₁ m' _ _ _ _ _ p5 p6) _ =
    law.ends.then (outside k) m m₁ m' (legal_course law p5 tt) (legal_course law p6 tt)
legal_course law (Legal.no_own_host _ _ b d _ m _ _ _ p2 p3 p4) _ =
    legal_course law p4 (owned law b.declaring d Nobody m p2 p3 outside-nobody)
legal_course law (Legal.produced_on_own k _ _ _ d b _ m m₁ m₂ m' _ _ _ p3 p4 p5 p6 p7) _ =
    law.ends.then (outside k) m m₁ m'
    (legal_course law p5 (owned law b.declaring d Nobody m p3 p4 outside-nobody))
    (law.ends.then (outside k) m₁ m₂ m' (legal_course law p6 tt) (law.ended k m₂ m' (ends_course law.ends p7 tt)))
legal_course law (Legal.unsupplied _ _ _ _ _ _ _ _ p0) _ = legal_course law p0 tt
legal_course law (Legal.run_statically k _ _ _ _ _ m m₁ m' p0 p1) g =
    law.ends.then (outside k) m m₁ m' (legal_course law p0 tt) (legal_course law p1 g)
legal_course law (Legal.run_on_host k _ _ _ _ _ _ m m₁ m' p0 p1) _ =
    law.ends.then (outside k) m m₁ m' (legal_course law p0 tt) (legal_course law p1 tt)
legal_course law (Legal.no_more_points k _ _ _ m _) _ = law.ends.none (outside k) m
legal_course law (Legal.proxy_injected _ _ _ _ _ _ _ _ _ _ _ _ p3) _ = legal_course law p3 tt
legal_course law (Legal.dependent_injected k _ _ i _ point x _ m m₁ m' _ p1 p2 p3 p4) _ =
    grind (arith, legal_course law p3 (for_point law i point x m p1 p2), legal_course law p4 tt, outside, for_point)
legal_course law (Legal.injection_failed _ _ i _ point x _ m _ _ p1 p2 p3) _ =
    legal_course law p3 (for_point law i point x m p1 p2)
legal_course law (Legal.no_more_params k _ _ _ _ m _) _ = law.ends.none (outside k) m
legal_course law (Legal.proxy_supplied _ _ _ _ _ _ _ _ _ _ _ _ _ p3) _ = legal_course law p3 tt
legal_course law (Legal.dependent_supplied k p b _ product _ _ x _ m m₁ m' _ p1 p2 p3 p4) _ =
    law.ends.then (outside k) m m₁ m' (legal_course law p3 (owned law b x (for_param product p) m p1 p2 (outside-param product p)))
    (legal_course law p4 tt)
legal_course law (Legal.supply_failed _ p b product _ _ x _ m _ _ p1 p2 p3) _ =
    legal_course law p3 (owned law b x (for_param product p) m p1 p2 (outside-param product p))
legal_course law (Legal.linked _ l q i place x _ _ _ _ _ p0 p1 p2) _ =
    legal_course law p2 (law.ends.may_enter _ (link i place x l q p0 p1))
legal_course law (Legal.bare k _ _ _ _ _ _ m _ _ _) _ = law.ends.none (outside k) m
legal_course law (Legal.targeted _ _ i place x part _ _ _ _ _ p0 _ p2 p3) _ =
    legal_course law p3 (law.ends.may_enter _ (target i place x part p0 p2))
legal_course law (Legal.frame_too_deep k _ _ _ _ m _) _ = law.ends.none (outside k) m
legal_course law (Legal.framed k j _ seat _ arg o _ m m₁ m₂ m' p0 p1 p2 p3) g =
    law.entered k j seat arg o m m₁ m₂ m' p0 g p1 (legal_course law p2 tt) p3
legal_course law (Legal.out_of_budget k _ j _ seat _ m _) _ = law.unasked k seat j m
legal_course law (Legal.ended k _ j _ seat _ _ _ m m' p0 p1 _ _) _ = law.asked_last k seat j m m' p0 p1
legal_course law (Legal.stopped k _ _ seat _ _ m m' p0 p1 _ _) _ = law.asked_last k seat 64 m m' p0 p1
legal_course law (Legal.went_on k _ j _ _ seat _ x _ _ m m₁ m₂ m' p0 p1 p2 p3 p4 p5) _ =
    law.asked k seat j x m m₁ m₂ m' p0 p1 p3 (legal_course law p4 (law.ends.may_act seat x p2)) (legal_course law p5 tt)
legal_course law (Legal.touched k _ n seat _ x r m m' p0 p1) g = law.touched k seat x n r m m' g p0 p1
legal_course law (Legal.called k _ site seat _ _ _ arg o m m₁ m₂ m' _ _ p2 p3 p4) g =
    law.acted k seat _ _ o m m₁ m₂ m' g (call site arg) p2 (legal_course law p3 tt) p4
legal_course law (Legal.fired k _ site seat _ _ _ arg o m m₁ m₂ m' _ _ p2 p3 p4) g =
    law.acted k seat _ _ o m m₁ m₂ m' g (fire site arg) p2 (legal_course law p3 tt) p4
legal_course law (Legal.proceeded k _ _ seat _ arg o _ m m₁ m₂ m' _ _ p2 p3 p4) g =
    law.acted k seat _ _ o m m₁ m₂ m' g (proceed arg) p2 (legal_course law p3 tt) p4
legal_course law (Legal.unreached _ _ _ _ _ _ _ _ p0) _ = legal_course law p0 tt
legal_course law (Legal.called_managed k _ _ _ _ _ _ _ m m₁ m' p0 _ p2) _ =
    law.ends.then (outside k) m m₁ m' (legal_course law p0 tt) (legal_course law p2 tt)
legal_course law (Legal.called_product _ _ _ _ _ _ _ _ _ p0 _ _) _ = legal_course law p0 tt
legal_course law (Legal.reached_shared _ _ _ _ _ _ _ _ _ _ p2) _ = legal_course law p2 tt
legal_course law (Legal.reached_own k _ _ _ _ _ m _ _ _) _ = law.ends.none (outside k) m
legal_course law (Legal.all_notified k _ _ _ m _) _ = law.ends.none (outside k) m
legal_course law (Legal.notified k _ _ _ _ _ _ m m₁ m' _ p1 p2) _ =
    law.ends.then (outside k) m m₁ m' (legal_course law p1 tt) (legal_course law p2 tt)
legal_course law (Legal.notification_failed _ _ _ _ _ _ _ _ _ p1) _ = legal_course law p1 tt
legal_course law (Legal.skipped k o observer _ _ m m' _ p1 _ p3) _ = law.skipped k o observer m m' p1 p3
legal_course law (Legal.unattended_shared _ _ _ _ _ _ _ _ _ _ _ _ p4) _ = legal_course law p4 tt
legal_course law (Legal.attended_shared k _ _ _ _ _ _ m m₁ m' _ _ _ _ p4 p5) _ =
    law.ends.then (outside k) m m₁ m' (legal_course law p4 tt) (legal_course law p5 tt)
legal_course law (Legal.unattended_own _ o _ x _ _ m _ p0 _ _ p3 p4) _ =
    legal_course law p4 (owned law o.bean x Nobody m p0 p3 outside-nobody)
legal_course law (Legal.attended_own k o _ x _ _ _ m m₁ m₂ m' p0 _ _ p3 p4 p5 p6) _ =
    law.ends.then (outside k) m m₁ m' (legal_course law p4 (owned law o.bean x Nobody m p0 p3 outside-nobody))
    (law.ends.then (outside k) m₁ m₂ m' (legal_course law p5 tt) (law.ended k m₂ m' (ends_course law.ends p6 tt)))
legal_course law (Legal.not_supplied k _ _ _ _ _ _ m m₁ m' p0 p1) _ =
    law.ends.then (outside k) m m₁ m' (legal_course law p0 tt) (law.ended k m₁ m' (ends_course law.ends p1 tt))
legal_course law (Legal.attended k _ _ _ _ _ _ _ m m₁ m₂ m' p0 p1 p2) _ =
    law.ends.then (outside k) m m₁ m' (legal_course law p0 tt)
    (law.ends.then (outside k) m₁ m₂ m' (legal_course law p1 tt) (law.ended k m₂ m' (ends_course law.ends p2 tt)))
