-- Along a legal tree each instance stays that was live before: what is destroyed was made within.
use Rattle.cdi_legal.proofs.Common.{◌≡◌, ◌<◌, ℕ, false, None, Some, refl, Outcome, Act, Load, Store, Actor, InstanceId, Owner, Nobody}
use Rattle.cdi_legal.proofs.Common.{Scene, Touches, Ends, End, Answer, Legal, Node, Uses, Use, Runs, Command, Moment, put, ask_more, Entry}
use Rattle.cdi_legal.proofs.Common.{suc, ◌+◌, ◌≤◌, Bool, true, List, [], ◌∷◌, arith, ap, subst, sym, ◌∙◌, AllByRecursion, Scope, context_of}
use Rattle.cdi_legal.proofs.Common.{Standing, Target, Interceptor, Instance, Request, Application, Point, applied, effect, step, Effect}
use Rattle.cdi_legal.proofs.Common.{Option, Val, Null, Held, for_param, IsRising, create, ◌++◌, not, ◌==◌, map, slice_get, zero}
use Rattle.cdi_legal.proofs.Common.{if◌then◌else◌, IsOwnerOf, without, keep, finish, last_of, IsRising-without, IsRising-finished}
use Rattle.cdi_legal.proofs.Common.{IsRising-stored, IsStill, numbered, IsRising-more, made_is, held_is, find}
use Rattle.cdi_model.specs.declared.decl.Scope.TheVariants as scopes
use Rattle.cdi_contexts.proofs.Last.{young_if}
use Rattle.cdi_legal.proofs.{Growing.legal_grows, Sharing.same-keep, Sharing.same-finish}
use Rattle.cdi_legal.specs.declared.entry.Made.TheVariants.{Instance as Obtained}
use Rattle.cdi_legal.specs.Keeps.{Keeps}
use Rattle.cdi_legal.specs.Ends as ends
use Rattle.cdi_legal.specs.Legal as nodes
use Rattle.cdi_legal.specs.Moment as effects
use Rattle.cdi_legal.specs.declared.entry.Entry.TheVariants as entries

-- ---- lists of instances

-- a test of instances by their id and owner
abbrev pub Test : Type 0
Test = InstanceId → Owner → Bool

-- the first instance that passes
abbrev pub found_by : Test → List Instance → Option Instance
found_by f live = find (λ i. f i.id i.owner) live

-- it leaves whose an instance is, and that it is ready
abbrev IsSteadyChange : (Instance → Instance) → Type 0
IsSteadyChange change =
    (i : Instance) → ((change i).id ≡ i.id) × ((change i).owner ≡ i.owner) × (i.is_ready ≡ true
    → (change i).is_ready ≡ true)

ready-if : (b : Bool) (x y : Instance) → (x.is_ready ≡ true → y.is_ready ≡ true) → x.is_ready ≡ true
    → (if b then y else x).is_ready ≡ true
ready-if b x y h e = grind arith

steady-keep : (n : ℕ) (v : Val) → IsSteadyChange (keep n v)
steady-keep n v i = grind (arith, i.id.number, same-keep, ready-if)

steady-finish : (n : ℕ) (product : Option Val) → IsSteadyChange (finish n product)
steady-finish n None i = grind (arith, i.id.number, same-finish, ready-if)
steady-finish n (Some v) i = grind (arith, i.id.number, same-finish, ready-if)

still_if : (b : Bool) (x y i : Instance) (r s : Option Instance) → y.id ≡ x.id → y.owner ≡ x.owner
    → (x.is_ready ≡ true → y.is_ready ≡ true) → (r ≡ Some i → IsStill i s)
    → (if b then Some x else r) ≡ Some i → IsStill i (if b then Some y else s)
still_if b x y i r s d o ready rest e = grind arith

still-map : (f : Test) (change : Instance → Instance) (live : List Instance) (i : Instance) → IsSteadyChange change
    → found_by f live ≡ Some i → IsStill i (found_by f (map change live))
still-map f change [] i same e = cc
still-map f change (x ∷ xs) i same e = grind (arith, still-map f change xs i same, map, still_if)

pub still-more : (f : Test) (live : List Instance) (x i : Instance) → found_by f live ≡ Some i
    → IsStill i (found_by f (live ++ x ∷ []))
still-more f [] x i e = cc
still-more f (y ∷ ys) x i e = grind (arith, still-more f ys x i, y.id, y.owner, still_if)

-- where it is not the one that is found, the one behind it is
not-first : (c : Bool) (y i : Instance) (r : Option Instance) (k : ℕ) → y.id.number ≡ k → (i.id.number ≡ k → ⊥)
    → (if c then Some y else r) ≡ Some i → r ≡ Some i
not-first c y i r k is d e = grind arith

other_if : (f : Test) (k : ℕ) (b : Bool) (y i : Instance) (ys : List Instance) → (y.id.number == k) ≡ b
    → (i.id.number ≡ k → ⊥)
    → (found_by f ys ≡ Some i → IsStill i (found_by f (without k ys)))
    → (if f y.id y.owner then Some y else found_by f ys) ≡ Some i
    → IsStill i (found_by f (if not b then y ∷ without k ys else without k ys))
other_if f k true y i ys e d rest h =
    let is : y.id.number ≡ k = grind arith in
    rest (not-first (f y.id y.owner) y i (found_by f ys) k is d h)
other_if f k false y i ys e d rest h =
    still_if (f y.id y.owner) y y i (found_by f ys) (found_by f (without k ys)) refl refl (λ x. x) rest h

pub still-without : (f : Test) (k : ℕ) (live : List Instance) (i : Instance) → (i.id.number ≡ k → ⊥)
    → found_by f live ≡ Some i
    → IsStill i (found_by f (without k live))
still-without f k [] i d e = cc
still-without f k (y ∷ ys) i d e = other_if f k (y.id.number == k) y i ys refl d (still-without f k ys i d) e

pub still : (f : Test) (live : List Instance) (i : Instance) → found_by f live ≡ Some i → IsStill i (found_by f live)
still f live i e = record { same = i; there = e; id = refl; owner = refl; ready = λ h. h }

pub still-keep : (f : Test) (n : ℕ) (v : Val) (live : List Instance) (i : Instance) → found_by f live ≡ Some i
    → IsStill i (found_by f (map (keep n v) live))
still-keep f n v live i e = still-map f (keep n v) live i (steady-keep n v) e

pub still-finish : (f : Test) (n : ℕ) (product : Option Val) (live : List Instance) (i : Instance)
    → found_by f live ≡ Some i
    → IsStill i (found_by f (map (finish n product) live))
still-finish f n product live i e = still-map f (finish n product) live i (steady-finish n product) e

-- ---- what holds of all instances

-- the owner is no instance up to this one
abbrev pub IsFree : ℕ → Owner → Type 0
IsFree g (Point n actor point) = g < n
IsFree g other = Unit {0}

-- What is asked of each live instance, by its id, its owner and whether it is ready, beside a number of an instance: it
-- holds of each younger one as it begins, and still once that is ready.
pub record Terms : Type 1 where
  pub low : ℕ
  pub holds : InstanceId → Owner → Bool → Type 0
  pub young : (id : InstanceId) (o : Owner) → low < id.number → IsOwnerOf id.number o → IsFree low o → holds id o false
  pub ready : (id : InstanceId) (o : Owner) (r : Bool) → low < id.number → holds id o r → holds id o true

abbrev pub AllHold : Terms → List Instance → Type 0
AllHold t live = AllByRecursion (λ i. t.holds i.id i.owner i.is_ready) live

pub all-more : {X : Type 0} (P : X → Type 0) (xs : List X) (x : X) → AllByRecursion P xs → P x
    → AllByRecursion P (xs ++ x ∷ [])
all-more P [] x a p = (p, tt)
all-more P (y ∷ ys) x a p = (a.0, all-more P ys x a.1 p)

all-if : {X : Type 0} (P : X → Type 0) (b : Bool) (x : X) (xs : List X) → P x → AllByRecursion P xs
    → AllByRecursion P (if b then x ∷ xs else xs)
all-if P b x xs p a = grind arith

pub all-without : (P : Instance → Type 0) (n : ℕ) (live : List Instance) → AllByRecursion P live
    → AllByRecursion P (without n live)
all-without P n [] a = tt
all-without P n (i ∷ is) a = all-if P (not (i.id.number == n)) i (without n is) a.0 (all-without P n is a.1)

pub all-map : {X : Type 0} (P Q : X → Type 0) (f : X → X) (xs : List X) → ((x : X) → P x → Q (f x))
    → AllByRecursion P xs
    → AllByRecursion Q (map f xs)
all-map P Q f [] h a = tt
all-map P Q f (x ∷ xs) h a = (h x a.0, all-map P Q f xs h a.1)

hold-finish : (t : Terms) (n : ℕ) (product : Option Val) (b : Bool) (i : Instance) → (i.id.number == n) ≡ b → t.low < n
    → t.holds i.id i.owner i.is_ready → t.holds (finish n product i).id (finish n product i).owner (finish n product
    i).is_ready
hold-finish t n None true i e l h = grind (arith, i.id.number, t.ready, i.id, i.owner, i.is_ready)
hold-finish t n (Some v) true i e l h = grind (arith, i.id.number, t.ready, i.id, i.owner, i.is_ready)
hold-finish t n None false i e l h = rw e h
hold-finish t n (Some v) false i e l h = rw e h

hold-keep : (t : Terms) (n : ℕ) (v : Val) (b : Bool) (i : Instance) → (i.id.number == n) ≡ b
    → t.holds i.id i.owner i.is_ready
    → t.holds (keep n v i).id (keep n v i).owner (keep n v i).is_ready
hold-keep t n v b i e h = grind arith

-- ---- entries

-- the effect takes away no instance with a number up to this one, and begins none
abbrev SparesAfter : ℕ → Effect → Type 0
SparesAfter g (effects.begins id owner) = ⊥
SparesAfter g (effects.readies number product) = g < number
SparesAfter g (effects.ends number) = g < number
SparesAfter g other = Unit {0}

abbrev Spares : ℕ → Entry → Type 0
Spares g e = SparesAfter g (effect e)

abbrev pub Rises : Standing → Type 0
Rises s = IsRising s.given s.live

-- from one to the other numbers rise on, what is live up to this number stays, and what is asked of each holds on
pub record Older (t : Terms) (old new : Standing) : Type 0 where
  pub rises : Rises new
  pub grows : old.given ≤ new.given
  pub keeps : (f : Test) (i : Instance) → i.id.number ≤ t.low → found_by f old.live ≡ Some i
      → IsStill i (found_by f new.live)
  pub all : AllHold t old.live → AllHold t new.live

unchanged : (t : Terms) (s : Standing) → Rises s → Older t s s
unchanged t s r = record { rises = r; grows = omega arith; keeps = λ f i low h. still f s.live i h; all = λ a. a }

older-after : (t : Terms) (s : Standing) (x : Effect) → SparesAfter t.low x → Rises s → Older t s (applied s x)
older-after g s (effects.begins id owner) p r = absurd p
older-after g s (effects.readies number product) p r = record {
  rises = IsRising-finished s.given number product s.live r;
  grows = omega arith;
  keeps = λ f i low h. still-finish f number product s.live i h;
  all = λ a. all-map _ _ (finish number product) s.live (λ i h. hold-finish g number product (i.id.number == number) i refl p h) a;
}
older-after g s (effects.ends number) p r = record {
  rises = IsRising-without s.given number s.live r;
  grows = omega arith;
  keeps = λ f i low h. still-without f number s.live i (λ e. absurd (omega arith)) h;
  all = λ a. all-without _ number s.live a;
}
older-after g s (effects.stores number Target value) p r = record {
  rises = IsRising-stored s.given number value s.live r;
  grows = omega arith;
  keeps = λ f i low h. still-keep f number value s.live i h;
  all = λ a. all-map _ _ (keep number value) s.live (λ i h. hold-keep g number value (i.id.number == number) i refl h) a;
}
older-after g s (effects.stores number (Interceptor q) value) p r =
    record { rises = r; grows = omega arith; keeps = λ f i low h. still f s.live i h; all = λ a. a }
older-after g s effects.none p r = unchanged g s r

-- an instance that begins may have this owner
abbrev pub Admits : Terms → Owner → Type 0
Admits t o = (id : InstanceId) → t.low < id.number → IsOwnerOf id.number o → t.holds id o false

create_older : (t : Terms) (s : Standing) (id : InstanceId) (o : Owner) → t.low ≤ s.given
    → IsOwnerOf (s.given + 1) o → Admits t o
    → Rises s → Older t s (step s (entries.Create id o))
create_older t s id o l p admits r =
    let begun : Instance = record {
      id = record { bean = id.bean; number = s.given + 1 };
      owner = o;
      is_ready = false;
      state = Null;
    } in
    record {
      rises = IsRising-more s.given s.live begun r refl p;
      grows = omega arith;
      keeps = λ f i low h. still-more f s.live begun i h;
      all = λ a. all-more _ s.live begun a (admits begun.id (omega (arith, l)) p);
    }

-- ---- stretches of a run

-- where all up to this number were given before, and numbers rise
abbrev pub Stretch : Terms → Moment → Moment → Type 0
Stretch t m m' = t.low ≤ m.standing.given → Rises m.standing → Older t m.standing m'.standing

none : (g : Terms) (m : Moment) → Stretch g m m
none g m l r = unchanged g m.standing r

chain : (g : Terms) (a b c : Moment) → Stretch g a b → Stretch g b c → Stretch g a c
chain g a b c p q l r =
    let x = p l r in
    let y = q (omega (arith, l, x.grows)) x.rises in
    record {
      rises = y.rises;
      grows = omega (arith, x.grows, y.grows);
      keeps = λ f i low h.
          let k = x.keeps f i low h in
          let j = y.keeps f k.same (omega (arith, low, ap (λ (d : InstanceId). d.number) k.id)) k.there in
          record {
            same = j.same;
            there = j.there;
            id = j.id ∙ k.id;
            owner = j.owner ∙ k.owner;
            ready = λ e. j.ready (k.ready e);
          };
      all = λ a. y.all (x.all a);
    }

along : (g : Terms) (m x m' : Moment) → m' ≡ x → Older g m.standing x.standing → Older g m.standing m'.standing
along g m x m' e h = subst (λ (y : Moment). Older g m.standing y.standing) (sym e) h

entry : (g : Terms) (e : Entry) (m m' : Moment) → m' ≡ put e m → Spares g.low e → Stretch g m m'
entry g e m m' h p l r = along g m (put e m) m' h (older-after g m.standing (effect e) p r)

begin : (t : Terms) (i : InstanceId) (o : Owner) (m m' : Moment) → m' ≡ put (entries.Create i o) m
    → IsOwnerOf (m.standing.given + 1) o × Admits t o → Stretch t m m'
begin t i o m m' h p l r = along t m (put (entries.Create i o) m) m' h (create_older t m.standing i o l p.0 p.1 r)

asking : (g : Terms) (m m' : Moment) → m' ≡ ask_more m → Stretch g m m'
asking g m m' h l r = along g m (ask_more m) m' h (unchanged g m.standing r)

touch : (g : Terms) (n : ℕ) (actor : Actor) (x : Act) (m : Moment) (o : Outcome) (m' : Moment)
    → Touches n actor x m o m' → Stretch g m m'
touch g n actor Load m o m' h = entry g _ m m' h.1 tt
touch g n actor (Store v) m o m' h = entry g _ m m' h.1 tt
touch g n actor other m o m' h = absurd h

-- ---- what was made for parameters

abbrev AllAbove : ℕ → Held → Type 0
AllAbove g [] = Unit {0}
AllAbove g (None ∷ h) = AllAbove g h
AllAbove g (Some i ∷ h) = (g < i.number) × AllAbove g h

above_at : (g : ℕ) (h : Held) (j : ℕ) (i : InstanceId) → AllAbove g h → slice_get h j ≡ Some (Some i) → g < i.number
above_at g [] j i a e = cc
above_at g (None ∷ h) zero i a e = cc
above_at g (Some x ∷ h) zero i a e = let q : x ≡ i = cc in rw q at a.0
above_at g (None ∷ h) (suc j) i a e = above_at g h j i a e
above_at g (Some x ∷ h) (suc j) i a e = above_at g h j i a.1 e

above-proxy : (g : ℕ) (h : Held) → AllAbove g h → AllAbove g (h ++ None ∷ [])
above-proxy g [] a = tt
above-proxy g (None ∷ h) a = above-proxy g h a
above-proxy g (Some i ∷ h) a = (a.0, above-proxy g h a.1)

above-more : (g : ℕ) (h : Held) (i : InstanceId) → AllAbove g h → g < i.number → AllAbove g (h ++ Some i ∷ [])
above-more g [] i a p = (p, tt)
above-more g (None ∷ h) i a p = above-more g h i a p
above-more g (Some x ∷ h) i a p = (a.0, above-more g h i a.1 p)

-- the number of what was created
pub created : {s : Scene} {k b : ℕ} {o : Owner} {n : ℕ} {m m' : Moment}
    → Legal s k (create b o) m (made_is (Obtained n)) m'
    → n ≡ m.standing.given + 1
created (Legal.made _ _ _ _ _ _ _ _ _ _ _ _ _ _ _ p4 _ _ _) = p4

supplied : {s : Scene} {k p : ℕ} {product : Option InstanceId} {ps : List ℕ} {h held : Held} {f : _} {m m' : Moment}
    (g : ℕ)
    → Legal s k (nodes.supply product ps p h) m (held_is held f) m' → g ≤ m.standing.given → AllAbove g h
    → AllAbove g held
supplied g (Legal.no_more_params _ _ _ _ _ _ _) l a = a
supplied g (Legal.proxy_supplied _ _ _ _ _ h _ _ _ _ _ _ _ p3) l a = supplied g p3 l (above-proxy g h a)
supplied g (Legal.dependent_supplied _ _ _ _ _ _ h _ _ _ _ _ _ _ _ p3 p4) l a =
    supplied g p4 (omega (arith, l, legal_grows p3)) (above-more g h _ a (omega (arith, l, created p3)))
supplied g (Legal.supply_failed _ _ _ _ _ _ _ _ _ _ _ _ _ _) l a = a

-- ---- ends

-- what is destroyed is younger than this number
abbrev Floor : ℕ → End → Type 0
Floor g (ends.destroy i) = g < i.number
Floor g (ends.dependents n) = g ≤ n
Floor g (ends.held h k) = AllAbove g h
Floor g (ends.context scope) = ⊥
Floor g other = Unit {0}

young : (g n : ℕ) (d : InstanceId) (s : Standing) → last_of s.live n ≡ Some d → Rises s → g ≤ n → g < d.number
young g n d s e r l = omega (arith, (young_if s.given n s.live (Some d) r (sym e)).0, l)

pub ends_older : (g : Terms) {s : Scene} {e : End} {m m' : Moment} → Ends s e m m' → Floor g.low e → Stretch g m m'
ends_older g (Ends.destroyed _ m m₁ m₂ m₃ m' p0 p1 p2 p3) f =
    chain g m m₁ m' (entry g _ _ _ p0 tt)
    (chain g m₁ m₂ m' (ends_older g p1 tt) (chain g m₂ m₃ m' (ends_older g p2 (omega (arith, f))) (entry g _ _ _ p3 f)))
ends_older g (Ends.no_dependent _ m _) f = none g m
ends_older g (Ends.youngest n d m m₁ m' p0 p1 p2) f =
    λ l r. chain g m m₁ m' (ends_older g p1 (young g.low n d m.standing p0 r f)) (ends_older g p2 f) l r
ends_older g (Ends.none_held _ m) f = none g m
ends_older g (Ends.proxy_held _ _ _ _ _ _ _ p2) f = ends_older g p2 f
ends_older g (Ends.instance_held h j _ i m m₁ m' _ p1 p2 p3) f =
    chain g m m₁ m' (ends_older g p2 (above_at g.low h j i f p1)) (ends_older g p3 f)
ends_older g (Ends.context_empty _ m _) f = absurd f
ends_older g (Ends.context_left _ _ m m₁ m' _ p1 p2) f = absurd f
ends_older g (Ends.called_back _ _ _ _ _ _ p1) f = ends_older g p1 tt
ends_older g (Ends.undisposed _ _ m _ _) f = none g m
ends_older g (Ends.disposed _ _ _ _ _ _ _ _ p2) f = ends_older g p2 tt
ends_older g (Ends.no_bean _ m _ _) f = none g m
ends_older g (Ends.linked_back _ _ _ _ _ _ _ _ _ _ p2) f = ends_older g p2 tt
ends_older g (Ends.bare_back _ _ _ _ m _ _ _) f = none g m
ends_older g (Ends.targeted_back _ _ _ _ _ _ _ _ _ _ _ p3) f = ends_older g p3 tt
ends_older g (Ends.framed_back _ _ _ _ m m₁ m₂ m' p0 p1 p2) f =
    chain g m m₁ m' (entry g _ _ _ p0 tt) (chain g m₁ m₂ m' (ends_older g p1 tt) (entry g _ _ _ p2 tt))
ends_older g (Ends.ended_back _ _ _ _ _ _ m _ _) f = none g m
ends_older g (Ends.stopped_back _ _ _ _ m _ _) f = none g m
ends_older g (Ends.proceeded_twice _ _ _ _ m _) f = none g m
ends_older g (Ends.touched_back seat _ _ n _ act r _ m m₁ m' _ _ _ p3 p4) f =
    chain g m m₁ m' (touch g n seat.actor act m r m₁ p3) (ends_older g p4 tt)
ends_older g (Ends.proceeded_back _ _ _ _ _ _ _ m m₁ m₂ m₃ m' _ _ _ _ p4 p5 p6 p7) f =
    chain g m m₁ m' (entry g _ _ _ p4 tt)
    (chain g m₁ m₂ m' (ends_older g p5 tt) (chain g m₂ m₃ m' (entry g _ _ _ p6 tt) (ends_older g p7 tt)))

-- ---- nodes

pub nobody-admitted : (t : Terms) → Admits t Nobody
nobody-admitted t id l o = t.young id Nobody l o tt

-- an instance that begins may belong to any point of instance n
abbrev pub AdmitsPoints : Terms → ℕ → Type 0
AdmitsPoints t n = (actor : Actor) (p : ℕ) → Admits t (Point n actor p)

pub young-points : (t : Terms) (n : ℕ) → t.low < n → AdmitsPoints t n
young-points t n h actor p id l o = t.young id (Point n actor p) l o h

pub owned-context : (t : Terms) (n : ℕ) (scope : Scope) → IsOwnerOf n (context_of scope) × Admits t (context_of scope)
owned-context t n scopes.Request = (tt, λ id l o. t.young id Request l o tt)
owned-context t n scopes.Application = (tt, λ id l o. t.young id Application l o tt)
owned-context t n scopes.Dependent = (tt, nobody-admitted t)

-- the product was begun
abbrev pub WasGiven : Option InstanceId → ℕ → Type 0
WasGiven None given = Unit {0}
WasGiven (Some i) given = i.number ≤ given

pub given-more : (product : Option InstanceId) (a b : ℕ) → WasGiven product a → a ≤ b → WasGiven product b
given-more None a b h l = tt
given-more (Some i) a b h l = omega (arith, h, l)

pub owned-param : (product : Option InstanceId) (p given : ℕ) → WasGiven product given
    → IsOwnerOf (given + 1) (for_param product p)
owned-param None p given h = tt
owned-param (Some i) p given h = omega (arith, h)

-- an instance that begins may belong to any parameter of the product, or to nobody
abbrev pub AdmitsFor : Terms → Option InstanceId → Type 0
AdmitsFor t None = Unit {0}
AdmitsFor t (Some i) = AdmitsPoints t i.number

pub admits-param : (t : Terms) (product : Option InstanceId) (p : ℕ) → AdmitsFor t product
    → Admits t (for_param product p)
admits-param t None p h = nobody-admitted t
admits-param t (Some i) p h = h Target p

pub begun : (i : InstanceId) (o : Owner) (m m' : Moment) → i.number ≡ m.standing.given + 1
    → m' ≡ put (entries.Create i o) m
    → i.number ≤ m'.standing.given
begun i o m m' e h = omega (arith, e, ap (λ (x : Moment). x.standing.given) h)

-- what is asked where the node creates instances: their owners are older, and instances that begin may belong to them
abbrev pub Owns : Terms → Node → Moment → Type 0
Owns t (create b o) m = IsOwnerOf (m.standing.given + 1) o × Admits t o
Owns t (nodes.setup i) m = (i.number ≤ m.standing.given) × AdmitsPoints t i.number
Owns t (nodes.inject i ps p) m = (i.number ≤ m.standing.given) × AdmitsPoints t i.number
Owns t (nodes.supply product ps p h) m = WasGiven product m.standing.given × AdmitsFor t product
Owns t (nodes.produce i product host) m = (i.number ≤ m.standing.given) × AdmitsPoints t i.number
Owns t other m = Unit {0}

pub legal_older : (g : Terms) {s : Scene} {k : ℕ} {x : Node} {answer : Answer} {m m' : Moment} → Legal s k x m answer m'
    → Owns g x m → Stretch g m m'
legal_older g (Legal.inactive _ _ _ m _ _) a = none g m
legal_older g (Legal.present _ _ _ _ m _ _ _ _) a = none g m
legal_older g (Legal.creating _ _ _ _ m _ _ _ _) a = none g m
legal_older g (Legal.absent _ _ x _ m _ _ _ _ p3) a = legal_older g p3 (owned-context g (m.standing.given + 1) x.scope)
legal_older g (Legal.too_deep _ _ _ m _) a = none g m
legal_older g (Legal.too_many _ _ _ m _ _) a = none g m
legal_older g (Legal.made _ _ _ _ o i _ m m₁ m₂ m' _ _ _ _ p4 p5 p6 p7) a =
    λ l r.
    let above : g.low < i.number = omega (arith, l, p4) in
    chain g m m₁ m' (begin g i o m m₁ p5 a)
    (chain g m₁ m₂ m' (legal_older g p6 (begun i o m m₁ p4 p5, young-points g i.number above)) (entry g _ _ _ p7
    above)) l r
legal_older g (Legal.broken _ _ _ o i f m m₁ m₂ m₃ m' _ _ _ p3 p4 p5 p6 p7) a =
    λ l r.
    let above : g.low < i.number = omega (arith, l, p3) in
    chain g m m₁ m' (begin g i o m m₁ p4 a)
    (chain g m₁ m₂ m' (legal_older g p5 (begun i o m m₁ p3 p4, young-points g i.number above))
    (chain g m₂ m₃ m' (entry g _ _ _ p6 above) (ends_older g p7 (omega (arith, above))))) l r
legal_older g (Legal.uninjected _ _ _ _ _ _ _ p1) a = legal_older g p1 a
legal_older g (Legal.construction_failed _ _ _ _ _ m m₁ m' _ p1 p2) a =
    chain g m m₁ m' (legal_older g p1 a) (legal_older g p2 tt)
legal_older g (Legal.not_constructed _ _ _ _ m m₁ m' _ p1 p2) a = chain g m m₁ m' (legal_older g p1 a) (legal_older g
    p2 tt)
legal_older g (Legal.constructed _ _ _ _ _ _ m m₁ m₂ m' _ p1 p2 p3) a =
    chain g m m₁ m' (legal_older g p1 a) (chain g m₁ m₂ m' (legal_older g p2 tt) (legal_older g p3 tt))
legal_older g (Legal.produced_statically _ _ _ _ _ _ _ _ _ _ p3) a = legal_older g p3 a
legal_older g (Legal.no_shared_host _ _ _ _ _ _ _ _ _ _ _ p4) a = legal_older g p4 tt
legal_older g (Legal.produced_on_shared _ _ _ _ _ _ _ m m₁ m' _ _ _ _ _ p5 p6) a =
    chain g m m₁ m' (legal_older g p5 tt) (legal_older g p6 (omega (arith, a.0, legal_grows p5), a.1))
legal_older g (Legal.no_own_host _ _ _ _ _ _ _ _ _ _ _ p4) a = legal_older g p4 (tt, nobody-admitted g)
legal_older g (Legal.produced_on_own _ h _ _ _ _ _ m m₁ m₂ m' _ _ _ _ _ p5 p6 p7) a =
    λ l r. chain g m m₁ m' (legal_older g p5 (tt, nobody-admitted g))
    (chain g m₁ m₂ m' (legal_older g p6 (omega (arith, a.0, legal_grows p5), a.1)) (ends_older g p7 (omega (
      arith,
      l,
      created p5,
    )))) l r
legal_older g (Legal.unsupplied _ _ _ _ _ _ _ _ p0) a = legal_older g p0 a
legal_older g (Legal.run_statically _ _ _ _ _ _ m m₁ m' p0 p1) a = chain g m m₁ m' (legal_older g p0 a) (legal_older
    g p1 tt)
legal_older g (Legal.run_on_host _ _ _ _ _ _ _ m m₁ m' p0 p1) a = chain g m m₁ m' (legal_older g p0 a) (legal_older g
    p1 tt)
legal_older g (Legal.no_more_points _ _ _ _ m _) a = none g m
legal_older g (Legal.proxy_injected _ _ _ _ _ _ _ _ _ _ _ _ p3) a = legal_older g p3 a
legal_older g (Legal.dependent_injected _ _ _ _ _ _ _ _ m m₁ m' _ _ _ p3 p4) a =
    chain g m m₁ m' (legal_older g p3 (omega (arith, a.0), a.1 _ _)) (legal_older g p4 (
      omega (
        arith,
        a.0,
        legal_grows p3,
      ),
      a.1,
    ))
legal_older g (Legal.injection_failed _ _ _ _ _ _ _ _ _ _ _ _ p3) a = legal_older g p3 (omega (arith, a.0), a.1 _ _)
legal_older g (Legal.no_more_params _ _ _ _ _ m _) a = none g m
legal_older g (Legal.proxy_supplied _ _ _ _ _ _ _ _ _ _ _ _ _ p3) a = legal_older g p3 a
legal_older g (Legal.dependent_supplied _ p _ _ product _ _ _ _ m m₁ m' _ _ _ p3 p4) a =
    chain g m m₁ m' (legal_older g p3 (owned-param product p m.standing.given a.0, admits-param g product p a.1))
    (legal_older g p4 (given-more product m.standing.given m₁.standing.given a.0 (legal_grows p3), a.1))
legal_older g (Legal.supply_failed _ p _ product _ _ _ _ m _ _ _ _ p3) a =
    legal_older g p3 (owned-param product p m.standing.given a.0, admits-param g product p a.1)
legal_older g (Legal.linked _ _ _ _ _ _ _ _ _ _ _ _ _ p2) a = legal_older g p2 tt
legal_older g (Legal.bare _ _ _ _ _ _ _ m _ _ _) a = none g m
legal_older g (Legal.targeted _ _ _ _ _ _ _ _ _ _ _ _ _ _ p3) a = legal_older g p3 tt
legal_older g (Legal.frame_too_deep _ _ _ _ _ m _) a = none g m
legal_older g (Legal.framed _ _ _ _ _ _ _ _ m m₁ m₂ m' _ p1 p2 p3) a =
    chain g m m₁ m' (entry g _ _ _ p1 tt) (chain g m₁ m₂ m' (legal_older g p2 tt) (entry g _ _ _ p3 tt))
legal_older g (Legal.out_of_budget _ _ _ _ _ _ m _) a = none g m
legal_older g (Legal.ended _ _ _ _ _ _ _ _ _ _ _ p1 _ _) a = asking g _ _ p1
legal_older g (Legal.stopped _ _ _ _ _ _ _ _ _ p1 _ _) a = asking g _ _ p1
legal_older g (Legal.went_on _ _ _ _ _ _ _ _ _ _ m m₁ m₂ m' _ p1 _ _ p4 p5) a =
    chain g m m₁ m' (asking g _ _ p1) (chain g m₁ m₂ m' (legal_older g p4 tt) (legal_older g p5 tt))
legal_older g (Legal.touched _ _ n seat _ x r m m' _ p1) a = touch g n seat.actor x m r m' p1
legal_older g (Legal.called _ _ _ _ _ _ _ _ _ m m₁ m₂ m' _ _ p2 p3 p4) a =
    chain g m m₁ m' (entry g _ _ _ p2 tt) (chain g m₁ m₂ m' (legal_older g p3 tt) (entry g _ _ _ p4 tt))
legal_older g (Legal.fired _ _ _ _ _ _ _ _ _ m m₁ m₂ m' _ _ p2 p3 p4) a =
    chain g m m₁ m' (entry g _ _ _ p2 tt) (chain g m₁ m₂ m' (legal_older g p3 tt) (entry g _ _ _ p4 tt))
legal_older g (Legal.proceeded _ _ _ _ _ _ _ _ m m₁ m₂ m' _ _ p2 p3 p4) a =
    chain g m m₁ m' (entry g _ _ _ p2 tt) (chain g m₁ m₂ m' (legal_older g p3 tt) (entry g _ _ _ p4 tt))
legal_older g (Legal.unreached _ _ _ _ _ _ _ _ p0) a = legal_older g p0 tt
legal_older g (Legal.called_managed _ _ _ _ _ _ _ _ m m₁ m' p0 _ p2) a =
    chain g m m₁ m' (legal_older g p0 tt) (legal_older g p2 tt)
legal_older g (Legal.called_product _ _ _ _ _ _ _ _ _ p0 _ _) a = legal_older g p0 tt
legal_older g (Legal.reached_shared _ _ _ _ _ _ _ _ _ _ p2) a = legal_older g p2 tt
legal_older g (Legal.reached_own _ _ _ _ _ _ m _ _ _) a = none g m
legal_older g (Legal.all_notified _ _ _ _ m _) a = none g m
legal_older g (Legal.notified _ _ _ _ _ _ _ m m₁ m' _ p1 p2) a = chain g m m₁ m' (legal_older g p1 tt) (legal_older g
    p2 tt)
legal_older g (Legal.notification_failed _ _ _ _ _ _ _ _ _ p1) a = legal_older g p1 tt
legal_older g (Legal.skipped _ _ _ _ _ _ _ _ _ _ p3) a = entry g _ _ _ p3 tt
legal_older g (Legal.unattended_shared _ _ _ _ _ _ _ _ _ _ _ _ p4) a = legal_older g p4 tt
legal_older g (Legal.attended_shared _ _ _ _ _ _ _ m m₁ m' _ _ _ _ p4 p5) a =
    chain g m m₁ m' (legal_older g p4 tt) (legal_older g p5 tt)
legal_older g (Legal.unattended_own _ _ _ _ _ _ _ _ _ _ _ _ p4) a = legal_older g p4 (tt, nobody-admitted g)
legal_older g (Legal.attended_own _ _ _ _ _ _ _ m m₁ m₂ m' _ _ _ _ p4 p5 p6) a =
    λ l r. chain g m m₁ m' (legal_older g p4 (tt, nobody-admitted g))
    (chain g m₁ m₂ m' (legal_older g p5 tt) (ends_older g p6 (omega (arith, l, created p4)))) l r
legal_older g (Legal.not_supplied _ _ _ _ _ _ _ m m₁ m' p0 p1) a =
    λ l r. chain g m m₁ m' (legal_older g p0 (tt, tt)) (ends_older g p1 (supplied g.low p0 l tt)) l r
legal_older g (Legal.attended _ _ _ _ _ _ _ _ m m₁ m₂ m' p0 p1 p2) a =
    λ l r. chain g m m₁ m' (legal_older g p0 (tt, tt))
    (chain g m₁ m₂ m' (legal_older g p1 tt) (ends_older g p2 (supplied g.low p0 l tt))) l r

-- ---- commands

pub uses_older : (g : Terms) {s : Scene} {i : InstanceId} {u : Use} {m : Moment} {o : Outcome} {m' : Moment}
    → Uses s i u m o m' → Stretch g m m'
uses_older g (Uses.looked _ m _) = none g m
uses_older g (Uses.called _ _ _ _ _ _ _ p1) = legal_older g p1 tt
uses_older g (Uses.called_product _ _ _ m _ _) = none g m

runs_older : (g : Terms) {s : Scene} {c : Command} {m : Moment} {o : Outcome} {m' : Moment} → Runs s c m o m'
    → Stretch g m m'
runs_older g (Runs.refused_shared _ _ _ _ _ _ _ _ p2) = legal_older g p2 tt
runs_older g (Runs.used_shared _ _ _ _ _ m m₁ m' _ _ p2 p3) = chain g m m₁ m' (legal_older g p2 tt) (uses_older g p3)
runs_older g (Runs.refused_own _ _ _ _ _ _ _ _ p2) = legal_older g p2 (tt, nobody-admitted g)
runs_older g (Runs.used_own _ _ _ _ _ m m₁ m₂ m' _ _ p2 p3 p4) =
    λ l r. chain g m m₁ m' (legal_older g p2 (tt, nobody-admitted g))
    (chain g m₁ m₂ m' (uses_older g p3) (ends_older g p4 (omega (arith, l, created p2)))) l r
runs_older g (Runs.fired _ _ _ _ _ p0) = legal_older g p0 tt

-- nothing is asked but that what is older stays
abbrev pub older : ℕ → Terms
older g = record { low = g; holds = λ id o r. Unit {0}; young = λ id o l p h. tt; ready = λ id o r l h. tt }

numbered-is : (live : List Instance) (n : ℕ) (i : Instance) → numbered live n ≡ Some i → i.id.number ≡ n
numbered-is [] n i e = cc
numbered-is (x ∷ xs) n i e = grind (arith, numbered-is xs n i, numbered)

-- a look-up, a call or an event leaves all that was live
pub runs_keep : {s : Scene} {c : Command} {m : Moment} {o : Outcome} {m' : Moment} → Runs s c m o m'
    → IsRising m.standing.given m.standing.live → Keeps m m'
runs_keep {s} {c} {m} {o} {m'} p r = λ n i low h.
    let known : i.id.number ≤ m.standing.given = omega (arith, low, numbered-is m.standing.live n i h) in
    let all : m.standing.given ≤ m.standing.given = omega arith in
    (runs_older (older m.standing.given) p all r).keeps (λ id o. id.number == n) i known h
