-- Along a legal tree each ready instance has its dependent objects.
use Rattle.cdi_legal.proofs.Common.{false_from_ne_true, all-weaker, ◌≡◌, ◌<◌, ℕ, false, None, Some, refl, Outcome, Act, Actor, InstanceId}
use Rattle.cdi_legal.proofs.Common.{Owner, Nobody, Scene, Touches, Ends, Answer, Legal, Node, Uses, Use, Runs, Command, Moment, put}
use Rattle.cdi_legal.proofs.Common.{ask_more, Entry, ◌+◌, ◌≤◌, inl, inr, Bool, true, List, [], ◌∷◌, length, arith, ap, subst, sym, ◌∙◌}
use Rattle.cdi_legal.proofs.Common.{AllByRecursion, Scope, is_of, Instance, Point, Option, Failure, Value, Val, Null, as_product, bean_at}
use Rattle.cdi_legal.proofs.Common.{Bean, Product, Held, outcome_is, context, IsFurnished, managed_at, Managed, create, ◌++◌, Bodies}
use Rattle.cdi_legal.proofs.Common.{IsSound, IsSoundForm, Form, ◌==◌, ◌&&◌, map, slice_get, is_at, IsOwnerOf, finish, IsRising-finished}
use Rattle.cdi_legal.proofs.Common.{HasDependents, ◌⊎◌, IsRising-more, destroy, dependents, held, made_is, held_is, slice_get_within}
use Rattle.cdi_legal.proofs.Common.{nat_tests}
use Rattle.std.proofs.lemmas.Bool.{and_parts}
use Rattle.cdi_scene.specs.Scene.{as_managed}
use Rattle.cdi_scene.specs.declared.scene.Form.TheVariants as forms
use Rattle.cdi_legal.proofs.{Along.touch_along, Growing.legal_grows, Sharing.same-finish}
use Rattle.cdi_legal.proofs.Keeping.{Admits, AdmitsFor, IsFree, Older, Owns, Rises, Terms, WasGiven, all-more, all-map, begun, created}
use Rattle.cdi_legal.proofs.Keeping.{given-more, legal_older, older, owned-context, owned-param, still-finish, still-more, Test, uses_older}
use Rattle.cdi_legal.proofs.Furnishing.{AllSpare, AreFurnished, IsPlain, IsSpare, Others, Outside, all-both, all-given, all-owned, at}
use Rattle.cdi_legal.proofs.Furnishing.{ends-all, ends-rise, ends_furnished, fewer, found-such, furnished-without, has-still, none-left}
use Rattle.cdi_legal.proofs.Furnishing.{plain, rises-kept, touch-furnished, is_plain_kept}
use Rattle.cdi_legal.proofs.Injecting.{AreApart, at-same, injected}
use Rattle.cdi_legal.specs.declared.entry.Made.TheVariants.{Instance as Obtained}
use Rattle.cdi_legal.specs.Legal as nodes
use Rattle.cdi_legal.specs.declared.entry.Entry.TheVariants as entries

-- no two injection points of a bean are of one actor and point
abbrev pub IsApart : Scene → Type 0
IsApart s = (b : ℕ) (managed : Managed) → managed_at s b ≡ Some managed → AreApart managed.injections

-- what is asked where the node creates instances: their owners are older
abbrev pub Begins : Node → Moment → Type 0
Begins (create b o) m = IsOwnerOf (m.standing.given + 1) o
Begins (nodes.setup i) m = i.number ≤ m.standing.given
Begins (nodes.inject i ps p) m = i.number ≤ m.standing.given
Begins (nodes.supply product ps p h) m = WasGiven product m.standing.given
Begins (nodes.produce i product host) m = i.number ≤ m.standing.given
Begins other m = Unit {0}

for-product : (t : Terms) (product : Option InstanceId) → ((o : Owner) → Admits t o) → AdmitsFor t product
for-product t None admits = tt
for-product t (Some i) admits = λ actor p. admits (Point i.number actor p)

pub owns : (t : Terms) (x : Node) (m : Moment) → ((o : Owner) → Admits t o) → Begins x m → Owns t x m
owns t (create b o) m admits a = (a, admits o)
owns t (nodes.setup i) m admits a = (a, λ actor p. admits (Point i.number actor p))
owns t (nodes.inject i ps p) m admits a = (a, λ actor p. admits (Point i.number actor p))
owns t (nodes.supply product ps p h) m admits a = (a, for-product t product admits)
owns t (nodes.produce i product host) m admits a = (a, λ actor p. admits (Point i.number actor p))
owns t other m admits a = tt

-- numbers rise, and each ready instance has its dependent objects
pub record Settled (s : Scene) (m : Moment) : Type 0 where
  pub rises : Rises m.standing
  pub furnished : IsFurnished s m.standing.live

-- those of these stay that an instance has
keeps-had : (s : Scene) (m m' : Moment) (i : InstanceId) → Rises m.standing
    → Older (older m.standing.given) m.standing m'.standing
    → HasDependents s m.standing.live i → HasDependents s m'.standing.live i
keeps-had s m m' i r step h =
    has-still s m.standing.live m'.standing.live i
    (λ actor p d e. step.keeps (at i.number actor p) d (found-such (λ z. z.id.number ≤ m.standing.given) (at i.number
    actor p)
    m.standing.live d (all-given 0 m.standing.given m.standing.live r) e).0 e) h

pub same-given : (m : Moment) → m.standing.given ≤ m.standing.given
same-given m = omega arith

pub rises-after : {s : Scene} {k : ℕ} {x : Node} {a : Answer} {m m' : Moment} → Legal s k x m a m' → Begins x m
    → Rises m.standing
    → Rises m'.standing
rises-after {s} {k} {x} {a} {m} {m'} p b r =
    (legal_older (older m.standing.given) p (owns (older m.standing.given) x m (λ o id l w. tt) b) (same-given m)
    r).rises

-- whoever has dependent objects has them after a node
pub has-after : {s : Scene} {k : ℕ} {x : Node} {a : Answer} {m m' : Moment} (i : InstanceId) → Legal s k x m a m'
    → Begins x m
    → Rises m.standing → HasDependents s m.standing.live i → HasDependents s m'.standing.live i
has-after {s} {k} {x} {a} {m} {m'} i p b r h =
    keeps-had s m m' i r (legal_older (older m.standing.given) p (owns (older m.standing.given) x m (λ o id l w. tt)
    b) (same-given m) r) h

-- ---- the older ones, and the younger ones

abbrev Up : ℕ → ℕ → Type 0
Up g n = n ≤ g

abbrev Above : ℕ → ℕ → Type 0
Above g n = g < n

back : (s : Scene) (m : Moment) → Terms
back s m = record {
  low = m.standing.given;
  holds = λ id o r. id.number ≤ m.standing.given → r ≡ true → HasDependents s m.standing.live id;
  young = λ id o above owned free l e. absurd (omega (arith, above, l));
  ready = λ id o r above h l e. absurd (omega (arith, above, l));
}

old-part : {s : Scene} {k : ℕ} {x : Node} {a : Answer} {m m' : Moment} → Legal s k x m a m' → Begins x m → Settled s m
    → AreFurnished (Up m.standing.given) s m'.standing.live
unfolding back
old-part {s} {k} {x} {a} {m} {m'} p b h =
    let t : Terms = back s m in
    let g = m.standing.given in
    let o = legal_older t p (owns t x m (λ o id above w l e. absurd (omega (arith, above, l))) b) (same-given m)
    h.rises in
    let step = legal_older (older g) p (owns (older g) x m (λ o id l w. tt) b) (same-given m) h.rises in
    all-weaker (λ z. z.id.number ≤ g → z.is_ready ≡ true → HasDependents s m.standing.live z.id)
    (λ z. z.id.number ≤ g → z.is_ready ≡ true → HasDependents s m'.standing.live z.id) m'.standing.live
    (λ z had l e. keeps-had s m m' z.id h.rises step (had l e))
    (o.all (all-weaker (λ z. z.is_ready ≡ true → HasDependents s m.standing.live z.id)
    (λ z. z.id.number ≤ g → z.is_ready ≡ true → HasDependents s m.standing.live z.id) m.standing.live (λ z had l e.
    had e) h.furnished))

either : (n g : ℕ) → (n ≤ g) ⊎ (g < n)
either n g = grind (arith, nat_tests)

join : (s : Scene) (g : ℕ) (live : List Instance) → AreFurnished (Up g) s live → AreFurnished (Above g) s live
    → IsFurnished s live
join s g live a b =
    all-weaker (λ z. Old z × New z) (λ z. z.is_ready ≡ true → HasDependents s live z.id) live
    (λ z h e. elim (either z.id.number g) [ inl l ↦ h.0 l e | inr l ↦ h.1 l e ]) (all-both Old New live a b)
  where
    Old : Instance → Type 0
    Old z = Up g z.id.number → z.is_ready ≡ true → HasDependents s live z.id

    New : Instance → Type 0
    New z = Above g z.id.number → z.is_ready ≡ true → HasDependents s live z.id

-- ---- stretches of a run

abbrev Path : Scene → Moment → Moment → Type 0
Path s m m' = Settled s m → Settled s m'

-- the younger instances have their dependent objects
abbrev Young : Scene → Moment → Moment → Type 0
Young s m m' = Settled s m → AreFurnished (Above m.standing.given) s m'.standing.live

only : (s : Scene) (K : ℕ → Type 0) (live : List Instance) → IsFurnished s live → AreFurnished K s live
only s K live a = grind (arith, all-weaker)

all-of : (s : Scene) (live : List Instance) → AreFurnished (λ n. Unit {0}) s live → IsFurnished s live
all-of s live a = grind (arith, all-weaker)

young : {s : Scene} {m m' : Moment} → Path s m m' → Young s m m'
young {s} {m} {m'} p h = only s (Above m.standing.given) m'.standing.live (p h).furnished

wrap : {s : Scene} {k : ℕ} {x : Node} {a : Answer} {m m' : Moment} → Legal s k x m a m' → Begins x m
    → Young s m m' → Path s m m'
wrap {s} {k} {x} {a} {m} {m'} p b y h = grind (arith, h.rises, m.standing.given, m'.standing.live, rises-after, join, old-part)

none : {s : Scene} (m : Moment) → Path s m m
none m h = h

chain : {s : Scene} (a b c : Moment) → Path s a b → Path s b c → Path s a c
chain a b c p q h = q (p h)

entry : {s : Scene} (e : Entry) (m m' : Moment) → m' ≡ put e m → IsPlain e → Path s m m'
entry {s} e m m' is p h = record {
  rises = rises-kept.entry e m m' (is_plain_kept e p) is h.rises;
  furnished = all-of s m'.standing.live (plain (λ n. Unit {0}) s e m m' is p (only s (λ n. Unit {0}) m.standing.live
      h.furnished));
}

asking : {s : Scene} (m m' : Moment) → m' ≡ ask_more m → Path s m m'
asking {s} m m' is h = subst (Settled s) (sym is) (record { rises = h.rises; furnished = h.furnished })

touch : {s : Scene} (n : ℕ) (actor : Actor) (x : Act) (m : Moment) (o : Outcome) (m' : Moment)
    → Touches n actor x m o m' → Path s m m'
touch {s} n actor x m o m' t h =
    grind (arith, h.rises, m'.standing.live, m.standing.live, h.furnished, touch_along, rises-kept, all-of, touch-furnished, only)

-- ---- a new instance

-- nothing was made for a point of the newest
fresh : (m : Moment) (n : ℕ) (actor : Actor) (p : ℕ) → Rises m.standing → n ≡ m.standing.given
    → AllByRecursion (λ z. is_at n actor p z.owner ≡ false) m.standing.live
fresh m n actor p r e =
    grind (arith, m.standing.given, m.standing.live, all-weaker, false_from_ne_true, all-both, all-owned, all-given, at-same)

-- after the injection
pub has-injected : {s : Scene} {k : ℕ} {i : InstanceId} {b : Managed} {m m' : Moment} → IsApart s
    → managed_at s i.bean ≡ Some b
    → Legal s k (nodes.inject i b.injections 0) m (nodes.failure_is None) m' → Rises m.standing
    → i.number ≡ m.standing.given
    → HasDependents s m'.standing.live i
has-injected {s} {k} {i} {b} {m} {m'} apart there p r e = λ managed j point at_home listed own.
    let same : Some b ≡ Some managed = sym there ∙ at_home in
    let is : b ≡ managed = cc in
    let here : slice_get b.injections j ≡ Some point = ap (λ (z : Managed). slice_get z.injections j) is ∙ listed in
    injected p r (omega (arith, e)) (apart i.bean b there) (λ l q after listed. fresh m i.number q.actor q.point r e)
    (λ l q less listed own. absurd (omega (arith, less))) j point (slice_get_within b.injections j point here) here own

no-managed : (s : Scene) (b : ℕ) (x : Bean) (p : Product) (managed : Managed) → bean_at s b ≡ Some x
    → as_product x.form ≡ Some p
    → managed_at s b ≡ Some managed → ⊥
no-managed s b x p managed there made is = grind (arith, x.form)

-- what is set up has its dependent objects
pub set_up : {s : Scene} {k : ℕ} {i : InstanceId} {a : Answer} {m m' : Moment} → IsApart s
    → Legal s k (nodes.setup i) m a m'
    → Rises m.standing → i.number ≡ m.standing.given → (v : Val) → a ≡ outcome_is (Value v)
    → HasDependents s m'.standing.live i
set_up apart (Legal.uninjected _ _ _ _ _ _ _ _) r e v is = cc
set_up apart (Legal.construction_failed _ _ _ _ _ _ _ _ _ _ _) r e v is = cc
set_up apart (Legal.not_constructed _ _ _ _ _ _ _ _ _ _) r e v is = cc
set_up {s} apart (Legal.constructed _ i b _ _ _ m m₁ m₂ m' p0 p1 p2 p3) r e v is =
    let low : i.number ≤ m.standing.given = omega (arith, e) in
    let r₁ = rises-after p1 low r in
    let r₂ = rises-after p2 tt r₁ in
    has-after i p3 tt r₂ (has-after i p2 tt r₁ (has-injected apart p0 p1 r e))
set_up {s} apart (Legal.produced_statically _ i x b _ _ _ p0 p1 _ _) r e v is =
    λ managed j point there listed own. absurd (no-managed s i.bean x b managed p0 p1 there)
set_up apart (Legal.no_shared_host _ _ _ _ _ _ _ _ _ _ _ _) r e v is = cc
set_up {s} apart (Legal.produced_on_shared _ _ i x _ b _ _ _ _ p0 p1 _ _ _ _ _) r e v is =
    λ managed j point there listed own. absurd (no-managed s i.bean x b managed p0 p1 there)
set_up apart (Legal.no_own_host _ _ _ _ _ _ _ _ _ _ _ _) r e v is = cc
set_up {s} apart (Legal.produced_on_own _ _ i x _ b _ _ _ _ _ p0 p1 _ _ _ _ _ _) r e v is =
    λ managed j point there listed own. absurd (no-managed s i.bean x b managed p0 p1 there)

-- ---- what begins

abbrev pub new_one : InstanceId → Owner → Moment → Instance
new_one i o m = record {
  id = record { bean = i.bean; number = m.standing.given + 1 };
  owner = o;
  is_ready = false;
  state = Null;
}

pub begin : {s : Scene} (i : InstanceId) (o : Owner) (m m' : Moment) → m' ≡ put (entries.Create i o) m
    → IsOwnerOf (m.standing.given + 1) o → Path s m m'
begin {s} i o m m' is owned h = subst (Settled s) (sym is) (record {
  rises = IsRising-more m.standing.given m.standing.live (new_one i o m) h.rises refl owned;
  furnished = all-more (λ z. z.is_ready ≡ true → HasDependents s after z.id) m.standing.live (new_one i o m)
      (all-weaker (λ z. z.is_ready ≡ true → HasDependents s m.standing.live z.id) (λ z. z.is_ready ≡ true
      → HasDependents s after z.id)
      m.standing.live (λ z had e. has-still s m.standing.live after z.id
      (λ actor p d f. still-more (at z.id.number actor p) m.standing.live (new_one i o m) d f) (had e)) h.furnished)
      (λ e. cc);
})
  where
    after : List Instance
    after = m.standing.live ++ new_one i o m ∷ []

-- the instance of this number is this one
abbrev IsOnly : InstanceId → List Instance → Type 0
IsOnly i live = AllByRecursion (λ z. z.id.number ≡ i.number → z.id ≡ i) live

begun-only : (i : InstanceId) (o : Owner) (m m' : Moment) → i.number ≡ m.standing.given + 1
    → m' ≡ put (entries.Create i o) m
    → Rises m.standing → IsOnly i m'.standing.live
begun-only i o m m' e is r = grind (arith, i.number, m.standing.live, m.standing.given, i.bean, all-more, all-weaker, all-given)

abbrev only_terms : (i : InstanceId) (low : ℕ) → i.number ≤ low → Terms
only_terms i low l = record {
  low = low;
  holds = λ id o r. id.number ≡ i.number → id ≡ i;
  young = λ id o above owned free same. absurd (omega (arith, above, same, l));
  ready = λ id o r above h. h;
}

ready : {s : Scene} (i : InstanceId) (product : Option Val) (m m' : Moment) → m' ≡ put (entries.Ready i product) m
    → IsOnly i m.standing.live → HasDependents s m.standing.live i → Path s m m'
ready {s} i product m m' is alone had h = subst (Settled s) (sym is) (record {
  rises = IsRising-finished m.standing.given i.number product m.standing.live h.rises;
  furnished = all-map Both After (finish i.number product) m.standing.live (λ z both. by z (z.id.number == i.number)
      refl both)
      (all-both (λ z. z.is_ready ≡ true → HasDependents s m.standing.live z.id) (λ z. z.id.number ≡ i.number
      → z.id ≡ i) m.standing.live
      h.furnished alone);
})
  where
    after : List Instance
    after = map (finish i.number product) m.standing.live

    Both : Instance → Type 0
    Both z = (z.is_ready ≡ true → HasDependents s m.standing.live z.id) × (z.id.number ≡ i.number → z.id ≡ i)

    After : Instance → Type 0
    After z = z.is_ready ≡ true → HasDependents s after z.id

    moved : (d : InstanceId) → HasDependents s m.standing.live d → HasDependents s after d
    moved d has =
        has-still s m.standing.live after d
        (λ actor p x f. still-finish (at d.number actor p) i.number product m.standing.live x f) has

    same_id : (z : Instance) → (finish i.number product z).id ≡ z.id
    same_id z = (same-finish i.number product z).0

    untouched : (o : Option Val) (z : Instance) → (z.id.number == i.number) ≡ false
        → (finish i.number o z).is_ready ≡ z.is_ready
    untouched None z e = rw e refl
    untouched (Some v) z e = rw e refl

    by : (z : Instance) (b : Bool) → (z.id.number == i.number) ≡ b → Both z → After (finish i.number product z)
    by z true e both = λ r.
        let number : z.id.number ≡ i.number = grind arith in
        subst (HasDependents s after) (sym (same_id z)) (moved z.id (subst (HasDependents s m.standing.live) (sym
        (both.1 number)) had))
    by z false e both = λ r.
        subst (HasDependents s after) (sym (same_id z)) (moved z.id (both.0 (sym (untouched product z e) ∙ r)))

-- ---- nodes

-- what is not younger is spare for those that are
spare : (g n : ℕ) (m : Moment) → Rises m.standing → n ≤ g + 1 → IsSpare (Above g) n m.standing.live
spare g n m r l = grind (arith, m.standing.live, m.standing.given, all-weaker, all-owned)

-- where one is destroyed that was made within, the younger ones keep their dependent objects
ended : {s : Scene} {i : InstanceId} {m m' : Moment} (g : ℕ) → Ends s (destroy i) m m' → i.number ≡ g + 1 → Settled s m
    → AreFurnished (Above g) s m'.standing.live
ended {s} {i} {m} {m'} g p e h =
    ends_furnished (Above g) p h.rises (spare g i.number m h.rises (omega (arith, e))) (only s (Above g)
    m.standing.live h.furnished)

-- where the creation of one fails
broke : {s : Scene} {m m₁ m' : Moment} (i : InstanceId) (g : ℕ) (f : Failure) → i.number ≡ g + 1
    → m₁ ≡ put (entries.Broken i f) m
    → Ends s (dependents i.number) m₁ m' → Settled s m → AreFurnished (Above g) s m'.standing.live
broke {s} {m} {m₁} {m'} i g f e is p h =
    let n = i.number in
    let spared = spare g n m h.rises (omega (arith, e)) in
    let a = only s (Others (Above g) n) m.standing.live h.furnished in
    let a₁ : AreFurnished (Above g) s m₁.standing.live =
    subst (λ (y : Moment). AreFurnished (Above g) s y.standing.live) (sym is) (furnished-without (Above g) s n
    m.standing.live spared a) in
    let none₁ : AllByRecursion (λ z. z.id.number ≡ n → ⊥) m₁.standing.live =
    subst (λ (y : Moment). AllByRecursion (λ z. z.id.number ≡ n → ⊥) y.standing.live) (sym is) (none-left n
    m.standing.live) in
    let r₁ = rises-kept.entry (entries.Broken i f) m m₁ refl is h.rises in
    let none = ends-all (λ id o. id.number ≡ n → ⊥) p none₁ in
    let a₂ = ends_furnished (Others (Above g) n) p r₁ (λ k. k.1 refl) (fewer (Above g) s n m₁.standing.live a₁) in
    all-weaker (λ z. Left z × (z.id.number ≡ n → ⊥)) Mine m'.standing.live (λ z both k r. both.0 (k, both.1) r)
    (all-both Left (λ z. z.id.number ≡ n → ⊥) m'.standing.live a₂ none)
  where
    Left : Instance → Type 0
    Left z = Others (Above g) i.number z.id.number → z.is_ready ≡ true → HasDependents s m'.standing.live z.id

    Mine : Instance → Type 0
    Mine z = Above g z.id.number → z.is_ready ≡ true → HasDependents s m'.standing.live z.id

-- ---- what was made for parameters

-- each was begun, and was made for none that is younger
abbrev AreSpare : ℕ → Held → Moment → Type 0
AreSpare g [] m = Unit {0}
AreSpare g (None ∷ h) m = AreSpare g h m
AreSpare g (Some i ∷ h) m = (i.number ≤ m.standing.given) × IsSpare (Above g) i.number m.standing.live × AreSpare g h m

all-spare : (g : ℕ) (h : Held) (m : Moment) → AreSpare g h m → AllSpare (Above g) h m.standing.live
all-spare g [] m a = tt
all-spare g (None ∷ h) m a = all-spare g h m a
all-spare g (Some i ∷ h) m a = (a.1, all-spare g h m a.2)

abbrev pub spare_terms : (K : ℕ → Type 0) (n low : ℕ) → n ≤ low → Terms
spare_terms K n low l = record {
  low = low;
  holds = λ id o r. id.number ≡ n → Outside K o;
  young = λ id o above owned free same. absurd (omega (arith, above, same, l));
  ready = λ id o r above h. h;
}

spare-after : {s : Scene} {k : ℕ} {x : Node} {answer : Answer} {m m' : Moment} (g : ℕ) (h : Held)
    → Legal s k x m answer m' → Begins x m
    → Rises m.standing → AreSpare g h m → AreSpare g h m'
spare-after g [] p b r a = tt
spare-after g (None ∷ h) p b r a = spare-after g h p b r a
spare-after {s} {k} {x} {answer} {m} {m'} g (Some i ∷ h) p b r a =
    let t : Terms = spare_terms (Above g) i.number m.standing.given a.0 in
    let o = legal_older t p (owns t x m (λ o id above w same. absurd (omega (arith, above, same, a.0))) b)
    (same-given m) r in
    (omega (arith, a.0, legal_grows p), o.all a.1, spare-after g h p b r a.2)

new-outside : (K : ℕ → Type 0) (low n : ℕ) (o : Owner) → IsOwnerOf n o → IsFree low o → n ≡ low + 1 → Outside K o
new-outside K low n (Point k actor p) owned free same = absurd (omega (arith, owned, free, same))
new-outside K low n other owned free same = tt

abbrev new_terms : (K : ℕ → Type 0) (low : ℕ) → Terms
new_terms K low = record {
  low = low;
  holds = λ id o r. id.number ≡ low + 1 → Outside K o;
  young = λ id o above owned free same. new-outside K low id.number o owned free same;
  ready = λ id o r above h. h;
}

created-spare : {s : Scene} {k b n : ℕ} {m m' : Moment} (K : ℕ → Type 0)
    → Legal s k (create b Nobody) m (made_is (Obtained n)) m'
    → Rises m.standing → IsSpare K n m'.standing.live
created-spare {s} {k} {b} {n} {m} {m'} K p r =
    let t : Terms = new_terms K m.standing.given in
    let before = all-weaker (λ z. z.id.number ≤ m.standing.given) (λ z. z.id.number ≡ m.standing.given + 1
    → Outside K z.owner)
    m.standing.live (λ z l same. absurd (omega (arith, l, same))) (all-given 0 m.standing.given m.standing.live r) in
    let o = legal_older t p (tt, λ id l w same. tt) (same-given m) r in
    let all = o.all before in
    all-weaker (λ z. z.id.number ≡ m.standing.given + 1 → Outside K z.owner) (λ z. z.id.number ≡ n → Outside K z.owner)
    m'.standing.live (λ z out same. out (same ∙ created p)) all

made-low : {s : Scene} {k b n : ℕ} {o : Owner} {m m' : Moment} → Legal s k (create b o) m (made_is (Obtained n)) m'
    → n ≤ m'.standing.given
made-low (Legal.made k j b x o i v m m₁ m₂ m' _ _ _ _ p4 p5 p6 p7) = grind (arith, begun, legal_grows)

spare-proxy : (g : ℕ) (h : Held) (m : Moment) → AreSpare g h m → AreSpare g (h ++ None ∷ []) m
spare-proxy g [] m a = tt
spare-proxy g (None ∷ h) m a = spare-proxy g h m a
spare-proxy g (Some i ∷ h) m a = (a.0, a.1, spare-proxy g h m a.2)

spare-more : (g : ℕ) (h : Held) (i : InstanceId) (m : Moment) → AreSpare g h m → i.number ≤ m.standing.given
    → IsSpare (Above g) i.number m.standing.live → AreSpare g (h ++ Some i ∷ []) m
spare-more g [] i m a l out = (l, out, tt)
spare-more g (None ∷ h) i m a l out = spare-more g h i m a l out
spare-more g (Some x ∷ h) i m a l out = (a.0, a.1, spare-more g h i m a.2 l out)

supplied-spare : {s : Scene} {k p : ℕ} {ps : List ℕ} {h held : Held} {f : Option Failure} {m m' : Moment} (g : ℕ)
    → Legal s k (nodes.supply None ps p h) m (held_is held f) m' → Rises m.standing → AreSpare g h m
    → AreSpare g held m'
supplied-spare g (Legal.no_more_params _ _ _ _ _ _ _) r a = a
supplied-spare g (Legal.proxy_supplied _ _ _ _ _ h _ _ m _ _ _ _ p3) r a = supplied-spare g p3 r (spare-proxy g h m a)
supplied-spare g (Legal.dependent_supplied _ _ b d _ _ h _ _ m m₁ _ _ _ _ p3 p4) r a =
    let i = nodes.at b d in
    let low : d ≤ m₁.standing.given = made-low p3 in
    supplied-spare g p4 (rises-after p3 tt r) (spare-more g h i m₁ (spare-after g h p3 tt r a) low (created-spare
    (Above g) p3 r))
supplied-spare g (Legal.supply_failed _ _ _ _ _ h _ _ _ _ _ _ _ p3) r a = spare-after g h p3 tt r a

-- where these are destroyed, the younger ones keep their dependent objects
held-ended : {s : Scene} {m m' : Moment} (g : ℕ) (h : Held) (k : ℕ) → Ends s (held h k) m m' → AreSpare g h m
    → Settled s m
    → AreFurnished (Above g) s m'.standing.live
held-ended {s} {m} {m'} g h k p a settled =
    ends_furnished (Above g) p settled.rises (all-spare g h m a) (only s (Above g) m.standing.live settled.furnished)

-- each ready instance that is younger has its dependent objects after a node
legal_young : {s : Scene} {k : ℕ} {x : Node} {answer : Answer} {m m' : Moment} → IsApart s
    → Legal s k x m answer m' → Begins x m
    → Young s m m'
legal_young {s} apart (Legal.made k j b x o i v m m₁ m₂ m' p0 p1 p2 p3 p4 p5 p6 p7) a = λ h.
    let low : i.number ≤ m₁.standing.given = begun i o m m₁ p4 p5 in
    let exact : i.number ≡ m₁.standing.given = omega (arith, p4, ap (λ (y : Moment). y.standing.given) p5) in
    let settled = begin i o m m₁ p5 a h in
    let t : Terms = only_terms i m₁.standing.given low in
    let step = legal_older t p6 (low, λ actor q id above w same. absurd (omega (arith, above, same, low)))
    (same-given m₁) settled.rises in
    let alone = step.all (begun-only i o m m₁ p4 p5 h.rises) in
    let had = set_up apart p6 settled.rises exact v refl in
    only s (Above m.standing.given) m'.standing.live
    (ready i (nodes.product_of x.form v) m₂ m' p7 alone had (wrap p6 low (legal_young apart p6 low) settled)).furnished
legal_young {s} apart (Legal.broken k j b o i f m m₁ m₂ m₃ m' p0 p1 p2 p3 p4 p5 p6 p7) a = λ h.
    let low : i.number ≤ m₁.standing.given = begun i o m m₁ p3 p4 in
    broke i m.standing.given f p3 p6 p7 (wrap p5 low (legal_young apart p5 low) (begin i o m m₁ p4 a h))
legal_young apart (Legal.produced_on_own _ n i _ _ _ _ m m₁ m₂ m' _ _ _ _ _ p5 p6 p7) a = λ h.
    let low : i.number ≤ m₁.standing.given = omega (arith, a, legal_grows p5) in
    ended m.standing.given p7 (created p5) (wrap p6 low (legal_young apart p6 low) (wrap p5 tt (legal_young apart p5
    tt) h))
legal_young apart (Legal.attended_own _ _ _ _ _ _ _ m m₁ m₂ m' _ _ _ _ p4 p5 p6) a = λ h.
    ended m.standing.given p6 (created p4) (wrap p5 tt (legal_young apart p5 tt) (wrap p4 tt (legal_young apart p4
    tt) h))
legal_young apart (Legal.not_supplied _ _ _ _ had _ _ m m₁ m' p0 p1) a = λ h.
    held-ended m.standing.given had (length had) p1 (supplied-spare m.standing.given p0 h.rises tt)
    (wrap p0 tt (legal_young apart p0 tt) h)
legal_young apart (Legal.attended _ _ _ _ had _ _ _ m m₁ m₂ m' p0 p1 p2) a = λ h.
    let settled = wrap p0 tt (legal_young apart p0 tt) h in
    held-ended m.standing.given had (length had) p2
    (spare-after m.standing.given had p1 tt settled.rises (supplied-spare m.standing.given p0 h.rises tt))
    (wrap p1 tt (legal_young apart p1 tt) settled)
legal_young apart (Legal.inactive _ _ _ m _ _) a =
    young (none m)
legal_young apart (Legal.present _ _ _ _ m _ _ _ _) a =
    young (none m)
legal_young apart (Legal.creating _ _ _ _ m _ _ _ _) a =
    young (none m)
legal_young apart (Legal.absent _ _ x _ m _ _ _ _ p3) a =
    young (wrap p3 ((owned-context (older 0) (m.standing.given + 1) x.scope).0) (legal_young apart p3 ((owned-context
    (older 0) (m.standing.given + 1) x.scope).0)))
legal_young apart (Legal.too_deep _ _ _ m _) a =
    young (none m)
legal_young apart (Legal.too_many _ _ _ m _ _) a =
    young (none m)
legal_young apart (Legal.uninjected _ _ _ _ _ _ _ p1) a =
    young (wrap p1 a (legal_young apart p1 a))
legal_young apart (Legal.construction_failed _ _ _ _ _ m m₁ m' _ p1 p2) a =
    young (chain m m₁ m' (wrap p1 a (legal_young apart p1 a)) (wrap p2 tt (legal_young apart p2 tt)))
legal_young apart (Legal.not_constructed _ _ _ _ m m₁ m' _ p1 p2) a =
    young (chain m m₁ m' (wrap p1 a (legal_young apart p1 a)) (wrap p2 tt (legal_young apart p2 tt)))
legal_young apart (Legal.constructed _ _ _ _ _ _ m m₁ m₂ m' _ p1 p2 p3) a =
    young (chain m m₁ m' (wrap p1 a (legal_young apart p1 a)) (chain m₁ m₂ m' (wrap p2 tt (legal_young apart p2 tt))
    (wrap p3 tt (legal_young apart p3 tt))))
legal_young apart (Legal.produced_statically _ _ _ _ _ _ _ _ _ _ p3) a =
    young (wrap p3 a (legal_young apart p3 a))
legal_young apart (Legal.no_shared_host _ _ _ _ _ _ _ _ _ _ _ p4) a =
    young (wrap p4 tt (legal_young apart p4 tt))
legal_young apart (Legal.produced_on_shared _ _ _ _ _ _ _ m m₁ m' _ _ _ _ _ p5 p6) a =
    young (chain m m₁ m' (wrap p5 tt (legal_young apart p5 tt)) (wrap p6 ((omega (arith, a, legal_grows p5)))
    (legal_young apart p6 ((omega (arith, a, legal_grows p5))))))
legal_young apart (Legal.no_own_host _ _ _ _ _ _ _ _ _ _ _ p4) a =
    young (wrap p4 tt (legal_young apart p4 tt))
legal_young apart (Legal.unsupplied _ _ _ _ _ _ _ _ p0) a =
    young (wrap p0 a (legal_young apart p0 a))
legal_young apart (Legal.run_statically _ _ _ _ _ _ m m₁ m' p0 p1) a =
    young (chain m m₁ m' (wrap p0 a (legal_young apart p0 a)) (wrap p1 tt (legal_young apart p1 tt)))
legal_young apart (Legal.run_on_host _ _ _ _ _ _ _ m m₁ m' p0 p1) a =
    young (chain m m₁ m' (wrap p0 a (legal_young apart p0 a)) (wrap p1 tt (legal_young apart p1 tt)))
legal_young apart (Legal.no_more_points _ _ _ _ m _) a =
    young (none m)
legal_young apart (Legal.proxy_injected _ _ _ _ _ _ _ _ _ _ _ _ p3) a =
    young (wrap p3 a (legal_young apart p3 a))
legal_young apart (Legal.dependent_injected _ _ _ _ _ _ _ _ m m₁ m' _ _ _ p3 p4) a =
    young (chain m m₁ m' (wrap p3 ((omega (arith, a))) (legal_young apart p3 ((omega (arith, a))))) (wrap p4 ((omega
    (arith, a, legal_grows p3))) (legal_young apart p4 ((omega (arith, a, legal_grows p3))))))
legal_young apart (Legal.injection_failed _ _ _ _ _ _ _ _ _ _ _ _ p3) a =
    young (wrap p3 ((omega (arith, a))) (legal_young apart p3 ((omega (arith, a)))))
legal_young apart (Legal.no_more_params _ _ _ _ _ m _) a =
    young (none m)
legal_young apart (Legal.proxy_supplied _ _ _ _ _ _ _ _ _ _ _ _ _ p3) a =
    young (wrap p3 a (legal_young apart p3 a))
legal_young apart (Legal.dependent_supplied _ p _ _ product _ _ _ _ m m₁ m' _ _ _ p3 p4) a =
    young (chain m m₁ m' (wrap p3 ((owned-param product p m.standing.given a)) (legal_young apart p3 ((owned-param
    product p m.standing.given a)))) (wrap p4 ((given-more product m.standing.given m₁.standing.given a
    (legal_grows p3))) (legal_young apart p4 ((given-more product m.standing.given m₁.standing.given a
    (legal_grows p3))))))
legal_young apart (Legal.supply_failed _ p _ product _ _ _ _ m _ _ _ _ p3) a =
    young (wrap p3 ((owned-param product p m.standing.given a)) (legal_young apart p3 ((owned-param product p
    m.standing.given a))))
legal_young apart (Legal.linked _ _ _ _ _ _ _ _ _ _ _ _ _ p2) a =
    young (wrap p2 tt (legal_young apart p2 tt))
legal_young apart (Legal.bare _ _ _ _ _ _ _ m _ _ _) a =
    young (none m)
legal_young apart (Legal.targeted _ _ _ _ _ _ _ _ _ _ _ _ _ _ p3) a =
    young (wrap p3 tt (legal_young apart p3 tt))
legal_young apart (Legal.frame_too_deep _ _ _ _ _ m _) a =
    young (none m)
legal_young apart (Legal.framed _ _ _ _ _ _ _ _ m m₁ m₂ m' _ p1 p2 p3) a =
    young (chain m m₁ m' (entry _ _ _ p1 tt) (chain m₁ m₂ m' (wrap p2 tt (legal_young apart p2 tt)) (entry _ _ _ p3
    tt)))
legal_young apart (Legal.out_of_budget _ _ _ _ _ _ m _) a =
    young (none m)
legal_young apart (Legal.ended _ _ _ _ _ _ _ _ _ _ _ p1 _ _) a =
    young (asking _ _ p1)
legal_young apart (Legal.stopped _ _ _ _ _ _ _ _ _ p1 _ _) a =
    young (asking _ _ p1)
legal_young apart (Legal.went_on _ _ _ _ _ _ _ _ _ _ m m₁ m₂ m' _ p1 _ _ p4 p5) a =
    young (chain m m₁ m' (asking _ _ p1) (chain m₁ m₂ m' (wrap p4 tt (legal_young apart p4 tt)) (wrap p5 tt
    (legal_young apart p5 tt))))
legal_young apart (Legal.touched _ _ n seat _ x r m m' _ p1) a =
    young (touch n seat.actor x m r m' p1)
legal_young apart (Legal.called _ _ _ _ _ _ _ _ _ m m₁ m₂ m' _ _ p2 p3 p4) a =
    young (chain m m₁ m' (entry _ _ _ p2 tt) (chain m₁ m₂ m' (wrap p3 tt (legal_young apart p3 tt)) (entry _ _ _ p4
    tt)))
legal_young apart (Legal.fired _ _ _ _ _ _ _ _ _ m m₁ m₂ m' _ _ p2 p3 p4) a =
    young (chain m m₁ m' (entry _ _ _ p2 tt) (chain m₁ m₂ m' (wrap p3 tt (legal_young apart p3 tt)) (entry _ _ _ p4
    tt)))
legal_young apart (Legal.proceeded _ _ _ _ _ _ _ _ m m₁ m₂ m' _ _ p2 p3 p4) a =
    young (chain m m₁ m' (entry _ _ _ p2 tt) (chain m₁ m₂ m' (wrap p3 tt (legal_young apart p3 tt)) (entry _ _ _ p4
    tt)))
legal_young apart (Legal.unreached _ _ _ _ _ _ _ _ p0) a =
    young (wrap p0 tt (legal_young apart p0 tt))
legal_young apart (Legal.called_managed _ _ _ _ _ _ _ _ m m₁ m' p0 _ p2) a =
    young (chain m m₁ m' (wrap p0 tt (legal_young apart p0 tt)) (wrap p2 tt (legal_young apart p2 tt)))
legal_young apart (Legal.called_product _ _ _ _ _ _ _ _ _ p0 _ _) a =
    young (wrap p0 tt (legal_young apart p0 tt))
legal_young apart (Legal.reached_shared _ _ _ _ _ _ _ _ _ _ p2) a =
    young (wrap p2 tt (legal_young apart p2 tt))
legal_young apart (Legal.reached_own _ _ _ _ _ _ m _ _ _) a =
    young (none m)
legal_young apart (Legal.all_notified _ _ _ _ m _) a =
    young (none m)
legal_young apart (Legal.notified _ _ _ _ _ _ _ m m₁ m' _ p1 p2) a =
    young (chain m m₁ m' (wrap p1 tt (legal_young apart p1 tt)) (wrap p2 tt (legal_young apart p2 tt)))
legal_young apart (Legal.notification_failed _ _ _ _ _ _ _ _ _ p1) a =
    young (wrap p1 tt (legal_young apart p1 tt))
legal_young apart (Legal.skipped _ _ _ _ _ _ _ _ _ _ p3) a =
    young (entry _ _ _ p3 tt)
legal_young apart (Legal.unattended_shared _ _ _ _ _ _ _ _ _ _ _ _ p4) a =
    young (wrap p4 tt (legal_young apart p4 tt))
legal_young apart (Legal.attended_shared _ _ _ _ _ _ _ m m₁ m' _ _ _ _ p4 p5) a =
    young (chain m m₁ m' (wrap p4 tt (legal_young apart p4 tt)) (wrap p5 tt (legal_young apart p5 tt)))
legal_young apart (Legal.unattended_own _ _ _ _ _ _ _ _ _ _ _ _ p4) a =
    young (wrap p4 tt (legal_young apart p4 tt))

-- each ready instance has its dependent objects after a node, where this is so before
pub legal_settled : {s : Scene} {k : ℕ} {x : Node} {answer : Answer} {m m' : Moment} → IsApart s
    → Legal s k x m answer m'
    → Begins x m → Settled s m → Settled s m'
legal_settled apart p b h = wrap p b (legal_young apart p b) h

-- what ends keeps this too, where what is destroyed was made for none that stays
pub context_settled : {s : Scene} {scope : Scope} {m m' : Moment} → Ends s (context scope) m m' → Settled s m
    → Settled s m'
context_settled {s} {scope} {m} {m'} p h = record {
  rises = ends-rise p h.rises;
  furnished = all-of s m'.standing.live
      (ends_furnished (λ n. Unit {0}) p h.rises tt (only s (λ n. Unit {0}) m.standing.live h.furnished));
}

-- ---- what is made and what is obtained

-- what was created has its dependent objects
pub created_has : {s : Scene} {k b n : ℕ} {o : Owner} {m m' : Moment} → IsApart s
    → Legal s k (create b o) m (made_is (Obtained n)) m'
    → IsOwnerOf (m.standing.given + 1) o → Settled s m → HasDependents s m'.standing.live (nodes.at b n)
created_has {s} apart (Legal.made k j b x o i v m m₁ m₂ m' p0 p1 p2 p3 p4 p5 p6 p7) owned h =
    let settled = begin i o m m₁ p5 owned h in
    let exact : i.number ≡ m₁.standing.given = omega (arith, p4, ap (λ (y : Moment). y.standing.given) p5) in
    let had = set_up apart p6 settled.rises exact v refl in
    let product = nodes.product_of x.form v in
    let after = has-still s m₂.standing.live (map (finish i.number product) m₂.standing.live) i
    (λ actor p d f. still-finish (at i.number actor p) i.number product m₂.standing.live d f) had in
    let here = subst (λ (y : Moment). HasDependents s y.standing.live i) (sym p7) after in
    subst (λ (c : ℕ). HasDependents s m'.standing.live (nodes.at c i.number)) p3 here

-- what was obtained has its dependent objects
pub obtained_has : {s : Scene} {k b n : ℕ} {m m' : Moment} → IsApart s
    → Legal s k (nodes.obtain b) m (made_is (Obtained n)) m'
    → Settled s m → HasDependents s m'.standing.live (nodes.at b n)
obtained_has {s} apart (Legal.present _ b x i m _ _ p2 p3) h =
    let f : Test = λ id o. (id.bean == b) && is_of x.scope o in
    let had = found-such (λ z. z.is_ready ≡ true → HasDependents s m.standing.live z.id) f m.standing.live i
    h.furnished p2 in
    let bean : i.id.bean ≡ b = grind (arith, (and_parts (i.id.bean == b) (is_of x.scope i.owner) had.1).0) in
    subst (λ (c : ℕ). HasDependents s m.standing.live (nodes.at c i.id.number)) bean (had.0 p3)
obtained_has apart (Legal.absent _ _ x _ m _ _ _ _ p3) h =
    created_has apart p3 (owned-context (older 0) (m.standing.given + 1) x.scope).0 h

-- ---- commands

uses_settled : {s : Scene} {i : InstanceId} {u : Use} {m : Moment} {o : Outcome} {m' : Moment} → IsApart s
    → Uses s i u m o m'
    → Settled s m → Settled s m'
uses_settled apart (Uses.called _ _ _ _ _ _ _ p1) h = legal_settled apart p1 tt h
uses_settled apart other h = h

pub runs_settled : {s : Scene} {c : Command} {m : Moment} {o : Outcome} {m' : Moment} → IsApart s
    → Runs s c m o m' → Settled s m
    → Settled s m'
runs_settled apart (Runs.refused_shared _ _ _ _ _ _ _ _ p2) h = legal_settled apart p2 tt h
runs_settled apart (Runs.used_shared _ _ _ _ _ _ _ _ _ _ p2 p3) h = uses_settled apart p3 (legal_settled apart p2 tt h)
runs_settled apart (Runs.refused_own _ _ _ _ _ _ _ _ p2) h = legal_settled apart p2 tt h
runs_settled {s} apart (Runs.used_own b x u n o m m₁ m₂ m' _ _ p2 p3 p4) h =
    let settled = legal_settled apart p2 tt h in
    let after = uses_settled apart p3 settled in
    let low : n ≤ m₁.standing.given = made-low p2 in
    let t : Terms = spare_terms (λ k. Unit {0}) n m₁.standing.given low in
    let spared = (uses_older t p3 (same-given m₁) settled.rises).all (created-spare (λ k. Unit {0}) p2 h.rises) in
    record {
      rises = ends-rise p4 after.rises;
      furnished = all-of s m'.standing.live
          (ends_furnished (λ k. Unit {0}) p4 after.rises spared (only s (λ k. Unit {0}) m₂.standing.live
          after.furnished));
    }
runs_settled apart (Runs.fired _ _ _ _ _ p0) h = legal_settled apart p0 tt h

-- ---- sound scenes

form_apart : (book : Bodies) (s : Scene) (b : ℕ) (f : Form) (managed : Managed) → IsSoundForm book s b f
    → as_managed f ≡ Some managed
    → AreApart managed.injections
form_apart book s b (forms.Managed one) managed sound e = grind (arith, sound.apart)
form_apart book s b (forms.Product one) managed sound e = cc

pub sound_apart : (book : Bodies) (s : Scene) → IsSound book s → IsApart s
sound_apart book s sound b managed e = grind (arith, managed.injections, sound.beans, form_apart)
