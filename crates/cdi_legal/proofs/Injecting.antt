-- A new instance has its dependent objects once its injection has ended.
use Rattle.cdi_legal.proofs.Common.{false_from_ne_true, ◌≡◌, ◌<◌, ℕ, false, None, Some, refl, Actor, InstanceId, Owner, Scene, Legal}
use Rattle.cdi_legal.proofs.Common.{Moment, ◌+◌, ◌≤◌, inl, inr, true, List, [], ◌∷◌, length, arith, ap, subst, sym, ◌∙◌, AllByRecursion}
use Rattle.cdi_legal.proofs.Common.{Target, Interceptor, Instance, Point, is_normal, Option, Val, Null, bean_at, Bean, Injection, create}
use Rattle.cdi_legal.proofs.Common.{◌++◌, map, slice_get, is_at, same_actor, IsOwnerOf, finish, ◌⊎◌, IsRising-more, made_is, nat_lt}
use Rattle.cdi_legal.proofs.Common.{slice_get_within, nat_tests, IsDependent}
use Rattle.cdi_legal.proofs.{Growing.legal_grows, Sharing.same-finish, Furnishing.found-such, Furnishing.all-given, Furnishing.at}
use Rattle.cdi_legal.proofs.Keeping.{Terms, Test, found_by, IsFree, Rises, Older, legal_older, older, begun}
use Rattle.cdi_legal.specs.declared.entry.Made.TheVariants.{Instance as Obtained}
use Rattle.cdi_legal.specs.{Furnished.IsMade, Legal.inject, Legal.failure_is, Legal.product_of}

-- ---- what is found

none-found : (f : Test) (live : List Instance) → AllByRecursion (λ z. f z.id z.owner ≡ false) live
    → found_by f live ≡ None
none-found f [] a = refl
none-found f (x ∷ xs) a = rw a.0 (none-found f xs a.1)

found-more : (f : Test) (live : List Instance) (x : Instance) → found_by f live ≡ None → f x.id x.owner ≡ true
    → found_by f (live ++ x ∷ []) ≡ Some x
found-more f [] x e h = rw h refl
found-more f (y ∷ ys) x e h = grind (arith, found-more f ys x, found_by)

found-finish : (f : Test) (n : ℕ) (product : Option Val) (live : List Instance) (i : Instance)
    → found_by f live ≡ Some i
    → found_by f (map (finish n product) live) ≡ Some (finish n product i)
found-finish f n product [] i e = cc
found-finish f n product (x ∷ xs) i e = grind (arith, found-finish f n product xs i, same-finish, finish, found_by, map)

finished-ready : (n : ℕ) (product : Option Val) (i : Instance) → i.id.number ≡ n → (finish n product i).is_ready ≡ true
finished-ready n None i e = grind (arith, i.id.number)
finished-ready n (Some v) i e = grind (arith, i.id.number)

-- ---- one that is created

-- a ready instance of the bean is found
pub record IsFound (f : Test) (b : ℕ) (live : List Instance) : Type 0 where
  pub made : Instance
  pub there : found_by f live ≡ Some made
  pub bean : made.id.bean ≡ b
  pub ready : made.is_ready ≡ true

-- where none passed before, it is the one that is found
pub created-found : {s : Scene} {k b n : ℕ} {o : Owner} {m m' : Moment} (f : Test)
    → Legal s k (create b o) m (made_is (Obtained n)) m'
    → Rises m.standing → IsOwnerOf (m.standing.given + 1) o → ((id : InstanceId) → f id o ≡ true)
    → AllByRecursion (λ z. f z.id z.owner ≡ false) m.standing.live → IsFound f b m'.standing.live
created-found f (Legal.made k j b x o i v m m₁ m₂ m' _ _ _ p3 p4 p5 p6 p7) r owned passes none =
    let new : Instance = record {
      id = record { bean = i.bean; number = m.standing.given + 1 };
      owner = o;
      is_ready = false;
      state = Null;
    } in
    let first : found_by f m₁.standing.live ≡ Some new =
    subst (λ (y : Moment). found_by f y.standing.live ≡ Some new) (sym p5)
    (found-more f m.standing.live new (none-found f m.standing.live none) (passes new.id)) in
    let low : i.number ≤ m₁.standing.given = begun i o m m₁ p4 p5 in
    let given : m₁.standing.given ≡ m.standing.given + 1 = ap (λ (y : Moment). y.standing.given) p5 in
    let t : Terms = older m.standing.given in
    let above : m.standing.given < i.number = omega (arith, p4) in
    let all : m₁.standing.given ≤ m₁.standing.given = omega arith in
    let r₁ : Rises m₁.standing = subst (λ (y : Moment). Rises y.standing) (sym p5)
    (IsRising-more m.standing.given m.standing.live new r refl owned) in
    let still = (legal_older (older m₁.standing.given) p6 (low, λ actor p id l w. tt) all r₁).keeps f new
    (omega (arith, given)) first in
    let number : still.same.id.number ≡ i.number = ap (λ (d : InstanceId). d.number) still.id ∙ sym p4 in
    let product = product_of x.form v in
    let same = same-finish i.number product still.same in
    record {
      made = finish i.number product still.same;
      there = subst (λ (y : Moment). found_by f y.standing.live ≡ Some (finish i.number product still.same)) (sym p7)
          (found-finish f i.number product m₂.standing.live still.same still.there);
      bean = ap (λ (d : InstanceId). d.bean) (same.0 ∙ still.id) ∙ p3;
      ready = finished-ready i.number product still.same number;
    }

-- ---- points

same-by : (a b : Actor) → same_actor a b ≡ true → a ≡ b
same-by Target Target e = refl
same-by Target (Interceptor q) e = cc
same-by (Interceptor p) Target e = cc
same-by (Interceptor p) (Interceptor q) e = grind arith

actor-self : (a : Actor) → same_actor a a ≡ true
actor-self Target = refl
actor-self (Interceptor q) = grind arith

at-self : (n : ℕ) (a : Actor) (p : ℕ) → is_at n a p (Point n a p) ≡ true
at-self n a p = grind (arith, actor-self)

-- it is one point of one instance
pub at-same : (n : ℕ) (a : Actor) (p m : ℕ) (b : Actor) (q : ℕ) → is_at n a p (Point m b q) ≡ true
    → (m ≡ n) × (b ≡ a) × (q ≡ p)
at-same n a p m b q e = grind (arith, same_actor, same-by)

not-free : (n : ℕ) (a : Actor) (p low : ℕ) (o : Owner) → n ≤ low → IsFree low o → is_at n a p o ≡ true → ⊥
not-free n a p low (Point m b q) l free e = absurd (omega (arith, l, free, (at-same n a p m b q e).0))
not-free n a p low other l free e = cc

-- no instance was made for this point
abbrev pub IsOpen : ℕ → Actor → ℕ → List Instance → Type 0
IsOpen n a p live = AllByRecursion (λ z. is_at n a p z.owner ≡ false) live

-- it stays so for a point of an instance that was begun
abbrev open_terms : (n low : ℕ) → n ≤ low → Actor → ℕ → Terms
open_terms n low l a p = record {
  low = low;
  holds = λ id o r. is_at n a p o ≡ false;
  young = λ id o above owned free. false_from_ne_true (is_at n a p o) (not-free n a p low o l free);
  ready = λ id o r above h. h;
}

-- ---- injection

pub nat_cases : (j p : ℕ) → j ≤ p → (j ≡ p) ⊎ (j < p)
nat_cases j p l = grind (arith, nat_lt, nat_tests)

-- no two are of one actor and point
abbrev pub AreApart : List Injection → Type 0
AreApart ps =
    (j k : ℕ) (x y : Injection) → slice_get ps j ≡ Some x → slice_get ps k ≡ Some y → x.actor ≡ y.actor
    → x.point ≡ y.point → j ≡ k

-- from this point on nothing was made for them
abbrev pub AreOpen : ℕ → List Injection → ℕ → List Instance → Type 0
AreOpen n ps p live = (k : ℕ) (point : Injection) → p ≤ k → slice_get ps k ≡ Some point
    → IsOpen n point.actor point.point live

-- a dependent object stands for each up to this point
abbrev pub AreMade : Scene → ℕ → List Injection → ℕ → List Instance → Type 0
AreMade s n ps p live =
    (k : ℕ) (point : Injection) → k < p → slice_get ps k ≡ Some point → IsDependent s point.bean → IsMade live n point

pub shared-clash : (s : Scene) (b : ℕ) (x : Bean) → bean_at s b ≡ Some x → is_normal x.scope ≡ true → IsDependent s b → ⊥
shared-clash s b x there normal own = grind (arith, there, is_normal)

pub injected : {s : Scene} {k p : ℕ} {i : InstanceId} {ps : List Injection} {m m' : Moment}
    → Legal s k (inject i ps p) m (failure_is None) m'
    → Rises m.standing → i.number ≤ m.standing.given → AreApart ps → AreOpen i.number ps p m.standing.live
    → AreMade s i.number ps p m.standing.live → AreMade s i.number ps (length ps) m'.standing.live
injected (Legal.no_more_points k p i ps m p0) r low apart free made =
    λ j point less there own. made j point (omega (arith, p0, slice_get_within ps j point there)) there own
injected {s} (Legal.proxy_injected k p i ps point x a m m' p0 p1 p2 p3) r low apart free made =
    injected p3 r low apart (λ j q after there. free j q (omega (arith, after)) there)
    (λ j q before there own. by j q before there own (nat_cases j p (omega (arith, before))))
  where
    by : (j : ℕ) (q : Injection) → j < p + 1 → slice_get ps j ≡ Some q → IsDependent s q.bean → (j ≡ p) ⊎ (j < p)
        → IsMade m.standing.live i.number q
    by j q before there own (inl same) =
        let both : Some point ≡ Some q = sym p0 ∙ ap (slice_get ps) (sym same) ∙ there in
        let is : point ≡ q = cc in
        absurd (shared-clash s point.bean x p1 p2 (subst (λ (z : Injection). IsDependent s z.bean) (sym is) own))
    by j q before there own (inr less) = made j q less there own
injected {s} (Legal.dependent_injected k p d i ps point x a m m₁ m' p0 p1 p2 p3 p4) r low apart free made =
    injected p4 step.rises (omega (arith, low, legal_grows p3)) apart later done
  where
    owned : IsOwnerOf (m.standing.given + 1) (Point i.number point.actor point.point)
    owned = omega (arith, low)

    all : m.standing.given ≤ m.standing.given
    all = omega arith

    step : Older (older m.standing.given) m.standing m₁.standing
    step = legal_older (older m.standing.given) p3 (owned, λ id l w. tt) all r

    later : AreOpen i.number ps (p + 1) m₁.standing.live
    later j q after there =
        let t : Terms = open_terms i.number m.standing.given low q.actor q.point in
        let other : is_at i.number q.actor q.point (Point i.number point.actor point.point) ≡ false =
        false_from_ne_true (is_at i.number q.actor q.point (Point i.number point.actor point.point))
        (λ e. let same = at-same i.number q.actor q.point i.number point.actor point.point e in
        absurd (omega (arith, after, apart p j point q p0 there same.1 same.2))) in
        (legal_older t p3 (owned, λ id l w. other) all r).all (free j q (omega (arith, after)) there)

    made-here : IsFound (at i.number point.actor point.point) point.bean m₁.standing.live
    made-here =
        created-found (at i.number point.actor point.point) p3 r owned (λ id. at-self i.number point.actor point.point)
        (free p point (omega arith) p0)

    by : (j : ℕ) (q : Injection) → j < p + 1 → slice_get ps j ≡ Some q → IsDependent s q.bean → (j ≡ p) ⊎ (j < p)
        → IsMade m₁.standing.live i.number q
    by j q before there own (inl same) =
        let both : Some point ≡ Some q = sym p0 ∙ ap (slice_get ps) (sym same) ∙ there in
        let is : point ≡ q = cc in
        subst (IsMade m₁.standing.live i.number) is
        (record { made = made-here.made; there = made-here.there; bean = made-here.bean; ready = made-here.ready })
    by j q before there own (inr less) =
        let one = made j q less there own in
        let known = found-such (λ z. z.id.number ≤ m.standing.given) (at i.number q.actor q.point) m.standing.live
        one.made
        (all-given 0 m.standing.given m.standing.live r) one.there in
        let still = step.keeps (at i.number q.actor q.point) one.made known.0 one.there in
        record {
          made = still.same;
          there = still.there;
          bean = ap (λ (d : InstanceId). d.bean) still.id ∙ one.bean;
          ready = still.ready one.ready;
        }

    done : AreMade s i.number ps (p + 1) m₁.standing.live
    done j q before there own = by j q before there own (nat_cases j p (omega (arith, before)))
