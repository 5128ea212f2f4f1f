-- Along runs each ready instance has its dependent objects.
use Rattle.cdi_legal.proofs.Common.{all-weaker, ◌≡◌, ◌<◌, ℕ, false, None, Some, refl, Outcome, Act, Load, Store, Actor, InstanceId, Owner}
use Rattle.cdi_legal.proofs.Common.{Scene, Touches, Ends, End, Moment, put, is_create, Entry, suc, ◌≤◌, Bool, true, List, [], ◌∷◌, arith}
use Rattle.cdi_legal.proofs.Common.{ap, subst, sym, ◌∙◌, AllByRecursion, Scope, is_of, Standing, Target, Interceptor, Instance, Request}
use Rattle.cdi_legal.proofs.Common.{Application, Point, applied, effect, step, Effect, Val, Held, last_in, ◌==◌, map, slice_get, zero}
use Rattle.cdi_legal.proofs.Common.{is_at, is_part_of, same_actor, IsOwnerOf, without, keep, finish, last_of, made_for, IsRising-without}
use Rattle.cdi_legal.proofs.Common.{IsRising-finished, IsRising-stored, HasDependents, IsStill, is_beginning}
use Rattle.cdi_contexts.specs.Rising.{RisesFrom}
use Rattle.cdi_contexts.proofs.{Last.last_of_all, Rising.rises_bound}
use Rattle.cdi_legal.proofs.{Along.IsKept, Along.ends_along, Along.touch_along, Sharing.same-keep, Sharing.same-finish}
use Rattle.cdi_legal.proofs.Keeping.{Test, found_by, Rises, still-without, still-keep, all-without, all-map}
use Rattle.cdi_legal.specs.Ends as ends
use Rattle.cdi_legal.specs.Moment as effects
use Rattle.cdi_legal.specs.declared.entry.Entry.TheVariants as entries

-- ---- lists

pub all-both : {X : Type 0} (P Q : X → Type 0) (xs : List X) → AllByRecursion P xs → AllByRecursion Q xs
    → AllByRecursion (λ x. P x × Q x) xs
all-both P Q [] a b = tt
all-both P Q (x ∷ xs) a b = ((a.0, b.0), all-both P Q xs a.1 b.1)

-- what holds of all holds of the one that is found, which passes
pub found-such : (P : Instance → Type 0) (f : Test) (live : List Instance) (i : Instance) → AllByRecursion P live
    → found_by f live ≡ Some i → P i × (f i.id i.owner ≡ true)
found-such P f [] i a e = cc
found-such P f (x ∷ xs) i a e = grind (arith, found-such P f xs i a.1, a.1, a.0, found_by)

-- ---- numbers

-- no other instance has its number
abbrev IsAlone : List Instance → Instance → Type 0
IsAlone live i = AllByRecursion (λ z. z.id.number ≡ i.id.number → z.owner ≡ i.owner) live

pub all-above : (low given : ℕ) (live : List Instance) → RisesFrom low given live
    → AllByRecursion (λ z. low < z.id.number) live
all-above low given [] r = tt
all-above low given (i ∷ is) r =
    (r.0, all-weaker _ _ is (λ z h. omega (arith, h, r.0)) (all-above i.id.number given is r.2))

pub all-given : (low given : ℕ) (live : List Instance) → RisesFrom low given live
    → AllByRecursion (λ z. z.id.number ≤ given) live
all-given low given [] r = tt
all-given low given (i ∷ is) r = (rises_bound i.id.number given is r.2, all-given i.id.number given is r.2)

pub all-owned : (low given : ℕ) (live : List Instance) → RisesFrom low given live
    → AllByRecursion (λ z. IsOwnerOf z.id.number z.owner) live
all-owned low given [] r = tt
all-owned low given (i ∷ is) r = (r.1, all-owned i.id.number given is r.2)

all-alone : (low given : ℕ) (live : List Instance) → RisesFrom low given live → AllByRecursion (IsAlone live) live
all-alone low given [] r = tt
all-alone low given (i ∷ is) r =
    let above = all-above i.id.number given is r.2 in (
      (λ e. refl, all-weaker _ _ is (λ z h e. absurd (omega (arith, h, e))) above),
      all-weaker _ _ is (λ y h. (λ e. absurd (omega (arith, h.0, e)), h.1))
          (all-both _ _ is above (all-alone i.id.number given is r.2)),
    )

-- ---- dependent objects

abbrev pub at : ℕ → Actor → ℕ → Test
at n actor p = λ id o. is_at n actor p o

-- they stay where the instances stay that were made for points of instance n
pub has-still : (s : Scene) (live after : List Instance) (i : InstanceId)
    → ((actor : Actor) (p : ℕ) (d : Instance) → made_for live i.number actor p ≡ Some d
    → IsStill d (made_for after i.number actor p)) → HasDependents s live i → HasDependents s after i
has-still s live after i stays has managed k point there at own =
    let m = has managed k point there at own in
    let still = stays point.actor point.point m.made m.there in
    record {
      made = still.same;
      there = still.there;
      bean = ap (λ (d : InstanceId). d.bean) still.id ∙ m.bean;
      ready = still.ready m.ready;
    }

-- the ready instances with such numbers have their dependent objects
abbrev pub AreFurnished : (ℕ → Type 0) → Scene → List Instance → Type 0
AreFurnished K s live = AllByRecursion (λ i. K i.id.number → i.is_ready ≡ true → HasDependents s live i.id) live

-- the owner is none of such a number
abbrev pub Outside : (ℕ → Type 0) → Owner → Type 0
Outside K (Point n actor p) = K n → ⊥
Outside K other = Unit {0}

-- the instance of this number, if it is live, was made for none of such a number
abbrev pub IsSpare : (ℕ → Type 0) → ℕ → List Instance → Type 0
IsSpare K n live = AllByRecursion (λ z. z.id.number ≡ n → Outside K z.owner) live

inside : (K : ℕ → Type 0) (n : ℕ) (actor : Actor) (p : ℕ) (o : Owner) → is_at n actor p o ≡ true → K n → Outside K o → ⊥
inside K n actor p (Point m who q) e k out = grind (arith, same_actor)
inside K n actor p Request e k out = cc
inside K n actor p other e k out = cc

-- ---- steps of ends

-- what holds of each live instance by its id and owner is kept where none begins
all-after : (P : InstanceId → Owner → Type 0) (x : Effect) (s : Standing) → is_beginning x ≡ false
    → AllByRecursion (λ i. P i.id i.owner) s.live → AllByRecursion (λ i. P i.id i.owner) (applied s x).live
all-after P (effects.begins id owner) s h a = cc
all-after P (effects.readies number product) s h a =
    all-map _ _ (finish number product) s.live (λ i p. rw ((same-finish number product i).0, (same-finish number product i).1) p) a
all-after P (effects.ends number) s h a = all-without _ number s.live a
all-after P (effects.stores number Target value) s h a =
    all-map _ _ (keep number value) s.live (λ i p. rw ((same-keep number value i).0, (same-keep number value i).1) p) a
all-after P (effects.stores number (Interceptor q) value) s h a = a
all-after P effects.none s h a = a

pub all-step : (P : InstanceId → Owner → Type 0) (e : Entry) (s : Standing) → is_create e ≡ false
    → AllByRecursion (λ i. P i.id i.owner) s.live → AllByRecursion (λ i. P i.id i.owner) (step s e).live
all-step P e s h a = all-after P (effect e) s h a

abbrev LeavesAll : (InstanceId → Owner → Type 0) → Moment → Moment → Type 0
LeavesAll P m m' = AllByRecursion (λ i. P i.id i.owner) m.standing.live
    → AllByRecursion (λ i. P i.id i.owner) m'.standing.live

all-kept : (P : InstanceId → Owner → Type 0) → IsKept (LeavesAll P)
all-kept P = record {
  none = λ m a. a;
  then = λ x y z p q a. q (p a);
  entry = λ e m m' other h a.
      subst (λ (x : Moment). AllByRecursion (λ i. P i.id i.owner) x.standing.live) (sym h) (all-step P e m.standing
      other a);
}

pub ends-all : (P : InstanceId → Owner → Type 0) {s : Scene} {e : End} {m m' : Moment} → Ends s e m m'
    → LeavesAll P m m'
ends-all P p = ends_along (all-kept P) p

rises-after : (x : Effect) (s : Standing) → is_beginning x ≡ false → Rises s → Rises (applied s x)
rises-after (effects.begins id owner) s h r = cc
rises-after (effects.readies number product) s h r = IsRising-finished s.given number product s.live r
rises-after (effects.ends number) s h r = IsRising-without s.given number s.live r
rises-after (effects.stores number Target value) s h r = IsRising-stored s.given number value s.live r
rises-after (effects.stores number (Interceptor q) value) s h r = r
rises-after effects.none s h r = r

pub rises-kept : IsKept (λ m m'. Rises m.standing → Rises m'.standing)
rises-kept = grind (arith, rises-after, effect)

pub ends-rise : {s : Scene} {e : End} {m m' : Moment} → Ends s e m m' → Rises m.standing → Rises m'.standing
ends-rise p = ends_along rises-kept p

-- the effect takes no instance away, begins none and makes none ready
abbrev IsPlainEffect : Effect → Type 0
IsPlainEffect (effects.stores number actor value) = Unit {0}
IsPlainEffect effects.none = Unit {0}
IsPlainEffect other = ⊥

abbrev pub IsPlain : Entry → Type 0
IsPlain e = IsPlainEffect (effect e)

plain-begins : (x : Effect) → IsPlainEffect x → is_beginning x ≡ false
plain-begins (effects.begins id owner) p = absurd p
plain-begins other p = refl

pub is_plain_kept : (e : Entry) → IsPlain e → is_create e ≡ false
is_plain_kept e p = plain-begins (effect e) p

furnished-keep : (K : ℕ → Type 0) (s : Scene) (n : ℕ) (v : Val) (live : List Instance) → AreFurnished K s live
    → AreFurnished K s (map (keep n v) live)
furnished-keep K s n v live a =
    all-map _ _ (keep n v) live (λ i h. kept i (i.id.number == n) refl h) a
  where
    after : List Instance
    after = map (keep n v) live

    has : (i : Instance) → HasDependents s live i.id → HasDependents s after i.id
    has i h = has-still s live after i.id (λ actor p d e. still-keep (at i.id.number actor p) n v live d e) h

    kept : (i : Instance) (b : Bool) → (i.id.number == n) ≡ b → (K i.id.number → i.is_ready ≡ true
        → HasDependents s live i.id)
        → K (keep n v i).id.number → (keep n v i).is_ready ≡ true → HasDependents s after (keep n v i).id
    kept i true e h = rw e (λ k r. has i (h k r))
    kept i false e h = rw e (λ k r. has i (h k r))

furnished-plain : (K : ℕ → Type 0) (s : Scene) (x : Effect) (m : Standing) → IsPlainEffect x → AreFurnished K s m.live
    → AreFurnished K s (applied m x).live
furnished-plain K s (effects.stores number Target value) m h a = furnished-keep K s number value m.live a
furnished-plain K s (effects.stores number (Interceptor q) value) m h a = a
furnished-plain K s effects.none m h a = a
furnished-plain K s other m h a = absurd h

pub plain : (K : ℕ → Type 0) (s : Scene) (e : Entry) (m m' : Moment) → m' ≡ put e m → IsPlain e
    → AreFurnished K s m.standing.live
    → AreFurnished K s m'.standing.live
plain K s e m m' h p a =
    subst (λ (x : Moment). AreFurnished K s x.standing.live) (sym h) (furnished-plain K s (effect e) m.standing p a)

pub touch-furnished : (K : ℕ → Type 0) (s : Scene) (n : ℕ) (actor : Actor) (x : Act) (m : Moment) (o : Outcome) (m' :
    Moment)
    → Touches n actor x m o m' → AreFurnished K s m.standing.live → AreFurnished K s m'.standing.live
touch-furnished K s n actor Load m o m' h a = plain K s _ m m' h.1 tt a
touch-furnished K s n actor (Store v) m o m' h a = plain K s _ m m' h.1 tt a
touch-furnished K s n actor other m o m' h a = absurd h

-- ---- an instance goes

-- none of the others has this number
abbrev pub Others : (ℕ → Type 0) → ℕ → ℕ → Type 0
Others K n k = K k × (k ≡ n → ⊥)

pub none-left : (n : ℕ) (live : List Instance) → AllByRecursion (λ i. i.id.number ≡ n → ⊥) (without n live)
none-left n [] = tt
none-left n (i ∷ is) = grind (arith, none-left n is, without)

-- the others keep their dependent objects where the one that goes is none of them
pub furnished-without : (K : ℕ → Type 0) (s : Scene) (n : ℕ) (live : List Instance) → IsSpare K n live
    → AreFurnished (Others K n) s live
    → AreFurnished K s (without n live)
furnished-without K s n live spare a =
    all-weaker (λ i. Apart i × Left i) Mine (without n live) (λ i h k r. h.1 (k, h.0) r)
    (all-both Apart Left (without n live) (none-left n live)
    (all-without Left n live (all-weaker Before Left live (λ i h k r. has i k.0 (h k r)) a)))
  where
    Apart : Instance → Type 0
    Apart i = i.id.number ≡ n → ⊥

    Before : Instance → Type 0
    Before i = Others K n i.id.number → i.is_ready ≡ true → HasDependents s live i.id

    Left : Instance → Type 0
    Left i = Others K n i.id.number → i.is_ready ≡ true → HasDependents s (without n live) i.id

    Mine : Instance → Type 0
    Mine i = K i.id.number → i.is_ready ≡ true → HasDependents s (without n live) i.id

    IsSuch : Instance → Type 0
    IsSuch z = z.id.number ≡ n → Outside K z.owner

    has : (i : Instance) → K i.id.number → HasDependents s live i.id → HasDependents s (without n live) i.id
    has i k h =
        has-still s live (without n live) i.id
        (λ actor p d e. still-without (at i.id.number actor p) n live d
        (λ same. let f = found-such IsSuch (at i.id.number actor p) live d spare e in
        inside K i.id.number actor p d.owner f.1 k (f.0 same)) e) h

pub gone-furnished : (K : ℕ → Type 0) (s : Scene) (i : InstanceId) (m m' : Moment) → m' ≡ put (entries.Gone i) m
    → IsSpare K i.number m.standing.live → AreFurnished (Others K i.number) s m.standing.live
    → AreFurnished K s m'.standing.live
gone-furnished K s i m m' h spare a = grind (arith, i.number, m.standing.live, furnished-without)

pub fewer : (K : ℕ → Type 0) (s : Scene) (n : ℕ) (live : List Instance) → AreFurnished K s live
    → AreFurnished (Others K n) s live
fewer K s n live a = all-weaker _ _ live (λ i h k r. h k.0 r) a

-- ---- ends

abbrev pub AllSpare : (ℕ → Type 0) → Held → List Instance → Type 0
AllSpare K [] live = Unit {0}
AllSpare K (None ∷ h) live = AllSpare K h live
AllSpare K (Some i ∷ h) live = IsSpare K i.number live × AllSpare K h live

spare-at : (K : ℕ → Type 0) (h : Held) (live : List Instance) (j : ℕ) (i : InstanceId) → AllSpare K h live
    → slice_get h j ≡ Some (Some i) → IsSpare K i.number live
spare-at K [] live j i a e = cc
spare-at K (None ∷ h) live zero i a e = cc
spare-at K (Some x ∷ h) live zero i a e = let q : x ≡ i = cc in subst (λ (d : InstanceId). IsSpare K d.number live) q
    a.0
spare-at K (None ∷ h) live (suc j) i a e = spare-at K h live j i a e
spare-at K (Some x ∷ h) live (suc j) i a e = spare-at K h live j i a.1 e

spare-on : (K : ℕ → Type 0) {s : Scene} {e : End} {m m' : Moment} (h : Held) → Ends s e m m'
    → AllSpare K h m.standing.live
    → AllSpare K h m'.standing.live
spare-on K [] p a = tt
spare-on K (None ∷ h) p a = spare-on K h p a
spare-on K (Some i ∷ h) p a = (ends-all (λ id o. id.number ≡ i.number → Outside K o) p a.0, spare-on K h p a.1)

-- what is destroyed was made for none of these instances
abbrev pub Spares : (ℕ → Type 0) → End → List Instance → Type 0
Spares K (ends.destroy i) live = IsSpare K i.number live
Spares K (ends.dependents n) live = K n → ⊥
Spares K (ends.held h k) live = AllSpare K h live
Spares K other live = Unit {0}

outside-part : (K : ℕ → Type 0) (n : ℕ) (o : Owner) → is_part_of n o ≡ true → (K n → ⊥) → Outside K o
outside-part K n (Point m actor p) e never = grind arith
outside-part K n Request e never = cc
outside-part K n other e never = cc

outside-context : (K : ℕ → Type 0) (scope : Scope) (o : Owner) → is_of scope o ≡ true → Outside K o
outside-context K scope Request e = tt
outside-context K scope Application e = tt
outside-context K scope other e = cc

alone-spare : (K : ℕ → Type 0) (live : List Instance) (i : Instance) (d : InstanceId) → IsAlone live i → i.id ≡ d
    → Outside K i.owner
    → IsSpare K d.number live
alone-spare K live i d alone e out = grind (arith, all-weaker)

dependent-spare : (K : ℕ → Type 0) (n : ℕ) (d : InstanceId) (s : Standing) → Rises s → last_of s.live n ≡ Some d
    → (K n → ⊥)
    → IsSpare K d.number s.live
dependent-spare K n d s r e never = grind (arith, s.live, s.given, last_of_all, all-alone, alone-spare, outside-part)

shared-spare : (K : ℕ → Type 0) (scope : Scope) (d : InstanceId) (s : Standing) → Rises s
    → last_in s.live scope ≡ Some d
    → IsSpare K d.number s.live
shared-spare K scope d s r e = grind (arith, s.live, s.given, last_of_all, all-alone, alone-spare, outside-context)

-- what ends leaves such instances with their dependent objects
pub ends_furnished : {s : Scene} (K : ℕ → Type 0) {e : End} {m m' : Moment} → Ends s e m m' → Rises m.standing
    → Spares K e m.standing.live
    → AreFurnished K s m.standing.live → AreFurnished K s m'.standing.live
ends_furnished {s} K (Ends.destroyed i m m₁ m₂ m₃ m' p0 p1 p2 p3) r spare a =
    let r₁ : Rises m₁.standing = subst (λ (x : Moment). Rises x.standing) (sym p0) r in
    let a₁ = plain K s _ m m₁ p0 tt a in
    let spare₁ : IsSpare K i.number m₁.standing.live = subst (λ (x : Moment). IsSpare K i.number x.standing.live)
    (sym p0) spare in
    let a₂ = ends_furnished K p1 r₁ tt a₁ in
    let is_out : InstanceId → Owner → Type 0 = λ id o. id.number ≡ i.number → Outside K o in
    let spare₃ = ends-all is_out p2 (ends-all is_out p1 spare₁) in
    let a₃ = ends_furnished (Others K i.number) p2 (ends-rise p1 r₁) (λ k. k.1 refl) (fewer K s i.number
    m₂.standing.live a₂) in
    gone-furnished K s i m₃ m' p3 spare₃ a₃
ends_furnished K (Ends.no_dependent _ m _) r spare a = a
ends_furnished K (Ends.youngest n d m m₁ m' p0 p1 p2) r spare a =
    ends_furnished K p2 (ends-rise p1 r) spare (ends_furnished K p1 r (dependent-spare K n d m.standing r p0 spare) a)
ends_furnished K (Ends.none_held _ m) r spare a = a
ends_furnished K (Ends.proxy_held _ _ _ _ _ _ _ p2) r spare a = ends_furnished K p2 r spare a
ends_furnished K (Ends.instance_held h j _ i m m₁ m' _ p1 p2 p3) r spare a =
    ends_furnished K p3 (ends-rise p2 r) (spare-on K h p2 spare)
    (ends_furnished K p2 r (spare-at K h m.standing.live j i spare p1) a)
ends_furnished K (Ends.context_empty _ m _) r spare a = a
ends_furnished K (Ends.context_left scope i m m₁ m' p0 p1 p2) r spare a =
    ends_furnished K p2 (ends-rise p1 r) tt (ends_furnished K p1 r (shared-spare K scope i m.standing r p0) a)
ends_furnished K (Ends.called_back _ _ _ _ _ _ p1) r spare a = ends_furnished K p1 r tt a
ends_furnished K (Ends.undisposed _ _ m _ _) r spare a = a
ends_furnished K (Ends.disposed _ _ _ _ _ _ _ _ p2) r spare a = ends_furnished K p2 r tt a
ends_furnished K (Ends.no_bean _ m _ _) r spare a = a
ends_furnished K (Ends.linked_back _ _ _ _ _ _ _ _ _ _ p2) r spare a = ends_furnished K p2 r tt a
ends_furnished K (Ends.bare_back _ _ _ _ m _ _ _) r spare a = a
ends_furnished K (Ends.targeted_back _ _ _ _ _ _ _ _ _ _ _ p3) r spare a = ends_furnished K p3 r tt a
ends_furnished {s} K (Ends.framed_back _ _ _ _ m m₁ m₂ m' p0 p1 p2) r spare a =
    let r₁ : Rises m₁.standing = subst (λ (x : Moment). Rises x.standing) (sym p0) r in
    plain K s _ m₂ m' p2 tt (ends_furnished K p1 r₁ tt (plain K s _ m m₁ p0 tt a))
ends_furnished K (Ends.ended_back _ _ _ _ _ _ m _ _) r spare a = a
ends_furnished K (Ends.stopped_back _ _ _ _ m _ _) r spare a = a
ends_furnished K (Ends.proceeded_twice _ _ _ _ m _) r spare a = a
ends_furnished {s} K (Ends.touched_back seat _ _ n _ act r _ m m₁ m' _ _ _ p3 p4) rises spare a =
    ends_furnished K p4 (touch_along rises-kept n seat.actor act m r m₁ p3 rises) tt (touch-furnished K s n
    seat.actor act m r m₁ p3 a)
ends_furnished {s} K (Ends.proceeded_back _ _ _ _ _ _ _ m m₁ m₂ m₃ m' _ _ _ _ p4 p5 p6 p7) r spare a =
    let r₁ : Rises m₁.standing = subst (λ (x : Moment). Rises x.standing) (sym p4) r in
    let r₃ : Rises m₃.standing = subst (λ (x : Moment). Rises x.standing) (sym p6) (ends-rise p5 r₁) in
    ends_furnished K p7 r₃ tt (plain K s _ m₂ m₃ p6 tt (ends_furnished K p5 r₁ tt (plain K s _ m m₁ p4 tt a)))
