-- Interceptors in the scene: where they stand, what is chosen for their injection points, and their bodies.
use Rattle.cdi_staging.proofs.Common.{at-back, at-joined, at-map, ◌≡◌, ℕ, zero, suc, Bool, true, false, List, [], ◌∷◌, ◌++◌, map, Option}
use Rattle.cdi_staging.proofs.Common.{Some, None, refl, sym, ap, ◌∙◌, arith, slice_get, and_parts, false≢true, AreDistinct, BeanDecl, Decl}
use Rattle.cdi_staging.proofs.Common.{InterceptorDecl, PartDecl, BeanPlace, in_order, in_order-declared, ◌+◌, cond, inl, inr, same_Some}
use Rattle.cdi_staging.proofs.Common.{Promised, beans, managed_form, scene_of, is_some, option_map, slice_get-map, class_bindings}
use Rattle.cdi_staging.proofs.Common.{surrounds, surrounds_one, set_by, sets_of, Around, around_of, chain_at, injections_around}
use Rattle.cdi_staging.proofs.Common.{injections_from, places_from, targets, Injection, option_and_then, bit_and, none-some, Has}
use Rattle.cdi_staging.proofs.Common.{managed_at, home_of, IsAllowedAt, IsNamed, IsOwnPoint, IsSoundAt, Place, Seat, Part, Via, Own, Param}
use Rattle.cdi_staging.proofs.Common.{AreFineAround, IsFinePart, fired_at, site_of, staged_interceptor, staged_part, Target}
use Rattle.cdi_bodies.specs.Flags as flags
use Rattle.cdi_contexts.specs.declared.instance.Actor.TheVariants.{Target as ByTarget, Interceptor as By}
use Rattle.cdi_contexts.specs.declared.instance.Actor.{Actor}
use Rattle.cdi_scene.specs.Scene.{interceptor_at, part_for}
use Rattle.cdi_scene.specs.declared.place.Place.TheVariants as places
use Rattle.cdi_intercept.specs.Chains.{part_for as declared_for}
use Rattle.cdi_staging.proofs.{BesideLemmas.in-append-left, SoundLemmas.none-satisfied, SoundLemmas.part-there, ChosenLemmas.IsUsed}
use Rattle.cdi_staging.proofs.PartLemmas.{NamesVia, part-sound, seen}
use Rattle.cdi_staging.specs.Faultless.{IsFineAround}

-- ---- who stands in a chain

-- what a position in a chain is that of
places-of : {X : Type 0} (test : X → Bool) (n : ℕ) (xs : List X) (k q : ℕ) → slice_get (places_from test n xs) k ≡ Some q
    → (j : ℕ) × (x : X) × (slice_get xs j ≡ Some x) × (test x ≡ true) × (q ≡ n + j)
places-of test n [] k q e = absurd (none-some q e)
places-of {X = X} test n (x ∷ xs) k q e = by (test x) refl (λ i here. places-of test (n + 1) xs i q here) k e
  where
    Found : Type 0
    Found = (j : ℕ) × (y : X) × (slice_get (x ∷ xs) j ≡ Some y) × (test y ≡ true) × (q ≡ n + j)

    later : (j : ℕ) × (y : X) × (slice_get xs j ≡ Some y) × (test y ≡ true) × (q ≡ n + 1 + j) → Found
    later (j, y, at, is, place) = (suc j, y, at, is, omega (arith, place))

    by : (b : Bool) → test x ≡ b
        → ((i : ℕ) → slice_get (places_from test (n + 1) xs) i ≡ Some q
        → (j : ℕ) × (y : X) × (slice_get xs j ≡ Some y) × (test y ≡ true) × (q ≡ n + 1 + j))
        → (i : ℕ) → slice_get (cond b (n ∷ []) [] ++ places_from test (n + 1) xs) i ≡ Some q → Found
    by true is rest zero here =
        let same : n ≡ q = same_Some n q here in
        (zero, x, refl, is, omega (arith, same))
    by true is rest (suc i) here = later (rest i here)
    by false is rest i here = later (rest i here)

-- the interceptor at a position stands around a place of a bean
pub record Link (ds : List Decl) (bean : BeanDecl) (spot : BeanPlace) (q : ℕ) : Type 0 where
  pub decl : InterceptorDecl
  pub at : slice_get (in_order ds) q ≡ Some decl
  pub stands : surrounds ds (set_by ds (class_bindings ds bean) bean spot) spot decl ≡ true

abbrev with_targets : List Decl → InterceptorDecl → Around
with_targets ds i = (i, targets ds i.points)

pub link-of : (ds : List Decl) (bean : BeanDecl) (spot : BeanPlace) (k q : ℕ) → slice_get (chain_at ds bean spot) k ≡ Some q
    → Link ds bean spot q
unfolding around_of
link-of ds bean spot k q e = grind (arith, places-of, at-map)

-- ---- injection points

abbrev pub injected : Actor → ℕ → ℕ → Injection
injected actor point b = record { actor = actor; point = point; bean = b }

pub injection-there : (actor : Actor) (n : ℕ) (ts : List Target) (k : ℕ) (t : Target) → slice_get ts k ≡ Some t
    → slice_get (injections_from actor n ts) k ≡ Some (injected actor (n + k) t.bean)
injection-there actor n [] k t e = absurd (none-some t e)
injection-there actor n (u ∷ ts) zero t e = grind (arith, t.bean)
injection-there actor n (u ∷ ts) (suc k) t e = grind (arith, injection-there actor (n + 1) ts k t e, t.bean)

-- an injection point of one that passes is there
pub around-there : (test : InterceptorDecl → Bool) (n : ℕ) (around : List Around) (j : ℕ) (a : Around) (p : ℕ) (t : Target)
    → slice_get around j ≡ Some a → test a.0 ≡ true → slice_get a.1 p ≡ Some t
    → (i : ℕ) × (slice_get (injections_around test n around) i ≡ Some (injected (By (n + j)) p t.bean))
around-there test n [] j a p t at is point = absurd (none-some a at)
around-there test n (b ∷ around) zero a p t at is point =
    let same : b ≡ a = same_Some b a at in
    let passes : test b.0 ≡ true = ap (λ c. test c.0) same ∙ is in
    let block = injections_from (By n) 0 b.1 in
    let own = injection-there (By n) 0 b.1 p t (ap (λ c. slice_get c.1 p) same ∙ point) in
    let found = in-append-left block (injections_around test (n + 1) around) p (injected (By n) (0 + p) t.bean) own in
    let first : n ≡ n + 0 = omega arith in
    let place : 0 + p ≡ p = omega arith in (
      found.0,
      ap (λ (c : Bool). slice_get (cond c block [] ++ injections_around test (n + 1) around) found.0) passes
          ∙ found.1 ∙ ap (λ m. Some (injected (By m) (0 + p) t.bean)) first ∙ ap (λ m. Some (injected (By (n + 0)) m t.bean)) place,
    )
around-there test n (b ∷ around) (suc j) a p t at is point =
    let rest = around-there test (n + 1) around j a p t at is point in
    let found = at-back (cond (test b.0) (injections_from (By n) 0 b.1) []) (injections_around test (n + 1) around) rest.0
    (injected (By (n + 1 + j)) p t.bean) rest.1 in
    let place : n + 1 + j ≡ n + suc j = omega arith in
    (found.0, found.1 ∙ ap (λ m. Some (injected (By m) p t.bean)) place)

-- whose an injection point is, and what is chosen for it
pub record OfAround (n : ℕ) (around : List Around) (x : Injection) : Type 0 where
  pub place : ℕ
  pub one : Around
  pub there : slice_get around place ≡ Some one
  pub point : ℕ
  pub target : Target
  pub chosen : slice_get one.1 point ≡ Some target
  pub is : x ≡ injected (By (n + place)) point target.bean

pub injection-of : (actor : Actor) (n : ℕ) (ts : List Target) (k : ℕ) (x : Injection) → slice_get (injections_from actor n ts) k ≡ Some x
    → (t : Target) × (slice_get ts k ≡ Some t) × (x ≡ injected actor (n + k) t.bean)
injection-of actor n [] k x e = absurd (none-some x e)
injection-of actor n (t ∷ ts) zero x e =
    let first : n ≡ n + 0 = omega arith in
    (t, refl, sym (same_Some _ x e) ∙ ap (λ p. injected actor p t.bean) first)
injection-of actor n (t ∷ ts) (suc k) x e = grind (arith, injection-of actor (n + 1) ts k x e)

from-block : (n : ℕ) (b : Around) (around : List Around) (c : Bool) (k : ℕ) (x : Injection)
    → slice_get (cond c (injections_from (By n) 0 b.1) []) k ≡ Some x → OfAround n (b ∷ around) x
from-block n b around c k x e = grind (arith, b.1, injection-of, none-some)

pub from-around : (test : InterceptorDecl → Bool) (n : ℕ) (around : List Around) (k : ℕ) (x : Injection)
    → slice_get (injections_around test n around) k ≡ Some x → OfAround n around x
from-around test n [] k x e = absurd (none-some x e)
from-around test n (b ∷ around) k x e =
    elim (at-joined (cond (test b.0) (injections_from (By n) 0 b.1) []) (injections_around test (n + 1) around) k x e) [
      | inl here ↦ from-block n b around (test b.0) k x here
      | inr later ↦
          let rest = from-around test (n + 1) around later.0 x later.2 in
          let place : n + 1 + rest.place ≡ n + suc rest.place = omega arith in
          record {
            place = suc rest.place;
            one = rest.one;
            there = rest.there;
            point = rest.point;
            target = rest.target;
            chosen = rest.chosen;
            is = rest.is ∙ ap (λ m. injected (By m) rest.point rest.target.bean) place;
          }
    ]

-- ---- no two of one actor and point

abbrev pub AreApart : List Injection → Type 0
AreApart xs = (j k : ℕ) (x y : Injection) → slice_get xs j ≡ Some x → slice_get xs k ≡ Some y → x.actor ≡ y.actor → x.point ≡ y.point
    → j ≡ k

pub apart-append : (xs ys : List Injection) → AreApart xs → AreApart ys
    → ((j k : ℕ) (x y : Injection) → slice_get xs j ≡ Some x → slice_get ys k ≡ Some y → x.actor ≡ y.actor → ⊥)
    → AreApart (xs ++ ys)
apart-append xs ys front behind other j k x y e f actor point = grind (arith, at-joined)

pub apart-from : (actor : Actor) (n : ℕ) (ts : List Target) → AreApart (injections_from actor n ts)
apart-from actor n ts j k x y e f same point = grind (arith, injection-of)

apart-block : (n : ℕ) (ts : List Target) (c : Bool) → AreApart (cond c (injections_from (By n) 0 ts) [])
apart-block n ts c = grind (arith, apart-from, none-some)

number_of : Actor → ℕ
number_of (By q) = q
number_of ByTarget = 0

block-actor : (n : ℕ) (ts : List Target) (c : Bool) (k : ℕ) (x : Injection) → slice_get (cond c (injections_from (By n) 0 ts) []) k ≡ Some x
    → x.actor ≡ By n
block-actor n ts c k x e = grind (arith, injection-of, none-some)

pub apart-around : (test : InterceptorDecl → Bool) (n : ℕ) (around : List Around) → AreApart (injections_around test n around)
unfolding number_of
apart-around test n [] = λ j k x y e f same point. absurd (none-some x e)
apart-around test n (b ∷ around) =
    apart-append (cond (test b.0) (injections_from (By n) 0 b.1) []) (injections_around test (n + 1) around)
    (apart-block n b.1 (test b.0)) (apart-around test (n + 1) around)
    (λ j k x y e f same.
    let later = from-around test (n + 1) around k y f in
    let actors : By n ≡ By (n + 1 + later.place) = sym (block-actor n b.1 (test b.0) j x e) ∙ same ∙ ap (λ i. i.actor) later.is in
    let numbers : n ≡ n + 1 + later.place = ap number_of actors in
    absurd (omega (arith, numbers)))

is_target : Actor → Bool
is_target (By q) = false
is_target ByTarget = true

-- those of interceptors are none of the bean's own
pub apart-own : (test : InterceptorDecl → Bool) (around : List Around) (own : List Target)
    → AreApart (injections_around test 0 around ++ injections_from ByTarget 0 own)
unfolding is_target
apart-own test around own =
    apart-append (injections_around test 0 around) (injections_from ByTarget 0 own) (apart-around test 0 around) (apart-from ByTarget 0 own)
    (λ j k x y e f same.
    let first = from-around test 0 around j x e in
    let second = injection-of ByTarget 0 own k y f in
    let actors : By (0 + first.place) ≡ ByTarget = sym (ap (λ i. i.actor) first.is) ∙ same ∙ ap (λ i. i.actor) second.2 in
    absurd (false≢true (ap is_target actors)))

-- ---- bodies

-- what an interceptor declares for a place of an instance
abbrev pub body_of : Place → InterceptorDecl → Option PartDecl
body_of places.Construct i = i.around_construct
body_of places.Post i = i.post
body_of places.Pre i = i.pre
body_of other i = i.around_invoke

-- what it may do there
abbrev pub around_at : Place → ℕ
around_at places.Pre = flags.around_destruction
around_at place = flags.around

-- interceptors stand around no disposer method
abbrev pub IsIntercepted : Place → Type 0
IsIntercepted (places.Disposer b) = ⊥
IsIntercepted place = Unit {0}

fine-body : (ds : List Decl) (book : List Promised) (i : InterceptorDecl) (place : Place) (part : PartDecl) → IsFineAround ds book i
    → body_of place i ≡ Some part → IsFinePart ds book (around_at place) i.points part
fine-body ds book i places.Construct part fine e = fine.around_construct part e
fine-body ds book i places.Post part fine e = fine.post part e
fine-body ds book i places.Pre part fine e = fine.pre part e
fine-body ds book i other part fine e = fine.around_invoke part e

no-call-around : bit_and flags.around_destruction flags.call ≡ flags.call → ⊥
no-call-around e = absurd (omega (arith, e))

no-fire-around : bit_and flags.around_destruction flags.fire ≡ flags.fire → ⊥
no-fire-around e = absurd (omega (arith, e))

allowed-around : (place : Place) (part : Part) → IsIntercepted place
    → ((flag : ℕ) → Has part.promise flag → bit_and (around_at place) flag ≡ flag) → IsAllowedAt place part
allowed-around places.Pre part is kept = grind (arith, no-call-around, no-fire-around)
allowed-around (places.Disposer b) part is kept = absurd is
allowed-around (places.Observer o) part is kept = tt
allowed-around other part is kept = tt

staged-body : (ds : List Decl) (book : List Promised) (i : InterceptorDecl) (place : Place)
    → part_for place (staged_interceptor ds book (i, targets ds i.points))
    ≡ option_and_then (staged_part ds book (seen ds i.points [])) (body_of place i)
unfolding staged_interceptor
staged-body ds book i places.Construct = refl
staged-body ds book i other = refl

interceptor-there : (ds : List Decl) (book : List Promised) (q : ℕ) (i : InterceptorDecl) → slice_get (in_order ds) q ≡ Some i
    → interceptor_at (scene_of ds book) q ≡ Some (staged_interceptor ds book (i, targets ds i.points))
unfolding scene_of around_of
interceptor-there ds book q i at = grind (arith, slice_get-map)

some-part : (o : Option PartDecl) → is_some o ≡ true → (part : PartDecl) × (o ≡ Some part)
some-part None e = absurd (false≢true e)
some-part (Some part) e = (part, refl)

-- ---- an interceptor of a chain runs soundly on each instance of a bean that is at home there

-- it stands around some place of the bean at home
pub record AtHome (ds : List Decl) (book : List Promised) (b : ℕ) (place : Place) (i : InterceptorDecl) : Type 0 where
  pub home : ℕ
  pub is : home_of (scene_of ds book) b place ≡ home
  pub bean : BeanDecl
  pub used : IsUsed ds book home bean
  pub stands : surrounds_one ds (sets_of ds (class_bindings ds bean) bean) i ≡ true

abbrev pub link_seat : ℕ → ℕ → Place → ℕ → Seat
link_seat b q place n = record { bean = b; number = Some n; actor = By q; place = place }

link-point : (ds : List Decl) (book : List Promised) (b : ℕ) (place : Place) (q n p c : ℕ) (i : InterceptorDecl) (t : Target)
    → slice_get (in_order ds) q ≡ Some i → AtHome ds book b place i → slice_get (targets ds i.points) p ≡ Some t → t.bean ≡ c
    → IsOwnPoint (scene_of ds book) (link_seat b q place n) p c
unfolding managed_form around_of
link-point ds book b place q n p c i t at host point same =
    let d = host.bean in
    let test = surrounds_one ds (sets_of ds (class_bindings ds d) d) in
    let among = slice_get-map (with_targets ds) (in_order ds) q ∙ ap (option_map (with_targets ds)) at in
    let found = around-there test 0 (map (with_targets ds) (in_order ds)) q (with_targets ds i) p t among host.stands point in
    let all = in-append-left (injections_around test 0 (map (with_targets ds) (in_order ds)))
    (injections_from ByTarget 0 (targets ds d.points)) found.0 (injected (By (0 + q)) p t.bean) found.1 in
    let place_is : 0 + q ≡ q = omega arith in
    record {
      managed = managed_form ds book d;
      there = ap (managed_at (scene_of ds book)) host.is ∙ host.used;
      number = n;
      seated = refl;
      place = all.0;
      injected = all.1 ∙ ap (λ m. Some (injected (By m) p t.bean)) place_is ∙ ap (λ m. Some (injected (By q) p m)) same;
    }

link-leads : (ds : List Decl) (book : List Promised) (b : ℕ) (place : Place) (q n c : ℕ) (i : InterceptorDecl) (via : Via)
    → slice_get (in_order ds) q ≡ Some i → AtHome ds book b place i → NamesVia (targets ds i.points) (targets ds []) via c
    → IsNamed (scene_of ds book) (link_seat b q place n) via c
link-leads ds book b place q n c i (Own p) at host t = link-point ds book b place q n p c i t.0 at host t.1 t.2
link-leads ds book b place q n c i (Param p) at host t = absurd (none-some t.0 t.1)

pub link-sound : (ds : List Decl) (book : List Promised) (b : ℕ) (place : Place) (spot : BeanPlace) (d : BeanDecl) (q n : ℕ)
    → AreDistinct ds → AreFineAround ds book → (link : Link ds d spot q) → declared_for spot link.decl ≡ body_of place link.decl
    → IsIntercepted place → AtHome ds book b place link.decl
    → IsSoundAt book (scene_of ds book) (link_seat b q place n)
unfolding staged_part
link-sound ds book b place spot d q n distinct fine link same intercepted host =
    let i = link.decl in
    let declared = in_order-declared ds q i link.at in
    let own = fine declared.0.0 i declared.0.1 declared.1 in
    let stands = (and_parts (is_some (declared_for spot i)) _ link.stands).0 in
    let part = some-part (declared_for spot i) stands in
    let body : body_of place i ≡ Some part.0 = sym same ∙ part.1 in
    let fine_part = fine-body ds book i place part.0 own body in
    let lead = site_of ds (beans ds) (seen ds i.points []) in
    let made = part-there book (map lead part.0.calls) (map (fired_at ds (beans ds)) part.0.fires) (around_at place) part.0.body
    fine_part.body in
    let sound = part-sound ds book (around_at place) i.points [] part.0 made.0 distinct own.points (none-satisfied ds) fine_part made.1 in
    record {
      body = made.0;
      runs = ap (λ o. elim o [ Some interceptor ↦ part_for place interceptor | None ↦ None ]) (interceptor-there ds book q i link.at)
          ∙ staged-body ds book i place
          ∙ ap (option_and_then (staged_part ds book (seen ds i.points []))) body ∙ made.1;
      sound = sound.sound;
      allowed = allowed-around place made.0 intercepted sound.kept;
      own = tt;
      seated = tt;
      leads = λ k site at. link-leads ds book b place q n site.bean i site.via link.at host (sound.names k site at);
    }
