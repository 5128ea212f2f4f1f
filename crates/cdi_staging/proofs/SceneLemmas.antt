-- Where each declaration is fine, the scene is sound.
use Rattle.cdi_staging.proofs.Common.{◌≡◌, ℕ, Bool, true, false, List, [], map, Option, Some, None, refl, sym, ap, subst, ◌∙◌, arith}
use Rattle.cdi_staging.proofs.Common.{slice_get, false≢true, AreDistinct, BeanDecl, Decl, InterceptorDecl, ObserverDecl, PointDecl}
use Rattle.cdi_staging.proofs.Common.{ProducerDecl, BeanPlace, in_order, in_order-declared, ◌+◌, cond, length, inl, inr, same_Some}
use Rattle.cdi_staging.proofs.Common.{unwrap_or, bytes_eq, Promised, Bean, Managed, as_managed, bean_at, beans, entries, managed, product}
use Rattle.cdi_staging.proofs.Common.{effective, BeanId, is_told_by, position_of_bean, position_of_class, managed_form, scene_of}
use Rattle.cdi_staging.proofs.Common.{unused_managed, option_map, slice_get-map, class_bindings, surrounds_one, sets_of, Around, around_of}
use Rattle.cdi_staging.proofs.Common.{chain_at, injections_around, injections_from, targets, Injection, option_and_then, none-some}
use Rattle.cdi_staging.proofs.Common.{managed_at, home_of, IsNamed, IsOwnPoint, IsSoundAt, Place, Seat, Part, Via, Own, Param}
use Rattle.cdi_staging.proofs.Common.{AreFineAround, Target, as_product, CallSite, Scene, Observer, staged_observer, ◌≤◌, length-map}
use Rattle.cdi_staging.proofs.Common.{list_limit, answer_to, IsFit, AreSatisfied, target_of, Invocable, AreFine, IsFineManaged}
use Rattle.cdi_staging.proofs.Common.{IsFineProducer, disposer_named, product_form, unused_product, at-back, at-joined, at-map}
use Rattle.std.proofs.lemmas.Option.{option_and_then_some}
use Rattle.cdi_model.specs.declared.decl.Decl.TheVariants as decls
use Rattle.cdi_model.specs.declared.place.BeanPlace.TheVariants as spots
use Rattle.cdi_bodies.specs.Flags as flags
use Rattle.cdi_contexts.specs.declared.instance.Actor.TheVariants.{Target as ByTarget}
use Rattle.cdi_scene.specs.Sound.{params_at, AreBeans, IsSound, IsSoundForm, IsSoundInvocable, IsSoundManaged, IsSoundProduct, IsStatic}
use Rattle.cdi_scene.specs.Scene.{product_at, invocable_at, target_part}
use Rattle.cdi_scene.specs.declared.place.Place.TheVariants as places
use Rattle.cdi_effective.specs.Disposers.{disposer_of}
use Rattle.cdi_intercept.proofs.ChainLemmas.{IsPlace, construct_place, method_place, post_place, pre_place, observer_place, producer_place}
use Rattle.cdi_intercept.proofs.ChainLemmas.{surrounds_some}
use Rattle.cdi_intercept.specs.Chains.{part_for}
use Rattle.cdi_staging.proofs.BesideLemmas.{second-at, found, of-find, in-flat}
use Rattle.cdi_staging.proofs.ChosenLemmas.{IsUsed, Stands, all-stand, host-used, managed_in, of-none, told-self, told-is}
use Rattle.cdi_staging.proofs.PartLemmas.{IsSoundFor, NamesVia, disposer-sound, point-reached}
use Rattle.cdi_staging.proofs.LinkLemmas.{IsIntercepted, OfAround, apart-own, body_of, from-around, injected, injection-of, injection-there}
use Rattle.cdi_staging.proofs.LinkLemmas.{link-of, link-sound, link_seat}
use Rattle.cdi_staging.proofs.SoundLemmas.{AreLinks, IsGood, IsProduced, IsSpot, LeadsBy, LeadsObserver, LinksAt, LinksOf, disposer_in}
use Rattle.cdi_staging.proofs.SoundLemmas.{fine-product, no-call-disposal, observer-good, points_seen, no-fire-disposal, no-load-disposal}
use Rattle.cdi_staging.proofs.SoundLemmas.{no-proceed-disposal, no-store-disposal, no-load-class, no-proceed-class, no-store-class}
use Rattle.cdi_staging.proofs.SoundLemmas.{own-good, part_in, producer-good, producer_in, product_in, stands-at, static-part}
use Rattle.cdi_staging.specs.Staged.{disposer_for, disposer_part}

-- ---- what is invoked at a place

-- the bean's own body runs there
runs-own : (ds : List Decl) (book : List Promised) (b : ℕ) (place : Place) (x : Invocable) (part : Part)
    → invocable_at (scene_of ds book) b place ≡ Some x → x.part ≡ Some part → target_part (scene_of ds book) b place ≡ Some part
runs-own ds book b (places.Disposer q) x part at is = absurd (none-some x at)
runs-own ds book b (places.Observer o) x part at is = ap part_in at ∙ is
runs-own ds book b other x part at is = ap part_in at ∙ is

-- the seat of the bean's own body on an instance
abbrev own_seat : ℕ → Place → ℕ → Seat
own_seat b place n = record { bean = b; number = Some n; actor = ByTarget; place = place }

-- the call site leads there on any instance
abbrev LeadsAt : Scene → ℕ → Place → CallSite → Type 0
LeadsAt s b place site = (n : ℕ) → IsNamed s (own_seat b place n) site.via site.bean

-- the interceptor at a position runs soundly there on any instance
abbrev LinkAt : List Decl → List Promised → ℕ → Place → ℕ → Type 0
LinkAt ds book b place q = (n : ℕ) → IsSoundAt book (scene_of ds book) (link_seat b q place n)

-- what is invoked there is good
abbrev GoodAt : List Decl → List Promised → ℕ → Place → Invocable → Type 0
GoodAt ds book b place x = IsGood ds book place (LeadsAt (scene_of ds book) b place) (LinkAt ds book b place) x

invocable-sound : (ds : List Decl) (book : List Promised) (b : ℕ) (place : Place) (x : Invocable)
    → invocable_at (scene_of ds book) b place ≡ Some x → GoodAt ds book b place x
    → IsSoundInvocable book (scene_of ds book) b place x
invocable-sound ds book b place x at good = record {
  links = λ k q n e. good.links k q e n;
  target = λ part n e.
      let g = good.part part e in
      record {
        body = part;
        runs = runs-own ds book b place x part at e;
        sound = g.sound;
        allowed = g.allowed;
        own = g.own;
        seated = tt;
        leads = λ k site at. g.leads k site at n;
      };
}

-- ---- where call sites lead

-- an injection point of the bean at home
own-point : (ds : List Decl) (book : List Promised) (home : ℕ) (d : BeanDecl) (seat : Seat) (n p b : ℕ) (t : Target)
    → IsUsed ds book home d → home_of (scene_of ds book) seat.bean seat.place ≡ home → seat.number ≡ Some n
    → seat.actor ≡ ByTarget → slice_get (targets ds d.points) p ≡ Some t → t.bean ≡ b → IsOwnPoint (scene_of ds book) seat p b
unfolding managed_form
own-point ds book home d seat n p b t used is seated own at same =
    let first : 0 + p ≡ p = omega arith in
    let around = injections_around (surrounds_one ds (sets_of ds (class_bindings ds d) d)) 0 (around_of ds) in
    let found = at-back around (injections_from ByTarget 0 (targets ds d.points)) p (injected ByTarget (0 + p) t.bean)
    (injection-there ByTarget 0 (targets ds d.points) p t at) in
    record {
      managed = managed_form ds book d;
      there = ap (managed_at (scene_of ds book)) is ∙ used;
      number = n;
      seated = seated;
      place = found.0;
      injected = found.1
          ∙ ap (λ q. Some (record { actor = ByTarget; point = q; bean = t.bean })) first
          ∙ ap (λ c. Some (record { actor = ByTarget; point = p; bean = c })) same
          ∙ ap (λ a. Some (record { actor = a; point = p; bean = b })) (sym own);
    }

own-leads : (ds : List Decl) (book : List Promised) (b : ℕ) (place : Place) (d : BeanDecl)
    → home_of (scene_of ds book) b place ≡ b → IsUsed ds book b d → LeadsBy ds d.points [] (LeadsAt (scene_of ds book) b place)
own-leads ds book b place d home used site names n = grind (arith, site.via, d.points, site.bean, own-point, none-some)

-- what is chosen for a parameter
param-named : (ds : List Decl) (params : List PointDecl) (p b : ℕ) (t : Target) → slice_get (targets ds params) p ≡ Some t
    → t.bean ≡ b → slice_get (map (λ target. target.bean) (targets ds params)) p ≡ Some b
param-named ds params p b t at same =
    slice_get-map (λ target. target.bean) (targets ds params) p ∙ ap (option_map (λ target. target.bean)) at ∙ ap Some same

abbrev params_in : Option Observer → List ℕ
params_in (Some observer) = observer.params
params_in None = []

-- what is chosen for an observer method of a bean that is enabled
observer-leads : (ds : List Decl) (book : List Promised) (b o : ℕ) (d : BeanDecl) → IsUsed ds book b d
    → LeadsObserver ds d o (LeadsAt (scene_of ds book) b (places.Observer o))
unfolding managed_form staged_observer
observer-leads ds book b o d used observer at site names n =
    grind (arith, site.via, observer.params, d.observers, d.points, site.bean, slice_get-map, own-point, param-named)

product-leads : (ds : List Decl) (book : List Promised) (b q : ℕ) (d : BeanDecl) (p : ProducerDecl) → AreDistinct ds
    → IsProduced ds book q d p
    → LeadsBy ds (points_seen p.is_static d) p.params (LeadsAt (scene_of ds book) b (places.Producer q))
unfolding product_form
product-leads ds book b q d p distinct made site names n = by p.is_static site.via names
  where
    seat : Seat
    seat = own_seat b (places.Producer q) n

    by : (s : Bool) (via : Via) → NamesVia (targets ds (points_seen s d)) (targets ds p.params) via site.bean
        → IsNamed (scene_of ds book) seat via site.bean
    by true (Own k) t = absurd (none-some t.0 t.1)
    by false (Own k) t =
        own-point ds book (position_of_class (beans ds) d.name) d seat n k site.bean t.0
        (host-used ds book made.place d distinct made.there made.enabled)
        (ap (λ o. elim o [ Some x ↦ x.declaring | None ↦ b ]) made.product_is) refl refl t.1 t.2
    by s (Param k) t =
        ap (λ o. slice_get (elim o [ Some x ↦ x.params | None ↦ [] ]) k) made.product_is
        ∙ param-named ds p.params k site.bean t.0 t.1 t.2

-- ---- the interceptors of chains

spot-place : (d : BeanDecl) (place : Place) (spot : BeanPlace) → IsSpot d place spot → IsPlace d spot
spot-place d places.Construct spot e = subst (IsPlace d) (sym e) (construct_place d)
spot-place d places.Post spot e = subst (IsPlace d) (sym e) (post_place d)
spot-place d places.Pre spot e = subst (IsPlace d) (sym e) (pre_place d)
spot-place d (places.Method m) spot e = subst (IsPlace d) (sym e.2) (method_place d m e.0 e.1)
spot-place d (places.Observer o) spot e = subst (IsPlace d) (sym e.2) (observer_place d o e.0 e.1)
spot-place d other spot e = absurd e

spot-body : (d : BeanDecl) (place : Place) (spot : BeanPlace) (i : InterceptorDecl) → IsSpot d place spot
    → part_for spot i ≡ body_of place i
spot-body d (places.Method m) spot i e = ap (λ s. part_for s i) e.2
spot-body d (places.Observer o) spot i e = ap (λ s. part_for s i) e.2
spot-body d (places.Producer b) spot i e = absurd e
spot-body d (places.Disposer b) spot i e = absurd e
spot-body d other spot i e = ap (λ s. part_for s i) e

own-links : (ds : List Decl) (book : List Promised) (b : ℕ) (place : Place) (d : BeanDecl) → AreDistinct ds → AreFineAround ds book
    → home_of (scene_of ds book) b place ≡ b → IsIntercepted place → IsUsed ds book b d → LinksAt ds d place (LinkAt ds book b place)
own-links ds book b place d distinct fine home intercepted used spot is k q e n =
    let link = link-of ds d spot k q e in
    link-sound ds book b place spot d q n distinct fine link (spot-body d place spot link.decl is) intercepted
    (record {
      home = b;
      is = home;
      bean = d;
      used = used;
      stands = surrounds_some ds (class_bindings ds d) d spot link.decl (spot-place d place spot is) link.stands;
    })

product-links : (ds : List Decl) (book : List Promised) (b q : ℕ) (d : BeanDecl) (p : ProducerDecl) → AreDistinct ds
    → AreFineAround ds book → IsProduced ds book q d p → LinksOf ds d p (LinkAt ds book b (places.Producer q))
unfolding product_form
product-links ds book b q d p distinct fine made = by p.is_static refl
  where
    spot : BeanPlace
    spot = spots.Producer p.name

    by : (s : Bool) → p.is_static ≡ s
        → AreLinks (LinkAt ds book b (places.Producer q)) (cond s [] (chain_at ds d spot))
    by true is k r e n = absurd (none-some r e)
    by false is k r e n =
        let link = link-of ds d spot k r e in
        link-sound ds book b (places.Producer q) spot d r n distinct fine link refl tt
        (record {
          home = position_of_class (beans ds) d.name;
          is = ap (λ o. elim o [ Some x ↦ x.declaring | None ↦ b ]) made.product_is;
          bean = d;
          used = host-used ds book made.place d distinct made.there made.enabled;
          stands = surrounds_some ds (class_bindings ds d) d spot link.decl (producer_place d made.at p made.declared is) link.stands;
        })

all-invocables : (ds : List Decl) (book : List Promised) (b : ℕ) (place : Place) (x : Invocable) → AreDistinct ds → AreFine ds book
    → AreFineAround ds book → invocable_at (scene_of ds book) b place ≡ Some x → GoodAt ds book b place x
all-invocables ds book b places.Construct x distinct fine around at =
    own-good ds book b places.Construct _ (LinkAt ds book b places.Construct) x (bean_at (scene_of ds book) b) distinct fine
    (λ d used. own-leads ds book b places.Construct d refl used)
    (λ d used. own-links ds book b places.Construct d distinct around refl tt used) refl at
all-invocables ds book b places.Post x distinct fine around at =
    own-good ds book b places.Post _ (LinkAt ds book b places.Post) x (bean_at (scene_of ds book) b) distinct fine
    (λ d used. own-leads ds book b places.Post d refl used)
    (λ d used. own-links ds book b places.Post d distinct around refl tt used) refl at
all-invocables ds book b places.Pre x distinct fine around at =
    own-good ds book b places.Pre _ (LinkAt ds book b places.Pre) x (bean_at (scene_of ds book) b) distinct fine
    (λ d used. own-leads ds book b places.Pre d refl used)
    (λ d used. own-links ds book b places.Pre d distinct around refl tt used) refl at
all-invocables ds book b (places.Method m) x distinct fine around at =
    own-good ds book b (places.Method m) _ (LinkAt ds book b (places.Method m)) x (bean_at (scene_of ds book) b) distinct fine
    (λ d used. own-leads ds book b (places.Method m) d refl used)
    (λ d used. own-links ds book b (places.Method m) d distinct around refl tt used) refl at
all-invocables ds book b (places.Producer q) x distinct fine around at =
    producer-good ds book q _ (LinkAt ds book b (places.Producer q)) x (bean_at (scene_of ds book) q) distinct fine
    (λ d p made. product-leads ds book b q d p distinct made)
    (λ d p made. product-links ds book b q d p distinct around made) refl at
all-invocables ds book b (places.Disposer q) x distinct fine around at = absurd (none-some x at)
all-invocables ds book b (places.Observer o) x distinct fine around at =
    observer-good ds book b o _ (LinkAt ds book b (places.Observer o)) x (bean_at (scene_of ds book) b) distinct fine
    (λ d used. observer-leads ds book b o d used)
    (λ d used. own-links ds book b (places.Observer o) d distinct around refl tt used) refl at

-- ---- beans

-- where one bean is chosen for each of some points, each position stands in the scene
target-stands : (ds : List Decl) (book : List Promised) (points : List PointDecl) (k : ℕ) (t : Target) → AreDistinct ds
    → AreSatisfied ds points → slice_get (targets ds points) k ≡ Some t → (bean : Bean) × (bean_at (scene_of ds book) t.bean ≡ Some bean)
unfolding target_of
target-stands ds book points k t distinct satisfied at =
    let choice = at-map (target_of (beans ds)) (map (answer_to ds) points) k t at in
    let point = at-map (answer_to ds) points k choice.0 choice.1 in
    let sat = satisfied k point.0 point.1 in
    let r = point-reached ds book point.0 distinct sat in
    let place : position_of_bean (beans ds) sat.id ≡ t.bean =
    sym (ap (λ ch. (target_of (beans ds) ch).bean) (sym point.2 ∙ sat.chosen)) ∙ ap (λ u. u.bean) choice.2 in
    (r.bean, ap (bean_at (scene_of ds book)) (sym place) ∙ r.there)

-- what is chosen for an injection point of an interceptor stands in the scene
around-stands : (ds : List Decl) (book : List Promised) (x : Injection) → AreDistinct ds → AreFineAround ds book
    → OfAround 0 (around_of ds) x → (bean : Bean) × (bean_at (scene_of ds book) x.bean ≡ Some bean)
unfolding around_of
around-stands ds book x distinct fine of =
    let with_targets : InterceptorDecl → Around = λ i. (i, targets ds i.points) in
    let i = at-map with_targets (in_order ds) of.place of.one of.there in
    let declared = in_order-declared ds of.place i.0 i.1 in
    let own = fine declared.0.0 i.0 declared.0.1 declared.1 in
    let chosen = ap (λ a. slice_get a.1 of.point) i.2 ∙ of.chosen in
    let bean = target-stands ds book i.0.points of.point of.target distinct own.points chosen in
    (bean.0, ap (λ j. bean_at (scene_of ds book) j.bean) of.is ∙ bean.1)

length-targets : (ds : List Decl) (ps : List PointDecl) → length (targets ds ps) ≡ length ps
length-targets ds ps = length-map (map (answer_to ds) ps) (target_of (beans ds)) ∙ length-map ps (answer_to ds)

-- what is chosen for some parameters, of which there are few
params-sound : (ds : List Decl) (book : List Promised) (params : List PointDecl) → AreDistinct ds → AreSatisfied ds params
    → length params ≤ list_limit
    → AreBeans (scene_of ds book) (map (λ target. target.bean) (targets ds params))
    × (length (map (λ target. target.bean) (targets ds params)) ≤ list_limit)
params-sound ds book params distinct satisfied few = (
  λ j c e.
      let t = at-map (λ target. target.bean) (targets ds params) j c e in
      let bean = target-stands ds book params j t.0 distinct satisfied t.1 in
      (bean.0, ap (bean_at (scene_of ds book)) (sym t.2) ∙ bean.1),
  subst (λ n. n ≤ list_limit) (sym (length-map (targets ds params) (λ target. target.bean) ∙ length-targets ds params)) few,
)

observer-sound : (ds : List Decl) (book : List Promised) (d : BeanDecl) (k : ℕ) (observer : ObserverDecl) → AreDistinct ds
    → IsFineManaged ds book d → slice_get d.observers k ≡ Some observer
    → AreBeans (scene_of ds book) (staged_observer ds book d observer).params
    × (length (staged_observer ds book d observer).params ≤ list_limit)
unfolding staged_observer
observer-sound ds book d k observer distinct fine at =
    let own = fine.observers k observer at in
    params-sound ds book observer.params distinct own.params own.few

managed-sound : (ds : List Decl) (book : List Promised) (d : BeanDecl) (e : Bool) → AreDistinct ds → AreFineAround ds book
    → (e ≡ true → IsFineManaged ds book d)
    → IsSoundManaged (scene_of ds book) (cond e (managed_form ds book d) unused_managed)
unfolding managed_form
managed-sound ds book d true distinct around fine =
    let test = surrounds_one ds (sets_of ds (class_bindings ds d) d) in
    record {
      injections = λ k i at. elim (at-joined (injections_around test 0 (around_of ds))
          (injections_from ByTarget 0 (targets ds d.points)) k i at) [
            | inl first ↦ around-stands ds book i distinct around (from-around test 0 (around_of ds) k i first)
            | inr second ↦
                let t = injection-of ByTarget 0 (targets ds d.points) second.0 i second.2 in
                let bean = target-stands ds book d.points second.0 t.0 distinct (fine refl).points t.1 in
                (bean.0, ap (λ j. bean_at (scene_of ds book) j.bean) t.2 ∙ bean.1)
          ];
      apart = apart-own test (around_of ds) (targets ds d.points);
      observers = λ k o at.
          let made = at-map (staged_observer ds book d) d.observers k o at in
          subst (λ x. AreBeans (scene_of ds book) x.params × (length x.params ≤ list_limit)) made.2
          (observer-sound ds book d k made.0 distinct (fine refl) made.1);
    }
managed-sound ds book d false distinct around fine = record {
  injections = λ k i at. absurd (none-some i at);
  apart = λ j k x y e f actor point. absurd (none-some x e);
  observers = λ k o at. absurd (none-some o at);
}

-- the bean that declares a product is a managed one
class-told : (ds : List Decl) (d : BeanDecl) → is_told_by (record { class = d.name; producer = None }) (managed ds d) ≡ true
unfolding effective
class-told ds d = told-self (managed ds d)

declaring-there : (ds : List Decl) (book : List Promised) (k : ℕ) (d : BeanDecl) → slice_get ds k ≡ Some (decls.Bean d)
    → (host : Managed) × (managed_at (scene_of ds book) (position_of_class (beans ds) d.name) ≡ Some host)
unfolding beans
declaring-there ds book k d at =
    let id : BeanId = record { class = d.name; producer = None } in
    let among = in-flat (entries ds) ds k (decls.Bean d) 0 (managed ds d) at refl in
    let first = found (is_told_by id) (beans ds) among.0 (managed ds d) among.1 (class-told ds d) in
    let staged = second-at (Stands ds book) (beans ds) (scene_of ds book).beans first.place first.value (all-stand ds book) first.there in
    let m = of-none ds book first.value staged.value staged.fits (told-is id first.value first.passes).1 in
    let place : position_of_class (beans ds) d.name ≡ first.place = ap (λ o. unwrap_or o (length (beans ds))) first.position_is in
    (_, ap (λ p. managed_in (bean_at (scene_of ds book) p)) place ∙ ap managed_in staged.there ∙ ap (λ bn. as_managed bn.form) m.made)

names-none : (via : Via) (b : ℕ) → NamesVia [] [] via b → ⊥
names-none (Own p) b t = none-some t.0 t.1
names-none (Param p) b t = none-some t.0 t.1

-- what a static producer method names is a parameter
static-leads : (ds : List Decl) (book : List Promised) (d : BeanDecl) (p : ProducerDecl) (seat : Seat) (b : ℕ) (via : Via) (c : ℕ)
    → seat.place ≡ places.Producer b
    → product_at (scene_of ds book) b
    ≡ Some (product_form ds book d p)
    → NamesVia [] (targets ds p.params) via c → IsNamed (scene_of ds book) seat via c
unfolding product_form
static-leads ds book d p seat b (Own k) c is there t = absurd (none-some t.0 t.1)
static-leads ds book d p seat b (Param k) c is there t =
    ap (λ place. slice_get (params_at (scene_of ds book) seat.bean place) k) is
    ∙ ap (λ o. slice_get (elim o [ Some x ↦ x.params | None ↦ [] ]) k) there
    ∙ param-named ds p.params k c t.0 t.1 t.2

disposer-at : (ds : List Decl) (book : List Promised) (declaring b : ℕ) (part : Part)
    → target_part (scene_of ds book) declaring (places.Disposer b) ≡ Some part → IsSoundFor ds book flags.at_disposal [] [] part
    → IsSoundAt book (scene_of ds book) (record { bean = declaring; number = None; actor = ByTarget; place = places.Disposer b })
disposer-at ds book declaring b part runs s =
    let static : IsStatic part = record {
      loads_nothing = λ has. no-load-disposal (s.kept flags.load has);
      stores_nothing = λ has. no-store-disposal (s.kept flags.store has);
    } in
    record {
      body = part;
      runs = runs;
      sound = s.sound;
      allowed = (
        record {
          calls_nothing = λ has. no-call-disposal (s.kept flags.call has);
          fires_nothing = λ has. no-fire-disposal (s.kept flags.fire has);
        },
        static,
      );
      own = λ has. no-proceed-disposal (s.kept flags.proceed has);
      seated = (static, λ has. no-proceed-disposal (s.kept flags.proceed has));
      leads = λ k site at. absurd (names-none site.via site.bean (s.names k site at));
    }

product-sound : (ds : List Decl) (book : List Promised) (k : ℕ) (d : BeanDecl) (p : ProducerDecl) (b : ℕ) (e : Bool) → AreDistinct ds
    → slice_get ds k ≡ Some (decls.Bean d)
    → (e ≡ true → AreSatisfied ds d.points × IsFineProducer ds book d p)
    → product_at (scene_of ds book) b
    ≡ Some (cond e (product_form ds book d p)
    (unused_product ds d))
    → IsSoundProduct book (scene_of ds book) b
    (cond e (product_form ds book d p)
    (unused_product ds d))
unfolding product_form disposer_for
product-sound ds book k d p b false distinct at fine there =
    let host = declaring-there ds book k d at in
    record {
      host = host.0;
      declared = host.1;
      params = λ j c e. absurd (none-some c e);
      few = omega arith;
      producer = λ e. absurd (false≢true e);
      disposer = λ part e. absurd (none-some part e);
    }
product-sound ds book k d p b true distinct at fine there =
    let host = declaring-there ds book k d at in
    let f = (fine refl).1 in
    let params = params-sound ds book p.params distinct f.params f.few in
    record {
      host = host.0;
      declared = host.1;
      params = params.0;
      few = params.1;
      producer = λ is_static.
          let made = static-part ds book d p distinct f is_static in
          record {
            body = made.0;
            runs = ap (λ o. part_in (producer_in o)) there ∙ made.1;
            sound = made.2.sound;
            allowed = tt;
            own = λ has. no-proceed-class (made.2.kept flags.proceed has);
            seated = (
              record {
                loads_nothing = λ has. no-load-class (made.2.kept flags.load has);
                stores_nothing = λ has. no-store-class (made.2.kept flags.store has);
              },
              λ has. no-proceed-class (made.2.kept flags.proceed has),
            );
            leads = λ k site at.
                let seat : Seat =
                record {
                  bean = position_of_class (beans ds) d.name;
                  number = None;
                  actor = ByTarget;
                  place = places.Producer b;
                } in
                static-leads ds book d p seat b site.via site.bean refl there (made.2.names k site at);
          };
      disposer = λ part e. option_and_then_some (disposer_part book)
          (option_and_then (disposer_named d) (disposer_of ds (product ds d p))) part e
          (λ disposer named made. option_and_then_some (disposer_named d) (disposer_of ds (product ds d p)) disposer named
          (λ name of is.
          let found_one = of-find (λ s. bytes_eq s.name name) d.disposers disposer is in
          let same : found_one.value ≡ disposer = same_Some found_one.value disposer (sym found_one.find_is ∙ is) in
          let fit = subst (λ s. IsFit book flags.at_disposal s.body) same (f.disposers found_one.place found_one.value found_one.there) in
          disposer-at ds book (position_of_class (beans ds) d.name) b part (ap disposer_in there ∙ e)
          (disposer-sound ds book flags.at_disposal disposer.body part fit made)));
    }

form-sound : (ds : List Decl) (book : List Promised) (b : ℕ) (bean : Bean) → AreDistinct ds → AreFine ds book → AreFineAround ds book
    → bean_at (scene_of ds book) b ≡ Some bean → IsSoundForm book (scene_of ds book) b bean.form
form-sound ds book b bean distinct fine around at =
    elim (stands-at ds book b bean at).fits [
      | inl m ↦ subst (λ bn. IsSoundForm book (scene_of ds book) b bn.form) (sym m.made)
          (managed-sound ds book m.decl (managed ds m.decl).is_enabled distinct around (fine m.place m.decl m.there).managed_bean)
      | inr p ↦ subst (λ bn. IsSoundForm book (scene_of ds book) b bn.form) (sym p.made)
          (product-sound ds book p.place p.decl p.producer b (product ds p.decl p.producer).is_enabled distinct p.there
          (fine-product ds book p.place p.decl p.at p.producer fine p.there p.declared)
          (ap product_in at ∙ ap (λ bn. as_product bn.form) p.made))
    ]

pub fine_is_sound : (ds : List Decl) (book : List Promised) → AreDistinct ds → AreFine ds book → AreFineAround ds book
    → IsSound book (scene_of ds book)
fine_is_sound ds book distinct fine around = record {
  beans = λ b bean at. form-sound ds book b bean distinct fine around at;
  invocables = λ b place x at. invocable-sound ds book b place x at (all-invocables ds book b place x distinct fine around at);
}
