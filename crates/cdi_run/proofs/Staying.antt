-- What runs rest on stays along their steps.
use Rattle.std.proofs.Common.{◌≡◌, ℕ, ◌+◌, ◌≤◌, List, [], Option, Some, None, ap, subst, arith, length, slice_get, refl, sym, ◌∙◌}
use Rattle.std.proofs.lemmas.Option.{slice_get_within}
use Rattle.cdi_model.specs.declared.outcome.Outcome.{Outcome}
use Rattle.cdi_contexts.specs.{Rising.IsOwnerOf, Rising.IsRising, Standing.Standing, declared.instance.Actor.TheVariants.Target}
use Rattle.cdi_contexts.specs.declared.instance.{Instance.Instance, InstanceId.InstanceId, Owner.Owner}
use Rattle.cdi_scene.specs.{Scene.managed_at, Scene.product_at, Scene.observer_at, Sound.IsNamed, Sound.home_of, Sound.params_at}
use Rattle.cdi_scene.specs.declared.{place.Place.Place, place.Seat.Seat, scene.CallSite.CallSite, scene.Managed.Managed}
use Rattle.cdi_scene.specs.declared.scene.{Observer.Observer, Product.Product, Scene.Scene}
use Rattle.cdi_scene.specs.declared.place.Place.TheVariants as places
use Rattle.cdi_legal.specs.Furnished.{HasDependents, IsDependent, IsFurnished, IsServed}
use Rattle.cdi_legal.specs.Legal.{Legal, Node, Answer, at, create, dependent_of, failure_is, for_param, held_is, inject, made_is, obtain}
use Rattle.cdi_legal.specs.{Legal.reach, Legal.supply, LegalRun.LegalEnd, LegalRun.LegalRequestEnd, LegalRun.Runs, LegalRun.Command}
use Rattle.cdi_legal.specs.declared.entry.Made.TheVariants.{Instance as Obtained}
use Rattle.cdi_legal.proofs.Settling.{Begins, IsApart, Settled, begin, created_has, has-after, has-injected, legal_settled, obtained_has}
use Rattle.cdi_legal.proofs.{Settling.context_settled, Settling.runs_settled, Settling.sound_apart, Keeping.WasGiven, Keeping.owned-param}
use Rattle.cdi_legal.proofs.{Reaching.reaches, Reaching.reached_has, Supplying.AreHeld, Supplying.held-after, Supplying.supplied_has}
use Rattle.cdi_legal.specs.{Ends.Held, Ends.seat_on, Ends.seat_of_class, Moment.Moment, Moment.put, declared.entry.Entry.Entry}
use Rattle.cdi_legal.specs.declared.entry.Entry.TheVariants as entries
use Rattle.cdi_ending.specs.Staged.{Staged}
use Rattle.cdi_run.specs.Known.{HostHas, IsBegun, IsSettled}

-- ---- forms

apart : (x : Staged) (m : Moment) → IsSettled x m → IsApart x.scene
apart x m h = sound_apart x.promises x.scene h.sound

settled : (x : Staged) (m : Moment) → IsSettled x m → Settled x.scene m
settled x m h = record { rises = h.rises; furnished = h.furnished }

is_settled : (x : Staged) (m m' : Moment) → IsSettled x m → Settled x.scene m' → IsSettled x m'
is_settled x m m' h after = record { sound = h.sound; rises = after.rises; furnished = after.furnished }

pub was_given : (product : Option InstanceId) (given : ℕ) → IsBegun given product → WasGiven product given
was_given None given h = tt
was_given (Some i) given h = h

pub owned_by_param : (product : Option InstanceId) (p given : ℕ) → IsBegun given product → IsOwnerOf (given + 1) (for_param product p)
owned_by_param product p given h = owned-param product p given (was_given product given h)

-- ---- where nothing of what stands changes

pub settled_same : (x : Staged) (m m' : Moment) → m'.standing ≡ m.standing → IsSettled x m → IsSettled x m'
settled_same x m m' e h = record { sound = h.sound; rises = rw e h.rises; furnished = rw e h.furnished }

pub served_same : (s : Scene) (seat : Seat) (held : Held) (m m' : Moment) → m'.standing ≡ m.standing
    → IsServed s m.standing.live seat held → IsServed s m'.standing.live seat held
served_same s seat held m m' e h = subst (λ (y : Standing). IsServed s y.live seat held) (sym e) h

-- ---- along a node

pub settled_after : (x : Staged) {k : ℕ} {node : Node} {a : Answer} {m m' : Moment} → Legal x.scene k node m a m'
    → Begins node m → IsSettled x m → IsSettled x m'
settled_after x {k} {node} {a} {m} {m'} p begins h =
    is_settled x m m' h (legal_settled (apart x m h) p begins (settled x m h))

pub served_after : (x : Staged) (seat : Seat) (held : Held) {k : ℕ} {node : Node} {a : Answer} {m m' : Moment}
    → Legal x.scene k node m a m' → Begins node m → IsSettled x m → IsServed x.scene m.standing.live seat held
    → IsServed x.scene m'.standing.live seat held
served_after x seat held p begins h served = record {
  own = λ n e. has-after (at (home_of x.scene seat.bean seat.place) n) p begins h.rises (served.own n e);
  params = λ j b there own. held-after p begins h.rises (served.params j b there own);
}

-- ---- what begins

pub settled_begun : (x : Staged) (i : InstanceId) (o : Owner) (m m' : Moment) → m' ≡ put (entries.Create i o) m
    → IsOwnerOf (m.standing.given + 1) o → IsSettled x m → IsSettled x m'
settled_begun x i o m m' is owned h = is_settled x m m' h (begin i o m m' is owned (settled x m h))

-- ---- what is made, obtained and reached has its dependent objects

pub created : (x : Staged) {k b n : ℕ} {o : Owner} {m m' : Moment} → Legal x.scene k (create b o) m (made_is (Obtained n)) m'
    → IsOwnerOf (m.standing.given + 1) o → IsSettled x m → HasDependents x.scene m'.standing.live (at b n)
created x {k} {b} {n} {o} {m} {m'} p owned h = created_has (apart x m h) p owned (settled x m h)

pub obtained : (x : Staged) {k b n : ℕ} {m m' : Moment} → Legal x.scene k (obtain b) m (made_is (Obtained n)) m'
    → IsSettled x m → HasDependents x.scene m'.standing.live (at b n)
obtained x {k} {b} {n} {m} {m'} p h = obtained_has (apart x m h) p (settled x m h)

pub reached : (x : Staged) {k n : ℕ} {seat : Seat} {held : Held} {c : CallSite} {m m' : Moment}
    → Legal x.scene k (reach seat held c) m (made_is (Obtained n)) m' → IsSettled x m → IsServed x.scene m.standing.live seat held
    → IsNamed x.scene seat c.via c.bean → HasDependents x.scene m'.standing.live (at c.bean n)
reached x {k} {n} {seat} {held} {c} {m} {m'} p h served named =
    reached_has (apart x m h) p (settled x m h) served named

-- what a call site names is there
pub never_unmade : (x : Staged) (m : Moment) (seat : Seat) (held : Held) (c : CallSite) → IsSettled x m
    → IsServed x.scene m.standing.live seat held → IsNamed x.scene seat c.via c.bean → IsDependent x.scene c.bean
    → dependent_of m.standing.live seat held c.via ≡ None → ⊥
never_unmade x m seat held c h served named own none =
    let r = reaches x.scene m.standing.live seat held c.via c.bean h.furnished served named own in
    let clash : Some r.number ≡ None = sym r.reached ∙ none in
    cc

-- ---- seats

-- an instance with its dependent objects is served where parameters have theirs
pub served_with : (s : Scene) (live : List Instance) (i : InstanceId) (place : Place) (held : Held) (ps : List ℕ)
    → HasDependents s live (at (home_of s i.bean place) i.number) → params_at s i.bean place ≡ ps
    → AreHeld s live ps held (length ps) → IsServed s live (seat_on i Target place) held
served_with s live i place held ps has is all = record {
  own = λ n e.
      let q : i.number ≡ n = cc in
      subst (λ (d : ℕ). HasDependents s live (at (home_of s i.bean place) d)) q has;
  params = λ p b e own.
      let there : slice_get ps p ≡ Some b = ap (λ (l : List ℕ). slice_get l p) (sym is) ∙ e in
      all p b (slice_get_within ps p b there) there own;
}

none_held : (s : Scene) (live : List Instance) (held : Held) → AreHeld s live [] held 0
none_held s live held = λ k b less there own. absurd (omega (arith, less))

pub served_alone : (s : Scene) (live : List Instance) (i : InstanceId) (place : Place)
    → HasDependents s live (at (home_of s i.bean place) i.number) → params_at s i.bean place ≡ []
    → IsServed s live (seat_on i Target place) []
served_alone s live i place has is = served_with s live i place [] [] has is (none_held s live [])

pub served_statically : (s : Scene) (live : List Instance) (b : ℕ) (place : Place) (held : Held) (ps : List ℕ)
    → params_at s b place ≡ ps → AreHeld s live ps held (length ps) → IsServed s live (seat_of_class b place) held
served_statically s live b place held ps is all = record {
  own = λ n e. cc;
  params = λ p c e own.
      let there : slice_get ps p ≡ Some c = ap (λ (l : List ℕ). slice_get l p) (sym is) ∙ e in
      all p c (slice_get_within ps p c there) there own;
}

pub params_of_producer : (s : Scene) (b product : ℕ) (x : Product) → product_at s product ≡ Some x
    → params_at s b (places.Producer product) ≡ x.params
params_of_producer s b product x there = ap (λ o. elim o [ Some y ↦ y.params | None ↦ [] ]) there

pub home_of_producer : (s : Scene) (b product : ℕ) (x : Product) → product_at s product ≡ Some x
    → home_of s b (places.Producer product) ≡ x.declaring
home_of_producer s b product x there = ap (λ o. elim o [ Some y ↦ y.declaring | None ↦ b ]) there

pub params_of_observer : (s : Scene) (b o : ℕ) (x : Observer) → observer_at s b o ≡ Some x
    → params_at s b (places.Observer o) ≡ x.params
params_of_observer s b o x there = ap (λ v. elim v [ Some y ↦ y.params | None ↦ [] ]) there

-- ---- methods

-- the observer method of an instance, behind its parameters
pub served_observer : (x : Staged) {k : ℕ} {held : Held} {m m' : Moment} (i : InstanceId) (o : ℕ) (observer : Observer)
    → observer_at x.scene i.bean o ≡ Some observer
    → Legal x.scene k (supply None observer.params 0 []) m (held_is held None) m' → IsSettled x m
    → HasDependents x.scene m.standing.live i → IsServed x.scene m'.standing.live (seat_on i Target (places.Observer o)) held
served_observer x {k} {held} {m} {m'} i o observer there p h has =
    served_with x.scene m'.standing.live i (places.Observer o) held observer.params
    (has-after i p tt h.rises has)
    (params_of_observer x.scene i.bean o observer there)
    (supplied_has (apart x m h) p tt (settled x m h) refl (λ j b less there own. absurd (omega (arith, less))))

params_made : (x : Staged) {k : ℕ} {held : Held} {m m' : Moment} (i : InstanceId) (product : Product)
    → Legal x.scene k (supply (Some i) product.params 0 []) m (held_is held None) m' → i.number ≤ m.standing.given
    → IsSettled x m → AreHeld x.scene m'.standing.live product.params held (length product.params)
params_made x {k} {held} {m} {m'} i product p given h =
    supplied_has (apart x m h) p given (settled x m h) refl (λ j b less there own. absurd (omega (arith, less)))

-- a static producer method, and one of a host, behind their parameters
pub served_class : (x : Staged) {k : ℕ} {held : Held} {m m' : Moment} (i : InstanceId) (product : Product)
    → product_at x.scene i.bean ≡ Some product
    → Legal x.scene k (supply (Some i) product.params 0 []) m (held_is held None) m' → i.number ≤ m.standing.given
    → IsSettled x m → IsServed x.scene m'.standing.live (seat_of_class product.declaring (places.Producer i.bean)) held
served_class x {k} {held} {m} {m'} i product there p given h =
    served_statically x.scene m'.standing.live product.declaring (places.Producer i.bean) held product.params
    (params_of_producer x.scene product.declaring i.bean product there) (params_made x i product p given h)

pub served_host : (x : Staged) {k : ℕ} {held : Held} {m m' : Moment} (i host : InstanceId) (product : Product)
    → product_at x.scene i.bean ≡ Some product
    → Legal x.scene k (supply (Some i) product.params 0 []) m (held_is held None) m' → i.number ≤ m.standing.given
    → IsSettled x m → HostHas x.scene m.standing.live product (Some host)
    → IsServed x.scene m'.standing.live (seat_on host Target (places.Producer i.bean)) held
served_host x {k} {held} {m} {m'} i host product there p given h has =
    let after = has-after (at product.declaring host.number) p given h.rises has in
    let here = subst (λ (c : ℕ). HasDependents x.scene m'.standing.live (at c host.number))
    (sym (home_of_producer x.scene host.bean i.bean product there)) after in
    served_with x.scene m'.standing.live host (places.Producer i.bean) held product.params here
    (params_of_producer x.scene host.bean i.bean product there) (params_made x i product p given h)

-- the construction, behind the injection points
pub injected : (x : Staged) {k : ℕ} {m m' : Moment} (i : InstanceId) (managed : Managed) → managed_at x.scene i.bean ≡ Some managed
    → Legal x.scene k (inject i managed.injections 0) m (failure_is None) m' → i.number ≡ m.standing.given → IsSettled x m
    → HasDependents x.scene m'.standing.live i
injected x {k} {m} {m'} i managed there p newest h = has-injected (apart x m h) there p h.rises newest

-- ---- commands

pub runs_stay : (x : Staged) {c : Command} {m m' : Moment} {o : Outcome} → Runs x.scene c m o m' → IsSettled x m
    → IsFurnished x.scene m'.standing.live
runs_stay x {c} {m} {m'} {o} p h = (runs_settled (apart x m h) p (settled x m h)).furnished

pub request_end_stays : {s : Scene} {before after : Standing} {trace : List Entry} → LegalRequestEnd s before trace after
    → IsRising before.given before.live → IsFurnished s before.live → IsFurnished s after.live
request_end_stays {s} l r f =
    subst (λ (y : Standing). IsFurnished s y.live) (sym l.leaves)
    (context_settled l.ends (record { rises = r; furnished = f })).furnished

pub end_stays : {s : Scene} {before after : Standing} {trace : List Entry} → LegalEnd s before trace after
    → IsRising before.given before.live → IsFurnished s before.live → IsFurnished s after.live
end_stays {s} l r f =
    subst (λ (y : Standing). IsFurnished s y.live) (sym l.leaves)
    (context_settled l.then (context_settled l.first (record { rises = r; furnished = f }))).furnished
