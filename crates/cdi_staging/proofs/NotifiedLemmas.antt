-- The observer methods that are notified of an event stand in the scene.
use Rattle.cdi_staging.proofs.Common.{◌≡◌, ℕ, Bool, true, false, List, map, Option, Some, None, refl, sym, ap, subst, ◌∙◌, slice_get}
use Rattle.cdi_staging.proofs.Common.{AreDistinct, BeanDecl, Decl, ObserverDecl, cond, length, same_Some, ◌&&◌, unwrap_or, Qual, same_text}
use Rattle.cdi_staging.proofs.Common.{Promised, beans, managed, find_bean, Effective, position_of_class, managed_form, scene_of, not}
use Rattle.cdi_staging.proofs.Common.{is_some, option_map, slice_get-map, none-some, Observer, is_observer, notified_as, observer_declared}
use Rattle.cdi_staging.proofs.Common.{staged_observer, filter, at-map, arith}
use Rattle.cdi_scene.specs.Sound.{IsSoundNotified}
use Rattle.cdi_match.specs.Types.{types_of}
use Rattle.cdi_observe.specs.Observers.{Observer as Declared, declared_by, enabled_bean, is_before, is_notified, observer_id, observers}
use Rattle.cdi_observe.specs.Observers.{observes, observing, resolved}
use Rattle.cdi_staging.proofs.BesideLemmas.{found, from-filter, from-flat, from-sorted, second-at}
use Rattle.cdi_staging.proofs.ChosenLemmas.{Stands, all-stand, bean-found, host-used, named-decl, of-none}
use Rattle.cdi_staging.specs.{Lookups.NotifiedStand, Notifying.notified_at}

-- ---- whose observer methods they are

-- an observer method of the declaration of an enabled managed bean
record IsDeclared (ds : List Decl) (b : Effective) (o : Declared) : Type 0 where
  pub managed_one : b.id.producer ≡ None
  pub enabled : b.is_enabled ≡ true
  pub bean : find_bean b.id.class ds ≡ Some o.bean
  pub place : ℕ
  pub method : slice_get o.bean.observers place ≡ Some o.method

from-declared : (found_bean : Option BeanDecl) (j : ℕ) (o : Declared) → slice_get (declared_by found_bean) j ≡ Some o
    → (found_bean ≡ Some o.bean) × (slice_get o.bean.observers j ≡ Some o.method)
from-declared None j o at = absurd (none-some o at)
from-declared (Some bean) j o at = grind (arith, bean.observers, at-map)

is-declared : (ds : List Decl) (b : Effective) (j : ℕ) (o : Declared) → slice_get (declared_by (enabled_bean ds b)) j ≡ Some o
    → IsDeclared ds b o
is-declared ds b j o at = by b.id.producer b.is_enabled refl refl at
  where
    by : (p : Option (List ℕ)) (e : Bool) → b.id.producer ≡ p → b.is_enabled ≡ e
        → slice_get (declared_by (cond (not (is_some p) && e) (find_bean b.id.class ds) None)) j ≡ Some o → IsDeclared ds b o
    by (Some p) e none enabled here = absurd (none-some o here)
    by None false none enabled here = absurd (none-some o here)
    by None true none enabled here =
        let one = from-declared (find_bean b.id.class ds) j o here in
        record { managed_one = none; enabled = enabled; bean = one.0; place = j; method = one.1 }

-- the record of the bean of one that is notified
record IsOf (ds : List Decl) (list : List Effective) (o : Declared) : Type 0 where
  pub place : ℕ
  pub record_of : Effective
  pub there : slice_get list place ≡ Some record_of
  pub declared : IsDeclared ds record_of o

is-of : (ds : List Decl) (list : List Effective) (t : List ℕ) (quals : List Qual) (k : ℕ) (o : Declared)
    → slice_get (resolved ds list t quals) k ≡ Some o → IsOf ds list o
unfolding resolved observing
is-of ds list t quals k o at =
    let all = observers ds list in
    let observed = observes (types_of ds t) in
    let first = from-filter (is_notified ds quals) (observing ds list t) k o at in
    let second = from-sorted is_before (filter observed all) first.0 o first.1 in
    let third = from-filter observed all second.0 o second.1 in
    let bean = from-flat (λ b. declared_by (enabled_bean ds b)) list third.0 o third.1 in
    record {
      place = bean.place;
      record_of = bean.value;
      there = bean.there;
      declared = is-declared ds bean.value bean.at o bean.gives;
    }

-- ---- where they stand

stands : (ds : List Decl) (book : List Promised) (o : Declared) → AreDistinct ds → IsOf ds (beans ds) o
    → IsSoundNotified (scene_of ds book) (notified_as ds (beans ds) (observer_id o))
unfolding managed_form
stands ds book o distinct of =
    let b = of.record_of in
    let scene_beans = (scene_of ds book).beans in
    let own = second-at (Stands ds book) (beans ds) scene_beans of.place b (all-stand ds book) of.there in
    let m = of-none ds book b own.value own.fits of.declared.managed_one in
    let by_name : find_bean b.id.class ds ≡ Some m.decl = named-decl ds book b own.value b.id.class distinct m refl in
    let same : m.decl ≡ o.bean = same_Some m.decl o.bean (sym by_name ∙ of.declared.bean) in
    let enabled : (managed ds m.decl).is_enabled ≡ true = sym (ap (λ x. x.is_enabled) m.is) ∙ of.declared.enabled in
    let used = host-used ds book m.place m.decl distinct m.there enabled in
    let declared : slice_get m.decl.observers of.declared.place ≡ Some o.method =
    ap (λ d. slice_get d.observers of.declared.place) same ∙ of.declared.method in
    let first = found (is_observer o.method.name) m.decl.observers of.declared.place o.method declared
    (same_text o.method.name o.method.name refl) in
    let made : ObserverDecl → Observer = staged_observer ds book m.decl in
    let place : observer_declared (find_bean m.decl.name ds) o.method.name ≡ first.place =
    ap (λ d. observer_declared d o.method.name) (bean-found ds m.place m.decl distinct m.there)
    ∙ ap (λ p. unwrap_or p (length m.decl.observers)) first.position_is in
    subst (λ d. IsSoundNotified (scene_of ds book)
    (record { bean = position_of_class (beans ds) d.name; observer = observer_declared (find_bean d.name ds) o.method.name })) same
    (record {
      observer = made first.value;
      there = ap (λ one. elim one [
        | Some managed_bean ↦ slice_get managed_bean.observers (observer_declared (find_bean m.decl.name ds) o.method.name)
        | None ↦ None
      ]) used
          ∙ ap (slice_get (map made m.decl.observers)) place
          ∙ slice_get-map made m.decl.observers first.place
          ∙ ap (option_map made) first.there;
    })

pub notified_stand : NotifiedStand
unfolding notified_at
notified_stand ds book t quals distinct k o at = grind (arith, at-map, stands, is-of)
