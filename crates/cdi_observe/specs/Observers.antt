-- Which observer methods are notified of an event, and in which order (CDI 4.0, Observer resolution; Observer ordering).
use Rattle.std.specs.Prelude.{ℕ, ℤ, pos, Bool, not, ◌&&◌, ◌||◌, List, [], codes, map, filter, flat_map, unwrap_or, Option, Some, None}
use Rattle.std.specs.Prelude.{is_some, if◌then◌else◌}
use Rattle.std.specs.List.{list_all}
use Rattle.std.specs.Ordering.{int_cmp, is_lt}
use Rattle.std.specs.Str.{bytes_eq}
use Rattle.cdi_model.specs.declared.decl.BeanDecl.{BeanDecl}
use Rattle.cdi_model.specs.declared.decl.Decl.{Decl}
use Rattle.cdi_model.specs.declared.decl.ObserverDecl.{ObserverDecl}
use Rattle.cdi_model.specs.declared.quals.Qual.{Qual}
use Rattle.cdi_match.specs.Chain.{has}
use Rattle.cdi_match.specs.Types.{types_of}
use Rattle.cdi_effective.specs.Disposers.{find_bean}
use Rattle.cdi_effective.specs.Qualifiers.{some_covers}
use Rattle.cdi_effective.specs.declared.records.Effective.{Effective}
use Rattle.base_lists.specs.Sorting.{sorted_by}
use Rattle.cdi_observe.specs.declared.observers.ObserverId.{ObserverId}

-- an observer method, and the bean that declares it
pub record Observer : Type 0 where
  pub bean : BeanDecl
  pub method : ObserverDecl

abbrev pub observer_id : Observer → ObserverId
observer_id o = record { class = o.bean.name; observer = o.method.name }

-- the declaration of a managed bean, where it is enabled
abbrev pub enabled_bean : List Decl → Effective → Option BeanDecl
enabled_bean ds b = if not (is_some b.id.producer) && b.is_enabled then find_bean b.id.class ds else None

-- the observer methods of a bean, if there is one
abbrev pub declared_by : Option BeanDecl → List Observer
declared_by None = []
declared_by (Some bean) = map (λ method. record { bean = bean; method = method }) bean.observers

-- those of some beans, in order
abbrev pub observers : List Decl → List Effective → List Observer
observers ds beans = flat_map (λ b. declared_by (enabled_bean ds b)) beans

-- the priority of one that declares none is 2500
abbrev pub priority_of : ObserverDecl → ℤ
priority_of o = unwrap_or o.priority (pos 2500)

abbrev pub is_before : Observer → Observer → Bool
is_before a b = is_lt (int_cmp (priority_of a.method) (priority_of b.method))

-- it observes events of one of these types
abbrev pub observes : List (List ℕ) → Observer → Bool
observes types o = has types o.method.event_type

-- those which observe a type that the event has, from the least priority on, and of one priority in the order of the beans and of
-- their methods (profile)
unfoldable pub observing : List Decl → List Effective → List ℕ → List Observer
observing ds beans t = sorted_by is_before (filter (observes (types_of ds t)) (observers ds beans))

-- an event with these qualifiers has one that is observed: each has `Any`, and else one of these covers it (CDI 4.0, Event qualifier types
-- with members)
abbrev pub event_has : List Decl → List Qual → Qual → Bool
event_has ds quals want = bytes_eq want.name (codes "Any") || some_covers ds quals want

abbrev pub is_notified : List Decl → List Qual → Observer → Bool
is_notified ds quals o = list_all (event_has ds quals) o.method.qualifiers

-- the observer methods that are notified of an event of a type with these qualifiers, in order
unfoldable pub resolved : List Decl → List Effective → List ℕ → List Qual → List Observer
resolved ds beans t quals = filter (is_notified ds quals) (observing ds beans t)

-- by their ids, those of the observer methods of one of some types of which an event with these qualifiers has each that they observe
abbrev pub notified_by : List Decl → List Effective → List (List ℕ) → List Qual → List ObserverId
notified_by ds beans types quals =
    map observer_id (filter (is_notified ds quals) (sorted_by is_before (filter (observes types) (observers ds beans))))

-- the same by their ids
abbrev pub notified : List Decl → List Effective → List ℕ → List Qual → List ObserverId
notified ds beans t quals = map observer_id (resolved ds beans t quals)
