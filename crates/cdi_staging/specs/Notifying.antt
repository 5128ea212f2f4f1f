-- Whom an event notifies, by position (CDI 4.0, Observer resolution; Observer ordering).
use Rattle.std.specs.Prelude.{◌≡◌, ℕ, Bool, List, length, map, Option, Some, None, position, unwrap_or}
use Rattle.std.specs.Str.{bytes_eq}
use Rattle.cdi_model.specs.declared.decl.BeanDecl.{BeanDecl}
use Rattle.cdi_model.specs.declared.decl.Decl.{Decl}
use Rattle.cdi_model.specs.declared.decl.EventDecl.{EventDecl}
use Rattle.cdi_model.specs.declared.decl.ObserverDecl.{ObserverDecl}
use Rattle.cdi_model.specs.declared.quals.Qual.{Qual}
use Rattle.cdi_scene.specs.declared.scene.Notified.{Notified}
use Rattle.cdi_effective.specs.Disposers.{find_bean}
use Rattle.cdi_effective.specs.declared.records.Effective.{Effective}
use Rattle.cdi_observe.specs.Observers.{notified}
use Rattle.cdi_observe.specs.declared.observers.ObserverId.{ObserverId}
use Rattle.cdi_staging.specs.Sites.{position_of_class}
use Rattle.cdi_staging.specs.declared.notifying.Host.{Host}

abbrev pub is_observer : List ℕ → ObserverDecl → Bool
is_observer name observer = bytes_eq observer.name name

-- the position of an observer method of this name, or the one behind the last
abbrev pub position_of_observer : List ObserverDecl → List ℕ → ℕ
position_of_observer observers name = unwrap_or (position (is_observer name) observers) (length observers)

abbrev pub observer_declared : Option BeanDecl → List ℕ → ℕ
observer_declared None name = 0
observer_declared (Some bean) name = position_of_observer bean.observers name

-- an observer method, by the position of its managed bean and its own there
abbrev pub notified_as : List Decl → List Effective → ObserverId → Notified
notified_as ds list id = record {
  bean = position_of_class list id.class;
  observer = observer_declared (find_bean id.class ds) id.observer;
}

-- an observer method of a bean declaration
abbrev pub notified_in : Host → List ℕ → Notified
notified_in host name = record { bean = host.bean; observer = position_of_observer host.observers.now name }

-- The bean declaration of a class is there with its position.
pub record IsHost (ds : List Decl) (list : List Effective) (host : Host) : Type 0 where
  pub bean : host.bean ≡ position_of_class list host.class
  pub observers : (name : List ℕ) → position_of_observer host.observers.now name ≡ observer_declared (find_bean host.class ds) name

-- the observer methods that are notified of an event of a type with these qualifiers, in order
unfoldable pub notified_at : List Decl → List Effective → List ℕ → List Qual → List Notified
notified_at ds list t quals = map (notified_as ds list) (notified ds list t quals)

-- those of a fire site
abbrev pub fired_at : List Decl → List Effective → EventDecl → List Notified
fired_at ds list e = notified_at ds list e.event_type e.qualifiers
