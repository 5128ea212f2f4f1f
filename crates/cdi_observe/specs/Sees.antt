-- What the observer methods of an event rest on.
use Rattle.std.specs.Prelude.{◌≡◌, ℕ, List, map, Option}
use Rattle.cdi_model.specs.declared.decl.Decl.{Decl}
use Rattle.cdi_model.specs.declared.decl.QualifierDecl.{QualifierDecl}
use Rattle.cdi_model.specs.declared.decl.UseKind.TheVariants as uses
use Rattle.cdi_model.specs.declared.quals.Qual.{Qual}
use Rattle.cdi_match.specs.Filled.{FilledUse, filled}
use Rattle.cdi_match.specs.Filling.{find_qualifier}
use Rattle.cdi_effective.specs.declared.records.Effective.{Effective}
use Rattle.cdi_observe.specs.declared.observers.ObserverId.{ObserverId}
use Rattle.cdi_observe.specs.Observers.{Observer, notified, observer_id, observing}

pub record SeenObserver : Type 0 where
  pub id : ObserverId
  pub qualifiers : List FilledUse

abbrev pub seen_observer : List Decl → Observer → SeenObserver
seen_observer ds o = record { id = observer_id o; qualifiers = map (filled ds uses.Qualifier) o.method.qualifiers }

-- the observer methods of enabled beans which observe a type of the event, in order, with their filled qualifiers; and the
-- declarations of the qualifiers of the event
pub record SeenOfEvent : Type 0 where
  pub observers : List SeenObserver
  pub declared : List (Option QualifierDecl)

abbrev pub event_sees : List Decl → List Effective → List ℕ → List Qual → SeenOfEvent
event_sees ds beans t quals = record {
  observers = map (seen_observer ds) (observing ds beans t);
  declared = map (λ u. find_qualifier u.name ds) quals;
}

-- where the same is seen, the same observer methods are notified
abbrev pub NotifiedRestOnSeen : Type 0
NotifiedRestOnSeen = (ds es : List Decl) (beans others : List Effective) (t : List ℕ) (quals : List Qual)
    → event_sees ds beans t quals ≡ event_sees es others t quals → notified ds beans t quals ≡ notified es others t quals
