-- The words under which declarations are listed: a reason and a name.
use Rattle.std.specs.Prelude.{ℕ, List, [], ◌∷◌, map, flat_map, if◌then◌else◌}
use Rattle.cdi_model.specs.Quals.{name_of_use}
use Rattle.cdi_model.specs.declared.decl.Decl.{Decl}
use Rattle.cdi_model.specs.declared.decl.Decl.TheVariants as decls
use Rattle.cdi_match.specs.Types.{types_of}
use Rattle.cdi_effective.specs.Beans.{own_records}
use Rattle.cdi_intercept.specs.Bindings.{set_at}
use Rattle.cdi_intercept.specs.Chains.{is_enabled}
use Rattle.cdi_observe.specs.Keys.{Key, ChainKey, ChoiceKey, EventKey}
use Rattle.cdi_observe.specs.Wanted.{wanted_by}

-- A bean of it has the type, enabled or not; an enabled interceptor that it is has a binding of the type; an observer method of it
-- observes the type. A point of it asks for the type; a place of it has a binding of the type; an event that it may fire has the type.
pub data Reason : Type 0 where
  HasType : Reason
  Intercepts : Reason
  Observes : Reason
  Asks : Reason
  Bound : Reason
  Fires : Reason

-- ---- what is given

-- the types of the beans that it has by itself
abbrev pub types_had : List Decl → Decl → List (List ℕ)
types_had ds (decls.Bean b) = flat_map (λ r. r.types) (own_records ds b)
types_had ds other = []

-- the types of the bindings of an interceptor, where it is enabled
abbrev pub types_bound_by : Decl → List (List ℕ)
types_bound_by (decls.Interceptor i) = if is_enabled i then map name_of_use i.bindings else []
types_bound_by other = []

-- the types that its observer methods observe
abbrev pub types_observed : Decl → List (List ℕ)
types_observed (decls.Bean b) = map (λ o. o.event_type) b.observers
types_observed other = []

-- ---- keys

-- what is given to a key is listed under one of these names
abbrev pub sought : List Decl → Key → List (List ℕ)
sought ds (ChoiceKey t us) = t ∷ []
sought ds (ChainKey class place) = map name_of_use (set_at ds class place)
sought ds (EventKey t us) = types_of ds t

-- for this reason
abbrev pub given_for : Key → Reason
given_for (ChoiceKey t us) = HasType
given_for (ChainKey class place) = Intercepts
given_for (EventKey t us) = Observes

-- the names that a key seeks where it is asked for by this reason
abbrev pub sought_for : Reason → List Decl → Key → List (List ℕ)
sought_for Asks ds (ChoiceKey t us) = sought ds (ChoiceKey t us)
sought_for Bound ds (ChainKey class place) = sought ds (ChainKey class place)
sought_for Fires ds (EventKey t us) = sought ds (EventKey t us)
sought_for other ds key = []

-- ---- the words

-- the names under which a declaration is listed for a reason
unfoldable pub names_under : List Decl → Decl → Reason → List (List ℕ)
names_under ds d HasType = types_had ds d
names_under ds d Intercepts = types_bound_by d
names_under ds d Observes = types_observed d
names_under ds d reason = flat_map (sought_for reason ds) (wanted_by d)
