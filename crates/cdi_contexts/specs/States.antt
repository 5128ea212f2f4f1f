-- What is held for interceptors, as it is kept.
use Rattle.std.specs.Prelude.{ℕ, Bool, not, ◌==◌, List, map}
use Rattle.indexmap.specs.IndexMap.{spare}
use Rattle.cdi_model.specs.declared.outcome.Val.{Val}
use Rattle.cdi_contexts.specs.Standing.{InterceptorState}
use Rattle.cdi_contexts.specs.declared.states.Holder.{Holder}
use Rattle.cdi_contexts.specs.declared.states.States.{States}

abbrev pub state_of_entry : Holder × Val → InterceptorState
state_of_entry e = record { number = e.0.number; interceptor = e.0.interceptor; value = e.1 }

abbrev pub states_of : List (Holder × Val) → List InterceptorState
states_of es = map state_of_entry es

abbrev pub states_in : States → List InterceptorState
states_in s = states_of s.held.entries

-- how many more can be held without memory
abbrev pub room_in : States → ℕ
room_in s = spare s.held

-- another instance holds it
abbrev pub is_another : ℕ → Holder → Bool
is_another n holder = not (holder.number == n)
