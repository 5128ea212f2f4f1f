-- What is held for interceptors, in the map and in what stands.
use Rattle.std.proofs.Common.{arith, ◌≡◌, ℕ, Bool, true, false, if◌then◌else◌, List, [], ◌∷◌, ◌++◌, map, filter, Option, Some, None, refl}
use Rattle.std.proofs.Common.{ap, ◌∙◌}
use Rattle.std.specs.List.{find, list_any, AllByRecursion, IsDistinct}
use Rattle.std.specs.Map.{keys_of, lookup}
use Rattle.indexmap.specs.IndexMap.{insert_entry}
use Rattle.cdi_model.specs.declared.outcome.Val.{Val, TheVariants.Null}
use Rattle.cdi_contexts.specs.Standing.{InterceptorState, held_for, is_state_of, keep_for, states_without, with_state}
use Rattle.cdi_contexts.specs.{SameHolders.same_holder, declared.states.Holder.Holder}
use Rattle.cdi_contexts.specs.States.{is_another, states_of}

abbrev Entry : Type 0
Entry = Holder × Val

-- ---- what is looked up

abbrev value_of : Option Val → Val
value_of (Some v) = v
value_of None = Null

abbrev value_in : Option InterceptorState → Val
value_in (Some k) = k.value
value_in None = Null

looked_up : (k : Holder) (es : List Entry)
    → value_of (lookup (same_holder k) es) ≡ value_in (find (is_state_of k.number k.interceptor) (states_of es))
looked_up k [] = refl
looked_up k (e ∷ es) = grind (arith, looked_up k es, e.0, k.number, k.interceptor, e.1)

held-some : (o : Option InterceptorState) → value_in o ≡ (elim o [ Some k ↦ k.value | None ↦ Null ])
held-some (Some k) = refl
held-some None = refl

pub held-there : (k : Holder) (v : Val) (es : List Entry) → Some v ≡ lookup (same_holder k) es
    → v ≡ held_for (states_of es) k.number k.interceptor
held-there k v es e =
    ap value_of e ∙ looked_up k es ∙ held-some (find (is_state_of k.number k.interceptor) (states_of es))

pub held-nothing : (k : Holder) (es : List Entry) → None ≡ lookup (same_holder k) es
    → Null ≡ held_for (states_of es) k.number k.interceptor
held-nothing k es e =
    ap value_of e ∙ looked_up k es ∙ held-some (find (is_state_of k.number k.interceptor) (states_of es))

-- ---- what is stored

-- where none of the keys is this one, nothing changes
kept-others : (k : Holder) (v : Val) (es : List Entry) → AllByRecursion (λ m. same_holder k m ≡ false) (keys_of es)
    → map (keep_for k.number k.interceptor v) (states_of es) ≡ states_of es
kept-others k v [] others = refl
kept-others k v (e ∷ es) others = grind (arith, kept-others k v es others.1, k.number, k.interceptor, others.0, others.1)

-- whether it stands among them, and what stands once it is stored
abbrev stored_by : Bool → Holder → Val → List InterceptorState → List InterceptorState
stored_by true k v states = map (keep_for k.number k.interceptor v) states
stored_by false k v states = states ++ record { number = k.number; interceptor = k.interceptor; value = v } ∷ []

stored_is : (b : Bool) (k : Holder) (v : Val) (states : List InterceptorState) → stored_by b k v states
    ≡ (if b then map (keep_for k.number k.interceptor v) states
    else states ++ record { number = k.number; interceptor = k.interceptor; value = v } ∷ [])
stored_is b k v states = grind arith

stored_step : (b : Bool) (k : Holder) (v : Val) (s : InterceptorState) (states : List InterceptorState)
    → is_state_of k.number k.interceptor s ≡ false → s ∷ stored_by b k v states ≡ stored_by b k v (s ∷ states)
stored_step b k v s states other = grind (arith, k.number, k.interceptor)

stored : (k : Holder) (v : Val) (es : List Entry) → IsDistinct same_holder (keys_of (insert_entry same_holder es k v))
    → states_of (insert_entry same_holder es k v)
    ≡ stored_by (list_any (is_state_of k.number k.interceptor) (states_of es)) k v (states_of es)
unfolding IsDistinct
stored k v [] distinct = refl
stored k v (e ∷ es) distinct = grind (arith, stored k v es, e.0, k.number, k.interceptor, kept-others, stored_step)

pub states-stored : (k : Holder) (v : Val) (es new : List Entry) → new ≡ insert_entry same_holder es k v
    → IsDistinct same_holder (keys_of new) → states_of new ≡ with_state k.number k.interceptor v (states_of es)
states-stored k v es new is distinct = grind (arith, k.number, k.interceptor, stored, stored_is)

-- ---- what is forgotten

pub states-without : (n : ℕ) (es : List Entry) → states_of (filter (λ e. is_another n e.0) es) ≡ states_without n (states_of es)
states-without n [] = refl
states-without n (e ∷ es) = grind (arith, states-without n es, e.0)
