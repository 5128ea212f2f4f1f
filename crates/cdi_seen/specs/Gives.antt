-- What each declaration gives to a chain and to an event.
use Rattle.std.specs.Prelude.{◌≡◌, ℕ, ℤ, Bool, List, map, filter, flat_map, Option}
use Rattle.std.specs.Cmp.{IsStrictWeakOrder}
use Rattle.std.specs.Option.{option_cmp, option_to_list}
use Rattle.std.specs.Ordering.{int_cmp, is_lt}
use Rattle.cdi_model.specs.declared.decl.Decl.{Decl}
use Rattle.cdi_model.specs.declared.decl.InterceptorDecl.{InterceptorDecl}
use Rattle.cdi_model.specs.declared.place.BeanPlace.{BeanPlace}
use Rattle.cdi_model.specs.declared.quals.Qual.{Qual}
use Rattle.cdi_match.specs.Types.{types_of}
use Rattle.cdi_effective.specs.Beans.{beans, entries}
use Rattle.cdi_intercept.specs.Chains.{as_interceptor, in_order, is_enabled}
use Rattle.cdi_intercept.specs.Sees.{SeenInterceptor, is_seen, seen_interceptor}
use Rattle.base_lists.specs.Sorting.{sorted_by}
use Rattle.cdi_observe.specs.Observers.{Observer, observers, observes, observing, priority_of}
use Rattle.cdi_observe.specs.Sees.{SeenObserver, seen_observer}

-- What is put in order and then filtered is what is filtered and then put in order.
abbrev pub FilteredInOrder : Type 0 → Type 0
FilteredInOrder X = (before : X → X → Bool) → IsStrictWeakOrder before → (test : X → Bool) (xs : List X)
    → filter test (sorted_by before xs) ≡ sorted_by before (filter test xs)

-- what has a rank beside it
abbrev pub unranked : {A B : Type 0} → List (A × B) → List B
unranked zs = map (λ z. z.1) zs

-- ---- to a chain

-- an interceptor as it is seen, with its priority
abbrev pub ranked_interceptor : List Decl → InterceptorDecl → Option ℤ × SeenInterceptor
ranked_interceptor ds i = (i.priority, seen_interceptor ds i)

abbrev pub is_before_interceptor : Option ℤ × SeenInterceptor → Option ℤ × SeenInterceptor → Bool
is_before_interceptor a b = is_lt (option_cmp int_cmp a.0 b.0)

-- what a declaration gives to a place with these bindings: the enabled interceptor that it is, where the place sees it
abbrev pub interceptor_at : List Qual → BeanPlace → Decl → List InterceptorDecl
interceptor_at set place d = filter (is_seen set place) (filter is_enabled (option_to_list (as_interceptor d)))

abbrev pub interceptor_given : List Qual → BeanPlace → List Decl → Decl → List (Option ℤ × SeenInterceptor)
interceptor_given set place ds d = map (ranked_interceptor ds) (interceptor_at set place d)

-- What a chain sees of interceptors is what each declaration gives, in order.
abbrev pub InterceptorsByDeclaration : Type 0
InterceptorsByDeclaration = (ds : List Decl) (set : List Qual) (place : BeanPlace)
    → map (seen_interceptor ds) (filter (is_seen set place) (in_order ds))
    ≡ unranked (sorted_by is_before_interceptor (flat_map (interceptor_given set place ds) ds))

-- ---- to an event

-- an observer method as it is seen, with its priority
abbrev pub ranked_observer : List Decl → Observer → ℤ × SeenObserver
ranked_observer ds o = (priority_of o.method, seen_observer ds o)

abbrev pub is_before_observer : ℤ × SeenObserver → ℤ × SeenObserver → Bool
is_before_observer a b = is_lt (int_cmp a.0 b.0)

-- what a declaration gives to an event of these types: the observer methods of its enabled beans that observe one of them
abbrev pub observer_given : List (List ℕ) → List Decl → Decl → List (ℤ × SeenObserver)
observer_given types ds d = map (ranked_observer ds) (filter (observes types) (observers ds (entries ds d)))

-- What an event sees of observer methods is what each declaration gives, in order.
abbrev pub ObserversByDeclaration : Type 0
ObserversByDeclaration = (ds : List Decl) (t : List ℕ)
    → map (seen_observer ds) (observing ds (beans ds) t)
    ≡ unranked (sorted_by is_before_observer (flat_map (observer_given (types_of ds t) ds) ds))
