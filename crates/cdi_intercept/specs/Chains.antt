-- The interceptors around a place of a bean, in order (Interceptors 2.1, Interceptor Ordering; Enabling Interceptors).
use Rattle.std.specs.Prelude.{ℕ, Bool, not, ◌&&◌, List, map, filter, flat_map, length, nat_eq, Option, Some, None, is_some, if◌then◌else◌}
use Rattle.std.specs.Prelude.{Result, Ok, Err}
use Rattle.std.specs.List.{list_all, list_any}
use Rattle.std.specs.Option.{option_cmp, option_to_list}
use Rattle.std.specs.Ordering.{int_cmp, is_lt}
use Rattle.cdi_model.specs.declared.decl.BeanDecl.{BeanDecl}
use Rattle.cdi_model.specs.declared.decl.Decl.{Decl}
use Rattle.cdi_model.specs.declared.decl.Decl.TheVariants as decls
use Rattle.cdi_model.specs.declared.decl.InterceptorDecl.{InterceptorDecl}
use Rattle.cdi_model.specs.declared.decl.PartDecl.{PartDecl}
use Rattle.cdi_model.specs.declared.decl.UseKind.TheVariants as use_kinds
use Rattle.cdi_model.specs.declared.place.BeanPlace.{BeanPlace}
use Rattle.cdi_model.specs.declared.place.BeanPlace.TheVariants as places
use Rattle.cdi_model.specs.declared.quals.Qual.{Qual}
use Rattle.cdi_model.specs.declared.refusal.Refusal.{Refusal}
use Rattle.cdi_model.specs.declared.refusal.Refusal.TheVariants as refusals
use Rattle.cdi_match.specs.Covering.{covers}
use Rattle.cdi_effective.specs.Bindings.{class_bindings}
use Rattle.cdi_effective.specs.Disposers.{find_bean}
use Rattle.cdi_intercept.specs.Sets.{has_place, set_by, sets_of}
use Rattle.base_lists.specs.Sorting.{sorted_by}

abbrev pub as_interceptor : Decl → Option InterceptorDecl
as_interceptor (decls.Interceptor d) = Some d
as_interceptor other = None

-- the interceptors that are declared, in order
abbrev pub interceptors : List Decl → List InterceptorDecl
interceptors ds = flat_map (λ d. option_to_list (as_interceptor d)) ds

-- one is enabled by its priority
abbrev pub is_enabled : InterceptorDecl → Bool
is_enabled i = is_some i.priority

-- one comes before another by a lesser priority
abbrev pub is_before : InterceptorDecl → InterceptorDecl → Bool
is_before i j = is_lt (option_cmp int_cmp i.priority j.priority)

-- those that are enabled, in the order in which they are called: of one priority in that of their declarations (profile)
unfoldable pub in_order : List Decl → List InterceptorDecl
in_order ds = sorted_by is_before (filter is_enabled (interceptors ds))

-- what an interceptor runs around a place
abbrev pub part_for : BeanPlace → InterceptorDecl → Option PartDecl
part_for places.Construct i = i.around_construct
part_for places.Post i = i.post
part_for places.Pre i = i.pre
part_for (places.Method name) i = i.around_invoke
part_for (places.Producer name) i = i.around_invoke
part_for (places.Observer name) i = i.around_invoke

-- one of some bindings covers this one
abbrev pub covered_in : List Decl → List Qual → Qual → Bool
covered_in ds set want = list_any (λ have. covers ds use_kinds.Binding have want) set

-- an interceptor binds where it declares a binding and each that it declares is covered, whatever these bring (profile)
abbrev pub binds : List Decl → List Qual → InterceptorDecl → Bool
binds ds set i = not (nat_eq (length i.bindings) 0) && list_all (covered_in ds set) i.bindings

-- it stands around the place: it has a body for it, and binds
abbrev pub surrounds : List Decl → List Qual → BeanPlace → InterceptorDecl → Bool
surrounds ds set place i = is_some (part_for place i) && binds ds set i

-- the interceptors around a place with these bindings
unfoldable pub chain_by : List Decl → List Qual → BeanPlace → List InterceptorDecl
chain_by ds set place = filter (surrounds ds set place) (in_order ds)

-- it stands around one of some places, each with the bindings there
abbrev pub surrounds_one : List Decl → List (BeanPlace × List Qual) → InterceptorDecl → Bool
surrounds_one ds sets i = list_any (λ z. surrounds ds z.1 z.0 i) sets

-- those around some place of a bean whose class has these bindings, each once
unfoldable pub around_any : List Decl → List Qual → BeanDecl → List InterceptorDecl
around_any ds class bean = filter (surrounds_one ds (sets_of ds class bean)) (in_order ds)

-- one that is enabled stands around some place of a bean
unfoldable pub stands_around : List Decl → InterceptorDecl → BeanDecl → Bool
stands_around ds i bean = is_enabled i && surrounds_one ds (sets_of ds (class_bindings ds bean) bean) i

-- what is told of a place of a bean: the names of those around it, where the bean is declared and has the place
abbrev pub chain_told : List Decl → Option BeanDecl → BeanPlace → Result (List (List ℕ)) Refusal
chain_told ds None place = Err refusals.UnknownName
chain_told ds (Some bean) place =
    if has_place bean place
    then Ok (map (λ i. i.name) (chain_by ds (set_by ds (class_bindings ds bean) bean place) place))
    else Err refusals.NoMethod

abbrev pub chain_of : List Decl → List ℕ → BeanPlace → Result (List (List ℕ)) Refusal
chain_of ds class place = chain_told ds (find_bean class ds) place
