-- Why each interceptor is called or left at a place of a bean (CDI 4.0, Interceptor resolution; Interceptor enablement and ordering).
use Rattle.std.specs.Prelude.{◌≡◌, ℕ, Bool, true, false, not, ◌&&◌, List, filter, length, map, nat_eq, position, Option, Some, None, is_some}
use Rattle.std.specs.Prelude.{if◌then◌else◌, Result, Ok, Err}
use Rattle.cdi_model.specs.declared.decl.BeanDecl.{BeanDecl}
use Rattle.cdi_model.specs.declared.decl.Decl.{Decl}
use Rattle.cdi_model.specs.declared.decl.InterceptorDecl.{InterceptorDecl}
use Rattle.cdi_model.specs.declared.place.BeanPlace.{BeanPlace}
use Rattle.cdi_model.specs.declared.quals.Qual.{Qual}
use Rattle.cdi_model.specs.declared.refusal.Refusal.{Refusal}
use Rattle.cdi_model.specs.declared.refusal.Refusal.TheVariants as refusals
use Rattle.cdi_effective.specs.Bindings.{class_bindings}
use Rattle.cdi_effective.specs.Disposers.{find_bean}
use Rattle.cdi_intercept.specs.Chains.{chain_by, covered_in, in_order, interceptors, is_enabled, part_for, surrounds}
use Rattle.cdi_intercept.specs.Sets.{has_place, set_by}
use Rattle.cdi_explain.specs.declared.verdict.InterceptorVerdict.{InterceptorVerdict}
use Rattle.cdi_explain.specs.declared.verdict.InterceptorVerdict.TheVariants as verdicts

-- the position of the first of an interceptor's bindings that none at the place covers
abbrev pub uncovered : List Decl → List Qual → List Qual → Option ℕ
uncovered ds set own = position (λ want. not (covered_in ds set want)) own

-- of one that has a body and bindings, by which of these is not covered
abbrev pub bound_verdict : Option ℕ → InterceptorDecl → InterceptorVerdict
bound_verdict (Some own) i = verdicts.LacksBinding own
bound_verdict None i = if is_enabled i then verdicts.Called else verdicts.Disabled

-- of one that has a body
abbrev pub body_verdict : List Decl → List Qual → InterceptorDecl → InterceptorVerdict
body_verdict ds set i =
    if nat_eq (length i.bindings) 0 then verdicts.NoBinding else bound_verdict (uncovered ds set i.bindings) i

-- on an interceptor at a place with these bindings
abbrev pub interceptor_verdict : List Decl → List Qual → BeanPlace → InterceptorDecl → InterceptorVerdict
interceptor_verdict ds set place i = if is_some (part_for place i) then body_verdict ds set i else verdicts.LacksBody

-- on each interceptor, in the order of declarations, at a place with these bindings
abbrev pub verdicts_by : List Decl → List Qual → BeanPlace → List InterceptorVerdict
verdicts_by ds set place = map (interceptor_verdict ds set place) (interceptors ds)

-- at a place of a bean, where it is declared and has the place
abbrev pub verdicts_told : List Decl → Option BeanDecl → BeanPlace → Result (List InterceptorVerdict) Refusal
verdicts_told ds None place = Err refusals.UnknownName
verdicts_told ds (Some bean) place =
    if has_place bean place
    then Ok (verdicts_by ds (set_by ds (class_bindings ds bean) bean place) place)
    else Err refusals.NoMethod

-- at a place of the bean of a class
abbrev pub verdicts_at : List Decl → List ℕ → BeanPlace → Result (List InterceptorVerdict) Refusal
verdicts_at ds class place = verdicts_told ds (find_bean class ds) place

-- ---- the chain

abbrev pub is_called : InterceptorVerdict → Bool
is_called verdicts.Called = true
is_called other = false

-- An interceptor is called exactly where it is enabled and stands around the place.
abbrev pub CalledSurround : Type 0
CalledSurround = (ds : List Decl) (set : List Qual) (place : BeanPlace) (i : InterceptorDecl)
    → is_called (interceptor_verdict ds set place i) ≡ (is_enabled i && surrounds ds set place i)

-- The called ones, in the order of interceptors, are exactly those of the chain.
abbrev pub CalledAreTheChain : Type 0
CalledAreTheChain = (ds : List Decl) (set : List Qual) (place : BeanPlace)
    → filter (λ i. is_called (interceptor_verdict ds set place i)) (in_order ds) ≡ chain_by ds set place
