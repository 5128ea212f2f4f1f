-- Beans by the interceptors around their places.
use Rattle.std.specs.Prelude.{◌≡◌, ℕ, Bool, true, false, ◌&&◌, List, [], ◌∷◌, Option, Some, None, Vec, if◌then◌else◌}
use Rattle.std.specs.BTreeMap.{BTreeMap, get}
use Rattle.std.specs.Global.{Global}
use Rattle.std.specs.List.{flat_map, list_any}
use Rattle.cdi_model.specs.Bytes.{byte_order}
use Rattle.cdi_model.specs.declared.decl.Decl.{Decl}
use Rattle.cdi_model.specs.declared.decl.Decl.TheVariants as decls
use Rattle.cdi_model.specs.declared.decl.PointDecl.{PointDecl}
use Rattle.cdi_match.specs.Chain.{has}
use Rattle.cdi_effective.specs.BeanText.{text_of_id}
use Rattle.cdi_intercept.specs.Chains.{is_enabled}
use Rattle.cdi_observe.specs.Around.{names_of_bean}
use Rattle.cdi_validate.specs.Circles.{managed_id}
use Rattle.cdi_validate.specs.Needed.{numbers_of, Numbers}

-- numbers of beans, by the names of interceptors
abbrev pub ByInterceptor : Type 0
ByInterceptor = BTreeMap (List ℕ) (Vec ℕ Global)

abbrev pub numbers_in : Option (Vec ℕ Global) → List ℕ
numbers_in None = []
numbers_in (Some numbers) = numbers.items

-- those of an interceptor
abbrev pub numbers_at : ByInterceptor → List ℕ → List ℕ
numbers_at by_interceptor name = numbers_in (get byte_order by_interceptor name)

-- the number of the managed bean of a declaration, where it has one and an interceptor of the name is around a place of it
abbrev pub number_around : Numbers → List Decl → List ℕ → Decl → List ℕ
number_around numbers ds name (decls.Bean d) =
    if has (names_of_bean ds d) name then numbers_of numbers (text_of_id (managed_id d) ∷ []) else []
number_around numbers ds name d = []

-- each interceptor has the numbers of the beans around a place of which it is, in the order of their declarations
abbrev pub AreByInterceptor : Numbers → List Decl → ByInterceptor → Type 0
AreByInterceptor numbers ds by_interceptor = (name : List ℕ) → numbers_at by_interceptor name ≡ flat_map (number_around numbers ds name) ds

abbrev pub are_some : List PointDecl → Bool
are_some [] = false
are_some (p ∷ points) = true

-- a declaration is that of an interceptor which is enabled and has points
abbrev pub gives_needs : Decl → Bool
gives_needs (decls.Interceptor i) = is_enabled i && are_some i.points
gives_needs d = false

abbrev pub give_needs : List Decl → Bool
give_needs ds = list_any gives_needs ds
