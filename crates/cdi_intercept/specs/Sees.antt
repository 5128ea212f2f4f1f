-- What the chain around a place rests on.
use Rattle.std.specs.Prelude.{◌≡◌, ℕ, Bool, ◌&&◌, List, map, filter, Option, is_some, Ok}
use Rattle.std.specs.List.{list_any}
use Rattle.cdi_model.specs.declared.decl.BindingDecl.{BindingDecl}
use Rattle.cdi_model.specs.declared.decl.Decl.{Decl}
use Rattle.cdi_model.specs.declared.decl.InterceptorDecl.{InterceptorDecl}
use Rattle.cdi_model.specs.declared.decl.UseKind.TheVariants as use_kinds
use Rattle.cdi_model.specs.declared.place.BeanPlace.{BeanPlace}
use Rattle.cdi_model.specs.declared.quals.Qual.{Qual}
use Rattle.cdi_match.specs.Filled.{FilledUse, filled}
use Rattle.cdi_match.specs.Filling.{find_binding}
use Rattle.cdi_effective.specs.Qualifiers.{uses_one}
use Rattle.cdi_intercept.specs.Bindings.{in_text_order, set_at}
use Rattle.cdi_intercept.specs.Chains.{chain_by, chain_of, in_order, part_for}

pub record SeenInterceptor : Type 0 where
  pub name : List ℕ
  pub bindings : List FilledUse

abbrev pub seen_interceptor : List Decl → InterceptorDecl → SeenInterceptor
seen_interceptor ds i = record { name = i.name; bindings = map (filled ds use_kinds.Binding) i.bindings }

-- it declares a binding of a type of which one of these is
abbrev pub shares_type : List Qual → InterceptorDecl → Bool
shares_type set i = list_any (λ u. uses_one set u.name) i.bindings

-- the chain at a place with these bindings sees it: it has a body for the place, and shares a binding type
abbrev pub is_seen : List Qual → BeanPlace → InterceptorDecl → Bool
is_seen set place i = is_some (part_for place i) && shares_type set i

-- bindings, as they are written; the declarations of their types; and in the order in which they are called the interceptors that
-- are enabled, have a body for the place and share a binding type with these, with their filled bindings
pub record Seen : Type 0 where
  pub bindings : List Qual
  pub declared : List (Option BindingDecl)
  pub interceptors : List SeenInterceptor

-- what is seen of a place with these bindings
abbrev pub sees_by : List Decl → List Qual → BeanPlace → Seen
sees_by ds list place = record {
  bindings = list;
  declared = map (λ u. find_binding u.name ds) list;
  interceptors = map (seen_interceptor ds) (filter (is_seen list place) (in_order ds));
}

-- the chain around the place sees its bindings each once, in the byte order of their texts
abbrev pub sees : List Decl → List Qual → BeanPlace → Seen
sees ds set place = sees_by ds (in_text_order set) place

-- the names of the interceptors around a place with these bindings
abbrev pub names_around : List Decl → List Qual → BeanPlace → List (List ℕ)
names_around ds set place = map (λ i. i.name) (chain_by ds set place)

-- where the same is seen, the chain is the same
abbrev pub ChainRestsOnSeen : Type 0
ChainRestsOnSeen = (ds es : List Decl) (set others : List Qual) (place : BeanPlace)
    → sees ds set place ≡ sees es others place → names_around ds set place ≡ names_around es others place

-- what the chain around a place of the bean of a class sees: where there is no such place, it has no bindings
abbrev pub sees_at : List Decl → List ℕ → BeanPlace → Seen
sees_at ds class place = sees ds (set_at ds class place) place

-- where the same is seen of a place of a bean, and the chain is told, the same is told
abbrev pub ToldRestsOnSeen : Type 0
ToldRestsOnSeen = (ds es : List Decl) (class : List ℕ) (place : BeanPlace) (names others : List (List ℕ))
    → sees_at ds class place ≡ sees_at es class place
    → chain_of ds class place ≡ Ok names → chain_of es class place ≡ Ok others
    → names ≡ others
