-- What the chains of a class see before edits and after them.
use Rattle.std.specs.Prelude.{◌≡◌, ◌&&◌, ℕ, Bool, true, false, List, [], filter, Option, Some, None, option_map}
use Rattle.std.specs.Cmp.Lexicographic.{pointwise}
use Rattle.cdi_model.specs.SameUse.{same_qual}
use Rattle.cdi_model.specs.declared.decl.Decl.{Decl}
use Rattle.cdi_model.specs.declared.place.BeanPlace.{BeanPlace}
use Rattle.cdi_model.specs.declared.place.BeanPlace.TheVariants as places
use Rattle.cdi_model.specs.declared.quals.Qual.{Qual}
use Rattle.cdi_effective.specs.Disposers.{find_bean}
use Rattle.cdi_intercept.specs.Bindings.{in_text_order, set_at}
use Rattle.cdi_intercept.specs.Chains.{in_order}
use Rattle.cdi_intercept.specs.Sees.{is_seen}
use Rattle.cdi_intercept.specs.Sets.{set_by}
use Rattle.cdi_seen.specs.Touched.{interceptors_alike, types_alike}
use Rattle.cdi_live.specs.declared.chain_compare.BoundBean.{BoundBean}
use Rattle.cdi_live.specs.declared.chain_compare.BeanSides.{BeanSides}

-- the bindings at a place of a bean that is lent with those of its class
abbrev pub set_bound : List Decl → Option BoundBean → BeanPlace → List Qual
set_bound ds None place = []
set_bound ds (Some b) place = set_by ds b.class.now b.bean.now place

-- the bindings at the place are those of the class of any bean
abbrev pub is_of_class : BeanPlace → Bool
is_of_class places.Construct = true
is_of_class places.Post = true
is_of_class places.Pre = true
is_of_class other = false

-- The bean of a class is lent, if it is declared.
pub record IsBound (ds : List Decl) (class : List ℕ) (bound : Option BoundBean) : Type 0 where
  pub bean : option_map (λ b. b.bean.now) bound ≡ find_bean class ds
  pub sets : (place : BeanPlace) → set_bound ds bound place ≡ set_at ds class place

-- the bindings at a place of a bean are the same before edits and after them, and declared alike
abbrev pub are_same_bindings : List Decl → List Decl → Option BoundBean → Option BoundBean → BeanPlace → Bool
are_same_bindings ds es before after place =
    let us : List Qual = in_text_order (set_bound ds before place) in
    let vs : List Qual = in_text_order (set_bound es after place) in
    pointwise same_qual us vs && types_alike ds us es vs

-- It is before edits and after them, and whether the bindings of its class are the same is told.
pub record AreBound (ds es : List Decl) (class : List ℕ) (both : BeanSides) : Type 0 where
  pub before : IsBound ds class both.before
  pub after : IsBound es class both.after
  pub same : both.is_same_class ≡ are_same_bindings ds es both.before both.after places.Construct

-- a place with some bindings sees the same interceptors before edits and after them
abbrev pub see_same_interceptors : List Decl → List Decl → List Qual → BeanPlace → Bool
see_same_interceptors ds es us place =
    interceptors_alike ds (filter (is_seen us place) (in_order ds)) es (filter (is_seen us place) (in_order es))
