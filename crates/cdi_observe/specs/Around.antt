-- The interceptors around a bean, by name.
use Rattle.std.specs.Prelude.{ℕ, List, flat_map}
use Rattle.cdi_model.specs.declared.decl.BeanDecl.{BeanDecl}
use Rattle.cdi_model.specs.declared.decl.Decl.{Decl}
use Rattle.cdi_model.specs.declared.place.BeanPlace.{BeanPlace}
use Rattle.cdi_effective.specs.Bindings.{class_bindings}
use Rattle.cdi_intercept.specs.Sees.{names_around}
use Rattle.cdi_intercept.specs.Sets.{places_of, set_by}

-- those around a place of it, in order
abbrev pub names_at : List Decl → BeanDecl → BeanPlace → List (List ℕ)
names_at ds bean place = names_around ds (set_by ds (class_bindings ds bean) bean place) place

-- those around all of its places, in the order of the places
unfoldable pub names_of_bean : List Decl → BeanDecl → List (List ℕ)
names_of_bean ds bean = flat_map (names_at ds bean) (places_of bean)
