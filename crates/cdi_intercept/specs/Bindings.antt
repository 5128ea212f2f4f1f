-- The bindings at a place of the bean of a class, each once, in order.
use Rattle.std.specs.Prelude.{◌≡◌, ℕ, List, [], Option, Some, None, if◌then◌else◌, Result, Ok, Err}
use Rattle.cdi_model.specs.declared.decl.BeanDecl.{BeanDecl}
use Rattle.cdi_model.specs.declared.decl.Decl.{Decl}
use Rattle.cdi_model.specs.declared.place.BeanPlace.{BeanPlace}
use Rattle.cdi_model.specs.declared.quals.Qual.{Qual}
use Rattle.cdi_model.specs.declared.refusal.Refusal.{Refusal}
use Rattle.cdi_model.specs.declared.refusal.Refusal.TheVariants as refusals
use Rattle.cdi_effective.specs.Bindings.{class_bindings}
use Rattle.cdi_effective.specs.Disposers.{find_bean}
use Rattle.cdi_intercept.specs.Sets.{has_place, set_by}
unfoldable pub use Rattle.cdi_effective.specs.TextOrder.{in_text_order}
pub use Rattle.cdi_effective.specs.TextOrder.{with_use, each_once, is_before_in_text, TextsTellApart, AreInTextOrder}

-- ---- the bindings of a class and a place

-- those at a place of a bean, if there is one: none where it has no such place
abbrev pub set_of : List Decl → Option BeanDecl → BeanPlace → List Qual
set_of ds None place = []
set_of ds (Some bean) place = set_by ds (class_bindings ds bean) bean place

-- those at a place of the bean of a class: none where it is not declared
abbrev pub set_at : List Decl → List ℕ → BeanPlace → List Qual
set_at ds class place = set_of ds (find_bean class ds) place

-- what is told of them
abbrev pub bindings_told : List Decl → Option BeanDecl → BeanPlace → Result (List Qual) Refusal
bindings_told ds None place = Err refusals.UnknownName
bindings_told ds (Some bean) place =
    if has_place bean place
    then Ok (in_text_order (set_by ds (class_bindings ds bean) bean place))
    else Err refusals.NoMethod

-- the bindings at a place of the bean of a class, each once, in the byte order of their texts, where it is declared and has the place
abbrev pub bindings_at : List Decl → List ℕ → BeanPlace → Result (List Qual) Refusal
bindings_at ds class place = bindings_told ds (find_bean class ds) place

-- What is told of a place are the bindings there, in order.
abbrev pub BindingsAreThose : Type 0
BindingsAreThose = (ds : List Decl) (class : List ℕ) (place : BeanPlace) (list : List Qual)
    → bindings_at ds class place ≡ Ok list → AreInTextOrder list (set_at ds class place)
