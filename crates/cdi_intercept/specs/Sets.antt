-- The bindings at a place of a bean (Interceptors 2.1, Binding an Interceptor to a Class; Binding an Interceptor to a Method).
use Rattle.std.specs.Prelude.{ℕ, Bool, not, ◌&&◌, List, [], ◌∷◌, ◌++◌, map, filter, Option, Some, None, is_some, option_map}
use Rattle.std.specs.List.{find}
use Rattle.std.specs.Str.{bytes_eq}
use Rattle.cdi_model.specs.declared.decl.BeanDecl.{BeanDecl}
use Rattle.cdi_model.specs.declared.decl.Decl.{Decl}
use Rattle.cdi_model.specs.declared.place.BeanPlace.{BeanPlace}
use Rattle.cdi_model.specs.declared.place.BeanPlace.TheVariants as places
use Rattle.cdi_model.specs.declared.quals.Qual.{Qual}
use Rattle.cdi_match.specs.Bindings.{with_brought}
use Rattle.cdi_effective.specs.Bindings.{in_place_of}

-- the bindings that the business method of a name declares, if the bean has it
abbrev pub of_method : BeanDecl → List ℕ → Option (List Qual)
of_method bean name = option_map (λ m. m.bindings) (find (λ m. bytes_eq m.name name) bean.methods)

-- those of the producer method of a name, if the bean has it and it is not static
abbrev pub of_producer : BeanDecl → List ℕ → Option (List Qual)
of_producer bean name = option_map (λ p. p.bindings) (find (λ p. bytes_eq p.name name && not p.is_static) bean.producers)

-- those of the observer method of a name, if the bean has it
abbrev pub of_observer : BeanDecl → List ℕ → Option (List Qual)
of_observer bean name = option_map (λ o. o.bindings) (find (λ o. bytes_eq o.name name) bean.observers)

-- those that a method declares, with what they bring, in the place of those of its class that are of their types (profile); none
-- where the bean has no such method
abbrev pub around_method : List Decl → List Qual → Option (List Qual) → List Qual
around_method ds class None = []
around_method ds class (Some own) = in_place_of class (with_brought ds own)

-- the bindings at a place of a bean whose class has these: those of the class alone at its constructor (profile) and its callbacks
abbrev pub set_by : List Decl → List Qual → BeanDecl → BeanPlace → List Qual
set_by ds class bean places.Construct = class
set_by ds class bean places.Post = class
set_by ds class bean places.Pre = class
set_by ds class bean (places.Method name) = around_method ds class (of_method bean name)
set_by ds class bean (places.Producer name) = around_method ds class (of_producer bean name)
set_by ds class bean (places.Observer name) = around_method ds class (of_observer bean name)

-- the bindings that a place declares of its own: none at the constructor and the callbacks
abbrev pub own_at : BeanDecl → BeanPlace → Option (List Qual)
own_at bean places.Construct = Some []
own_at bean places.Post = Some []
own_at bean places.Pre = Some []
own_at bean (places.Method name) = of_method bean name
own_at bean (places.Producer name) = of_producer bean name
own_at bean (places.Observer name) = of_observer bean name

-- whether a bean has the place: each has a constructor and callbacks
abbrev pub has_place : BeanDecl → BeanPlace → Bool
has_place bean place = is_some (own_at bean place)

-- the places with bindings of their own: the methods, the producer methods that are not static, and the observer methods
abbrev pub methods_of : BeanDecl → List BeanPlace
methods_of bean = map (λ m. places.Method m.name) bean.methods

abbrev pub producers_of : BeanDecl → List BeanPlace
producers_of bean = map (λ p. places.Producer p.name) (filter (λ p. not p.is_static) bean.producers)

abbrev pub observers_of : BeanDecl → List BeanPlace
observers_of bean = map (λ o. places.Observer o.name) bean.observers

abbrev pub own_places : BeanDecl → List BeanPlace
own_places bean = methods_of bean ++ producers_of bean ++ observers_of bean

-- the places of a bean
abbrev pub places_of : BeanDecl → List BeanPlace
places_of bean = places.Construct ∷ places.Post ∷ places.Pre ∷ own_places bean

-- a place, with the bindings there
abbrev pub with_set : List Decl → List Qual → BeanDecl → BeanPlace → BeanPlace × List Qual
with_set ds class bean place = (place, set_by ds class bean place)

abbrev pub sets_of : List Decl → List Qual → BeanDecl → List (BeanPlace × List Qual)
sets_of ds class bean = map (with_set ds class bean) (places_of bean)
