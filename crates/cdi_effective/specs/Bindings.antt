-- The bindings of the class of a bean (Interceptors 2.1, Binding an Interceptor to a Class; CDI 4.0, Interceptor bindings for stereotypes).
use Rattle.std.specs.Prelude.{not, List, ◌++◌, filter, flat_map}
use Rattle.cdi_model.specs.declared.decl.BeanDecl.{BeanDecl}
use Rattle.cdi_model.specs.declared.decl.Decl.{Decl}
use Rattle.cdi_model.specs.declared.decl.StereotypeDecl.{StereotypeDecl}
use Rattle.cdi_model.specs.declared.quals.Qual.{Qual}
use Rattle.cdi_match.specs.Bindings.{with_brought}
use Rattle.cdi_match.specs.Stereotypes.{stereotype_decls}
use Rattle.cdi_effective.specs.Qualifiers.{uses_one}

-- some uses in the place of those of others that are of one of their types
abbrev pub in_place_of : List Qual → List Qual → List Qual
in_place_of others own = own ++ filter (λ u. not (uses_one own u.name)) others

-- the bindings that some stereotypes declare
abbrev pub stereotype_bindings : List StereotypeDecl → List Qual
stereotype_bindings stereotypes = flat_map (λ s. s.bindings) stereotypes

-- those that its declaration declares, with what they bring, and those of its stereotypes of whose types it has none (profile)
abbrev pub class_bindings : List Decl → BeanDecl → List Qual
class_bindings ds bean = in_place_of (with_brought ds (stereotype_bindings (stereotype_decls ds bean.attributes.stereotypes)))
    (with_brought ds bean.bindings)
