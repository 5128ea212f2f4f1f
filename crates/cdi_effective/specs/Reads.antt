-- What the records of a bean declaration rest on.
use Rattle.std.specs.Prelude.{ℕ, List, [], ◌∷◌, ◌++◌, map, Option, Some, None, if◌then◌else◌}
use Rattle.std.specs.List.{flat_map}
use Rattle.cdi_model.specs.declared.decl.BeanDecl.{BeanDecl}
use Rattle.cdi_model.specs.declared.decl.Decl.{Decl}
use Rattle.cdi_model.specs.declared.decl.Kind.TheVariants as kinds
use Rattle.cdi_model.specs.declared.key.DeclKey.{DeclKey}
use Rattle.cdi_model.specs.declared.decl.ProducerDecl.{ProducerDecl}
use Rattle.cdi_model.specs.DeclKey.{key_at}
use Rattle.cdi_model.specs.DeclList.{find_decl}
use Rattle.cdi_match.specs.Locality.{binding_reads, type_reads, stereotype_reads}
use Rattle.cdi_match.specs.Stereotypes.{stereotype_decls}
use Rattle.cdi_effective.specs.Beans.{records}
use Rattle.cdi_effective.specs.Bindings.{stereotype_bindings}
use Rattle.cdi_effective.specs.Specialized.{extended, behind}
use Rattle.cdi_effective.specs.declared.records.Effective.{Effective}

-- a bean of this type that declares these stereotypes rests on the types that it has, and on its stereotypes
abbrev pub bean_reads : List Decl → List ℕ → List (List ℕ) → List DeclKey
bean_reads ds t stereotypes = type_reads ds t ++ stereotype_reads ds stereotypes

-- the bindings of its class rest on the binding types that its own bring, and on those that the bindings of its stereotypes bring
abbrev pub class_reads : List Decl → BeanDecl → List DeclKey
class_reads ds bean = binding_reads ds bean.bindings
    ++ binding_reads ds (stereotype_bindings (stereotype_decls ds bean.attributes.stereotypes))

abbrev pub bean_keys : Option (List ℕ) → List DeclKey
bean_keys None = []
bean_keys (Some class) = key_at kinds.Bean class ∷ []

-- where a bean says that it specializes, the bean of the class that its class extends, whether there is one or not
abbrev pub specialized_reads : List Decl → BeanDecl → List DeclKey
specialized_reads ds bean = if bean.specializes then bean_keys (extended (find_decl kinds.Type bean.name ds)) else []

-- a bean of a chain rests on itself, its class, its stereotypes, and the bean that it specializes
abbrev pub link_reads : List Decl → BeanDecl → List DeclKey
link_reads ds bean =
    key_at kinds.Bean bean.name
    ∷ key_at kinds.Type bean.name
    ∷ specialized_reads ds bean
    ++ stereotype_reads ds bean.attributes.stereotypes

-- what a bean gets by its chain rests on the bean that it specializes, and on those after it
abbrev pub chain_reads : List Decl → BeanDecl → List DeclKey
chain_reads ds bean = specialized_reads ds bean ++ flat_map (link_reads ds) (behind ds bean)

abbrev pub product_reads : List Decl → List ProducerDecl → List DeclKey
product_reads ds producers = flat_map (λ p. bean_reads ds p.product_type p.attributes.stereotypes) producers

-- the records of a bean declaration: itself, and what its managed bean and its products rest on
abbrev pub record_reads : List Decl → BeanDecl → List DeclKey
record_reads ds bean =
    key_at kinds.Bean bean.name
    ∷ bean_reads ds bean.name bean.attributes.stereotypes
    ++ class_reads ds bean
    ++ product_reads ds bean.producers
    ++ chain_reads ds bean

-- Apart from these, the qualifiers that some beans have: by their declarations the members of a use are filled.
abbrev pub qualifier_reads : List Effective → List DeclKey
qualifier_reads records = flat_map (λ r. map (λ u. key_at kinds.Qualifier u.name) r.qualifiers) records

-- all that the beans of a declaration rest on
abbrev pub reads : List Decl → BeanDecl → List DeclKey
reads ds bean = record_reads ds bean ++ qualifier_reads (records ds bean)
