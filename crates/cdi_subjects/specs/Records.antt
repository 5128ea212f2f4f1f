-- What is at fault of a declaration, by its records: that of a bean, and behind it those of its producer methods.
use Rattle.std.specs.Prelude.{Bool, true, false, List, [], ◌∷◌, ◌++◌, map, filter, length, nat_lt, not, if◌then◌else◌}
use Rattle.std.specs.List.{flat_map, list_any, zip}
use Rattle.std.specs.Option.{option_to_list}
use Rattle.cdi_model.specs.declared.decl.Attributes.{Attributes}
use Rattle.cdi_model.specs.declared.decl.BeanDecl.{BeanDecl}
use Rattle.cdi_model.specs.declared.decl.Decl.{Decl}
use Rattle.cdi_model.specs.declared.decl.Decl.TheVariants as decls
use Rattle.cdi_model.specs.declared.decl.DisposerDecl.{DisposerDecl}
use Rattle.cdi_model.specs.declared.decl.ProducerDecl.{ProducerDecl}
use Rattle.cdi_model.specs.declared.decl.Scope.{Scope}
use Rattle.cdi_model.specs.declared.decl.Scope.TheVariants as scopes
use Rattle.cdi_model.specs.declared.place.BeanPlace.{BeanPlace}
use Rattle.cdi_model.specs.declared.place.BeanPlace.TheVariants as spots
use Rattle.cdi_model.specs.declared.quals.Qual.{Qual}
use Rattle.cdi_match.specs.Chain.{has}
use Rattle.cdi_effective.specs.Disposers.{disposes}
use Rattle.cdi_effective.specs.declared.records.Effective.{Effective}
use Rattle.cdi_intercept.specs.Conflicts.{has_conflict}
use Rattle.cdi_intercept.specs.Sets.{set_by}
use Rattle.cdi_model.specs.declared.place.PartPlace.TheVariants as places
use Rattle.cdi_faults.specs.declared.fault.Subject.{Subject}
use Rattle.cdi_faults.specs.declared.fault.Subject.TheVariants as subjects
use Rattle.cdi_model.specs.Mentions.{listed_types}
use Rattle.cdi_subjects.specs.Specializing.{specialized_bean, types_beyond}

-- ---- listed types

-- the listed types that a record does not have
abbrev pub not_had : Effective → Attributes → List Subject
not_had b attributes = map (subjects.Typed b.id.producer) (filter (λ s. not (has b.types s)) (listed_types attributes))

-- those of each record of a producer method
abbrev pub not_had_by : List Effective → List ProducerDecl → List Subject
not_had_by bs ps = flat_map (λ z. not_had z.0 z.1.attributes) (zip bs ps)

-- those of each record of a declaration
abbrev pub typed_by : Decl → List Effective → List Subject
typed_by (decls.Bean d) (b ∷ bs) = not_had b d.attributes ++ not_had_by bs d.producers
typed_by _ _ = []

-- ---- disposer methods and products

-- the disposer methods that match none of some products
abbrev pub without_product : List Decl → List Effective → List DisposerDecl → List Subject
without_product ds bs disposers = map (λ s. subjects.Disposer s.name) (filter (λ s. not (list_any (λ p. disposes ds p s) bs)) disposers)

-- the producer methods whose products two of some disposer methods match
abbrev pub with_two : List Decl → List Effective → List DisposerDecl → List Subject
with_two ds bs disposers = map subjects.Producer
    (flat_map (λ b. option_to_list b.id.producer) (filter (λ b. nat_lt 1 (length (filter (disposes ds b) disposers))) bs))

-- ---- types of a specialized bean

-- those that the record of the bean that specializes it does not have
abbrev pub lacked_by : List Decl → Decl → List Effective → List Subject
lacked_by ds (decls.Bean d) (b ∷ bs) = types_beyond b.types (specialized_bean ds d)
lacked_by ds _ _ = []

-- ---- conditional observer methods

abbrev pub is_dependent : Scope → Bool
is_dependent scopes.Dependent = true
is_dependent other = false

abbrev pub conditional_of : BeanDecl → Effective → List Subject
conditional_of bean b =
    if is_dependent b.scope then map (λ o. subjects.Observer o.name) (filter (λ o. o.is_conditional) bean.observers) else []

-- the same by the record of its managed bean
abbrev pub conditional_by : Decl → List Effective → List Subject
conditional_by (decls.Bean d) (b ∷ bs) = conditional_of d b
conditional_by _ _ = []

-- ---- bindings

-- the part of a bean at a place: its class at the constructor and the callbacks
abbrev pub part_at : BeanPlace → Subject
part_at (spots.Method name) = subjects.Part (places.Method name)
part_at (spots.Producer name) = subjects.Part (places.Producer name)
part_at (spots.Observer name) = subjects.Part (places.Observer name)
part_at _ = subjects.Class

-- where two bindings of one type at a place of a bean whose class has these differ
abbrev pub conflict_at : List Decl → List Qual → BeanDecl → BeanPlace → List Subject
conflict_at ds class d place = if has_conflict ds (set_by ds class d place) then part_at place ∷ [] else []

-- the producer methods that are not static
abbrev pub conflicts_at_producers : List Decl → List Qual → BeanDecl → List Subject
conflicts_at_producers ds class d =
    flat_map (λ p. conflict_at ds class d (spots.Producer p.name)) (filter (λ p. not p.is_static) d.producers)

-- the class, and the places with bindings of their own
abbrev pub conflicts_in : List Decl → List Qual → BeanDecl → List Subject
conflicts_in ds class d =
    conflict_at ds class d spots.Construct
    ++ flat_map (λ m. conflict_at ds class d (spots.Method m.name)) d.methods
    ++ conflicts_at_producers ds class d
    ++ flat_map (λ o. conflict_at ds class d (spots.Observer o.name)) d.observers

-- the same by the record of its managed bean
abbrev pub conflicts_by : List Decl → Decl → List Effective → List Subject
conflicts_by ds (decls.Bean d) (b ∷ bs) = conflicts_in ds b.bindings d
conflicts_by ds _ _ = []
