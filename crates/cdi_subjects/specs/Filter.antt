-- Subjects among what a declaration names: each code of faults looks at one mention after another.
use Rattle.std.specs.Prelude.{ℕ, Bool, ◌&&◌, List, Option, Some, None, if◌then◌else◌}
use Rattle.std.specs.List.{list_any, flat_map}
use Rattle.std.specs.Option.{option_eq, option_to_list}
use Rattle.std.specs.Str.{bytes_eq}
use Rattle.cdi_model.specs.declared.decl.Decl.{Decl}
use Rattle.cdi_model.specs.declared.decl.Decl.TheVariants as decls
use Rattle.cdi_model.specs.declared.mention.PointPlace.{PointPlace}
use Rattle.cdi_model.specs.declared.mention.PointPlace.TheVariants as points
use Rattle.cdi_model.specs.declared.place.PartPlace.{PartPlace}
use Rattle.cdi_model.specs.declared.place.PartPlace.TheVariants as parts
use Rattle.cdi_model.specs.Mentions.{Mention, mentions}
use Rattle.cdi_effective.specs.declared.records.Effective.{Effective}
use Rattle.cdi_intercept.specs.Chains.{is_enabled}
use Rattle.cdi_faults.specs.declared.fault.Subject.{Subject}

-- the subject, where it is at fault
abbrev pub some_if : Bool → Subject → Option Subject
some_if at_fault subject = if at_fault then Some subject else None

-- what is at fault of some mentions
abbrev pub found_in : (Mention → Option Subject) → List Mention → List Subject
found_in fault_in ms = flat_map (λ mention. option_to_list (fault_in mention)) ms

-- what is at fault of that which a declaration names
abbrev pub subjects_in : (Mention → Option Subject) → Decl → List Subject
subjects_in fault_in d = found_in fault_in (mentions d)

-- ---- to which bean of a declaration a place belongs: to the product of a producer method, or to the managed bean

abbrev pub producer_of_point : PointPlace → Option (List ℕ)
producer_of_point (points.Producer name) = Some name
producer_of_point _ = None

abbrev pub producer_of_part : PartPlace → Option (List ℕ)
producer_of_part (parts.Producer name) = Some name
producer_of_part (parts.StaticProducer name) = Some name
producer_of_part _ = None

-- one of these beans, which is told so by its producer method, is enabled
abbrev pub has_enabled : List Effective → Option (List ℕ) → Bool
has_enabled bs producer = list_any (λ b. option_eq bytes_eq b.id.producer producer && b.is_enabled) bs

-- the bean, or the interceptor, is enabled, where these are the beans of the declaration
abbrev pub is_enabled_in : Decl → List Effective → Option (List ℕ) → Bool
is_enabled_in (decls.Interceptor i) bs producer = is_enabled i
is_enabled_in d bs producer = has_enabled bs producer
