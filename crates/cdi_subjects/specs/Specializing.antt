-- What is at fault of a bean that specializes another (CDI 4.0, Specialization; Direct and indirect specialization).
use Rattle.std.specs.Prelude.{ℕ, Bool, false, not, ◌&&◌, List, [], map, filter, Option, Some, None, is_some, option_map}
use Rattle.cdi_model.specs.declared.decl.BeanDecl.{BeanDecl}
use Rattle.cdi_model.specs.declared.decl.Decl.{Decl}
use Rattle.cdi_model.specs.declared.decl.Decl.TheVariants as decls
use Rattle.cdi_match.specs.Chain.{has}
use Rattle.cdi_effective.specs.Beans.{managed}
use Rattle.cdi_effective.specs.Specialized.{specialized}
use Rattle.cdi_effective.specs.declared.records.Effective.{Effective}
use Rattle.cdi_faults.specs.declared.fault.Subject.{Subject}
use Rattle.cdi_faults.specs.declared.fault.Subject.TheVariants as subjects

-- a bean that says that it specializes another
abbrev pub is_specializing : Decl → Bool
is_specializing (decls.Bean d) = d.specializes
is_specializing d = false

-- the record of the bean that a bean specializes, if there is one
abbrev pub specialized_bean : List Decl → BeanDecl → Option Effective
specialized_bean ds d = option_map (managed ds) (specialized ds d)

-- ---- beans that say so, and whose class extends none that has a bean

abbrev pub lacks_specialized : List Decl → Decl → Bool
lacks_specialized ds (decls.Bean d) = d.specializes && not (is_some (specialized ds d))
lacks_specialized ds d = false

-- ---- types of the specialized bean that the bean itself does not have

-- those of a bean that are not among these
abbrev pub types_beyond : List (List ℕ) → Option Effective → List Subject
types_beyond types None = []
types_beyond types (Some b) = map subjects.Type (filter (λ t. not (has types t)) b.types)

abbrev pub lacked_types : List Decl → Decl → List Subject
lacked_types ds (decls.Bean d) = types_beyond (managed ds d).types (specialized_bean ds d)
lacked_types ds d = []

-- ---- beans that give themselves a name, where the specialized bean has one

abbrev pub has_name : Option Effective → Bool
has_name None = false
has_name (Some b) = is_some b.name

abbrev pub renames_specialized : List Decl → Decl → Bool
renames_specialized ds (decls.Bean d) = is_some d.attributes.named && has_name (specialized_bean ds d)
renames_specialized ds d = false
