-- Injection points for which no class can stand between the bean and its callers (CDI 4.0, Unproxyable bean types).
use Rattle.std.specs.Prelude.{ℕ, Bool, true, false, not, ◌||◌, ◌&&◌, List, length, nat_eq, Option, Some, None, is_some}
use Rattle.std.specs.List.{find}
use Rattle.std.specs.Option.{option_eq}
use Rattle.std.specs.Str.{bytes_eq}
use Rattle.cdi_model.specs.DeclList.{find_decl}
use Rattle.cdi_model.specs.declared.decl.BeanDecl.{BeanDecl}
use Rattle.cdi_model.specs.declared.decl.Decl.{Decl}
use Rattle.cdi_model.specs.declared.decl.Decl.TheVariants as decls
use Rattle.cdi_model.specs.declared.decl.Form.{Form}
use Rattle.cdi_model.specs.declared.decl.Form.TheVariants.{Class, Interface}
use Rattle.cdi_model.specs.declared.decl.Kind.TheVariants as kinds
use Rattle.cdi_model.specs.declared.decl.PointDecl.{PointDecl}
use Rattle.cdi_model.specs.declared.decl.Scope.{Scope}
use Rattle.cdi_model.specs.declared.decl.Scope.TheVariants as scopes
use Rattle.cdi_model.specs.declared.quals.Qual.{Qual}
use Rattle.cdi_effective.specs.Beans.{records}
use Rattle.cdi_effective.specs.Disposers.{find_bean}
use Rattle.cdi_effective.specs.declared.records.BeanId.{BeanId}
use Rattle.cdi_effective.specs.declared.records.Effective.{Effective}
use Rattle.cdi_intercept.specs.Chains.{around_any}
use Rattle.cdi_resolve.specs.declared.choice.Choice.{Choice}
use Rattle.cdi_resolve.specs.declared.choice.Choice.TheVariants.{One}

abbrev pub is_class : Form → Bool
is_class Class = true
is_class Interface = false

-- a declared class that may have no subclass
abbrev pub is_final_decl : Option Decl → Bool
is_final_decl (Some (decls.Type d)) = is_class d.form && d.is_final
is_final_decl other = false

abbrev pub is_final : List Decl → List ℕ → Bool
is_final ds t = is_final_decl (find_decl kinds.Type t ds)

-- a client proxy stands for the instances of a bean of a normal scope (CDI 4.0, Normal scopes and pseudo-scopes)
abbrev pub is_normal : Scope → Bool
is_normal scopes.Dependent = false
is_normal other = true

-- an interceptor stands around some place of a bean whose class has these bindings
abbrev pub is_intercepted : List Decl → List Qual → BeanDecl → Bool
is_intercepted ds class bean = not (nat_eq (length (around_any ds class bean)) 0)

-- a client proxy stands for its instances, or it is a managed bean with interceptors
abbrev pub needs_subclass_by : List Decl → BeanDecl → Effective → Bool
needs_subclass_by ds bean b = is_normal b.scope || (not (is_some b.id.producer) && is_intercepted ds b.bindings bean)

abbrev pub needs_subclass_as : List Decl → BeanDecl → Option Effective → Bool
needs_subclass_as ds bean None = false
needs_subclass_as ds bean (Some b) = needs_subclass_by ds bean b

-- of the records of one bean declaration it is that of the product of a producer method, or of the managed bean
abbrev pub is_told_by : Option (List ℕ) → Effective → Bool
is_told_by producer b = option_eq bytes_eq b.id.producer producer

abbrev pub needs_subclass_of : List Decl → BeanId → Option BeanDecl → Bool
needs_subclass_of ds id None = false
needs_subclass_of ds id (Some bean) = needs_subclass_as ds bean (find (is_told_by id.producer) (records ds bean))

abbrev pub needs_subclass : List Decl → BeanId → Bool
needs_subclass ds id = needs_subclass_of ds id (find_bean id.class ds)

-- one bean is chosen, and its instances need a subclass that the required type does not let be
abbrev pub is_unproxyable : List Decl → PointDecl → Choice → Bool
is_unproxyable ds point (One id) = is_final ds point.required_type && needs_subclass ds id
is_unproxyable ds point _ = false
