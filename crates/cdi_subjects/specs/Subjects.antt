-- The parts of a declaration that have a fault (CDI 4.0, Problems detected automatically by the container), for each code.
use Rattle.std.specs.Prelude.{ℕ, nat_eq, nat_lt, Bool, true, false, not, ◌&&◌, ◌||◌, List, [], ◌∷◌, ◌++◌}
use Rattle.std.specs.Prelude.{map, filter, length, codes, Option, Some, None, is_some, option_map, unwrap_or, if◌then◌else◌}
use Rattle.std.specs.List.{list_any, flat_map}
use Rattle.std.specs.Str.{bytes_eq}
use Rattle.cdi_bodies.specs.Book.{Promised}
use Rattle.cdi_model.specs.DeclList.{find_decl}
use Rattle.cdi_model.specs.declared.decl.Attributes.{Attributes}
use Rattle.cdi_model.specs.declared.decl.BeanDecl.{BeanDecl}
use Rattle.cdi_model.specs.declared.decl.Decl.{Decl}
use Rattle.cdi_model.specs.declared.decl.Decl.TheVariants as decls
use Rattle.cdi_model.specs.declared.decl.Form.{Form}
use Rattle.cdi_model.specs.declared.decl.Form.TheVariants.{Class, Interface}
use Rattle.cdi_model.specs.declared.decl.Kind.{Kind}
use Rattle.cdi_model.specs.declared.decl.Kind.TheVariants as kinds
use Rattle.cdi_model.specs.declared.decl.PointDecl.{PointDecl}
use Rattle.cdi_model.specs.declared.decl.UseKind.{UseKind}
use Rattle.cdi_model.specs.declared.decl.UseKind.TheVariants as uses
use Rattle.cdi_model.specs.declared.mention.TypePlace.{TypePlace}
use Rattle.cdi_model.specs.declared.mention.TypePlace.TheVariants as places
use Rattle.cdi_model.specs.Mentions.{Mention, TypeIn, UseOf, StereotypeOf, PointOf, listed_types}
use Rattle.cdi_match.specs.Bindings.{brings_itself}
use Rattle.cdi_match.specs.Chain.{has}
use Rattle.cdi_match.specs.Misuse.{is_misused}
use Rattle.cdi_match.specs.Stereotypes.{inherits_itself}
use Rattle.cdi_match.specs.Types.{extends_itself, object, types_of}
use Rattle.cdi_effective.specs.Beans.{entries, managed, product}
use Rattle.cdi_effective.specs.Disposers.{disposes}
use Rattle.cdi_effective.specs.declared.records.BeanId.{BeanId}
use Rattle.cdi_effective.specs.declared.records.Effective.{Effective}
use Rattle.cdi_effective.specs.Bindings.{class_bindings}
use Rattle.cdi_resolve.specs.declared.choice.Choice.{Choice}
use Rattle.cdi_resolve.specs.declared.choice.Choice.TheVariants.{Unsatisfied, Ambiguous}
use Rattle.cdi_observe.specs.Answers.{answer_to}
use Rattle.cdi_faults.specs.declared.fault.Code.{Code}
use Rattle.cdi_faults.specs.declared.fault.Code.TheVariants as codes_of
use Rattle.cdi_faults.specs.declared.fault.Subject.{Subject}
use Rattle.cdi_faults.specs.declared.fault.Subject.TheVariants as subjects
use Rattle.cdi_subjects.specs.declared.points.Verdict.{Verdict}
use Rattle.cdi_subjects.specs.declared.points.Verdict.TheVariants as verdicts
use Rattle.cdi_subjects.specs.Filter.{is_enabled_in, producer_of_point, some_if, subjects_in}
use Rattle.cdi_subjects.specs.Parts.{unfit_parts}
use Rattle.cdi_subjects.specs.Proxies.{is_unproxyable}
use Rattle.cdi_subjects.specs.Records.{conditional_of, conflicts_in}
use Rattle.cdi_subjects.specs.Sites.{lost_sites}
use Rattle.cdi_subjects.specs.Specializing.{lacked_types, lacks_specialized, renames_specialized}

-- ---- names that are neither declared nor built in

abbrev pub is_declared : Kind → List Decl → List ℕ → Bool
is_declared kind ds name = is_some (find_decl kind name ds)

abbrev pub is_known_type : List Decl → List ℕ → Bool
is_known_type ds t = bytes_eq t object || is_declared kinds.Type ds t

abbrev pub is_known_qualifier : List Decl → List ℕ → Bool
is_known_qualifier ds q = has (codes "Any" ∷ codes "Default" ∷ codes "Named" ∷ []) q || is_declared kinds.Qualifier ds q

-- no binding type is built in
abbrev pub is_known_use_of : List Decl → UseKind → List ℕ → Bool
is_known_use_of ds uses.Qualifier name = is_known_qualifier ds name
is_known_use_of ds uses.Binding name = is_declared kinds.Binding ds name

-- the class of a bean is to be declared, and any other type may also be built in
abbrev pub is_known_in : List Decl → TypePlace → List ℕ → Bool
is_known_in ds places.Class t = is_declared kinds.Type ds t
is_known_in ds _ t = is_known_type ds t

-- what is named in a place, where it is neither declared nor built in
abbrev pub unknown_in : List Decl → Mention → Option Subject
unknown_in ds (TypeIn place t) = some_if (not (is_known_in ds place t)) (subjects.Type t)
unknown_in ds (UseOf kind u) = some_if (not (is_known_use_of ds kind u.name)) (subjects.Used kind u.name)
unknown_in ds (StereotypeOf s) = some_if (not (is_declared kinds.Stereotype ds s)) (subjects.Stereotype s)
unknown_in ds _ = None

abbrev pub unknown_names : List Decl → Decl → List Subject
unknown_names ds d = subjects_in (unknown_in ds) d

-- where a condition holds of the whole declaration
abbrev pub whole_if : Bool → List Subject
whole_if holds = if holds then subjects.Whole ∷ [] else []

-- ---- a type, a binding type or a stereotype that reaches itself by one chain of an edge or more

abbrev pub reaches_itself : List Decl → Decl → Bool
reaches_itself ds (decls.Type d) = extends_itself ds d.name
reaches_itself ds (decls.Binding d) = brings_itself ds d.name
reaches_itself ds (decls.Stereotype d) = inherits_itself ds d.name
reaches_itself ds d = false

-- ---- types of the wrong form

abbrev pub form_of : Option Decl → Option Form
form_of (Some (decls.Type d)) = Some d.form
form_of _ = None

abbrev pub is_interface_form : Option Form → Bool
is_interface_form (Some Interface) = true
is_interface_form _ = false

abbrev pub is_class_form : Option Form → Bool
is_class_form (Some Class) = true
is_class_form _ = false

abbrev pub is_interface : List Decl → List ℕ → Bool
is_interface ds t = is_interface_form (form_of (find_decl kinds.Type t ds))

abbrev pub is_class : List Decl → List ℕ → Bool
is_class ds t = bytes_eq t object || is_class_form (form_of (find_decl kinds.Type t ds))

-- An interface extends nothing, and a class no declared interface; what is implemented is no class, and neither is the class
-- of a bean an interface.
abbrev pub bad_kind_in : List Decl → Decl → Mention → Option Subject
bad_kind_in ds d (TypeIn places.Extends t) = some_if (is_interface_form (form_of (Some d)) || is_interface ds t) (subjects.Extends t)
bad_kind_in ds d (TypeIn places.Implements t) = some_if (is_class ds t) (subjects.Implements t)
bad_kind_in ds d (TypeIn places.Class t) = some_if (is_interface ds t) subjects.Class
bad_kind_in ds d _ = None

abbrev pub bad_kinds : List Decl → Decl → List Subject
bad_kinds ds d = subjects_in (bad_kind_in ds d) d

-- ---- listed types that are not among the unrestricted ones

abbrev pub wrongly_listed : List Decl → List ℕ → Attributes → List (List ℕ)
wrongly_listed ds t attributes = filter (λ s. not (has (types_of ds t) s)) (listed_types attributes)

abbrev pub typed : List Decl → Decl → List Subject
typed ds (decls.Bean d) =
    map (λ s. subjects.Typed None s) (wrongly_listed ds d.name d.attributes)
    ++ flat_map (λ p. map (λ s. subjects.Typed (Some p.name) s) (wrongly_listed ds p.product_type p.attributes)) d.producers
typed ds d = []

-- ---- stereotypes that give two different default scopes to what declares none

-- the part of a declaration that a bean is: the whole of it a managed bean, and a producer method its product
abbrev pub part_of : BeanId → Subject
part_of id = unwrap_or (option_map subjects.Producer id.producer) subjects.Whole

-- the parts that the beans of a declaration are that have such stereotypes
abbrev pub scope_conflicts : List Effective → List Subject
scope_conflicts bs = map (λ b. part_of b.id) (filter (λ b. b.has_scope_conflict) bs)

-- ---- uses with a member that isn't declared, or without a value for one that has no default

abbrev pub bad_use_in : List Decl → Mention → Option Subject
bad_use_in ds (UseOf kind u) = some_if (is_misused ds kind u) (subjects.Use kind u)
bad_use_in ds _ = None

abbrev pub bad_uses : List Decl → Decl → List Subject
bad_uses ds d = subjects_in (bad_use_in ds) d

-- ---- interceptors without a binding

abbrev pub is_unbound : Decl → Bool
is_unbound (decls.Interceptor d) = nat_eq (length d.bindings) 0
is_unbound d = false

-- ---- disposers that match no product, and products that two match

abbrev pub products : List Decl → BeanDecl → List Effective
products ds bean = map (product ds bean) bean.producers

abbrev pub disposers_at_fault : List Decl → Decl → List Subject
disposers_at_fault ds (decls.Bean d) =
    map (λ s. subjects.Disposer s.name) (filter (λ s. not (list_any (λ p. disposes ds p s) (products ds d))) d.disposers)
    ++ map (λ p. subjects.Producer p.name) (filter (λ p. nat_lt 1 (length (filter (disposes ds (product ds d p)) d.disposers))) d.producers)
disposers_at_fault ds d = []

-- ---- bindings of one type that differ

abbrev pub binding_conflicts : List Decl → Decl → List Subject
binding_conflicts ds (decls.Bean d) = conflicts_in ds (class_bindings ds d) d
binding_conflicts ds d = []

-- ---- conditional observer methods of dependent beans (CDI 4.0, Conditional observer methods)

abbrev pub conditional_dependents : List Decl → Decl → List Subject
conditional_dependents ds (decls.Bean d) = conditional_of d (managed ds d)
conditional_dependents ds d = []

-- ---- injection points of enabled beans and interceptors

abbrev pub is_unsatisfied : Choice → Bool
is_unsatisfied Unsatisfied = true
is_unsatisfied _ = false

abbrev pub is_ambiguous : Choice → Bool
is_ambiguous (Ambiguous ids) = true
is_ambiguous _ = false

abbrev pub has_verdict : List Decl → Verdict → PointDecl → Choice → Bool
has_verdict ds verdicts.Unsatisfied point choice = is_unsatisfied choice
has_verdict ds verdicts.Ambiguous point choice = is_ambiguous choice
has_verdict ds verdicts.Unproxyable point choice = is_unproxyable ds point choice

-- a point of an enabled bean or interceptor, where what is chosen for it is such
abbrev pub point_in : (PointDecl → Choice → Bool) → (PointDecl → Choice) → List Effective → Decl → Mention → Option Subject
point_in test answer bs d (PointOf place p) = some_if (is_enabled_in d bs (producer_of_point place) && test p (answer p))
    (subjects.Point place p.name)
point_in test answer bs d _ = None

-- the injection points of a declaration that has these beans, for whose points this is chosen
abbrev pub points_at_fault : (PointDecl → Choice → Bool) → (PointDecl → Choice) → List Effective → Decl → List Subject
points_at_fault test answer bs d = subjects_in (point_in test answer bs d) d

-- ---- by code

-- the parts of a declaration that have a fault of a code, where these bodies are stored; those of names, of circles and of two beans are no
-- declaration's
abbrev pub subjects_at_fault : Code → List Decl → List Promised → Decl → List Subject
subjects_at_fault codes_of.UnknownName ds book d = unknown_names ds d
subjects_at_fault codes_of.Cycle ds book d = whole_if (reaches_itself ds d)
subjects_at_fault codes_of.BadKind ds book d = bad_kinds ds d
subjects_at_fault codes_of.Typed ds book d = typed ds d
subjects_at_fault codes_of.ScopeConflict ds book d = scope_conflicts (entries ds d)
subjects_at_fault codes_of.BindingConflict ds book d = binding_conflicts ds d
subjects_at_fault codes_of.Member ds book d = bad_uses ds d
subjects_at_fault codes_of.Disposer ds book d = disposers_at_fault ds d
subjects_at_fault codes_of.ConditionalDependent ds book d = conditional_dependents ds d
subjects_at_fault codes_of.Body ds book d = unfit_parts book d
subjects_at_fault codes_of.NoBinding ds book d = whole_if (is_unbound d)
subjects_at_fault codes_of.Unsatisfied ds book d = points_at_fault (has_verdict ds verdicts.Unsatisfied) (answer_to ds) (entries ds d) d
subjects_at_fault codes_of.Ambiguous ds book d = points_at_fault (has_verdict ds verdicts.Ambiguous) (answer_to ds) (entries ds d) d
subjects_at_fault codes_of.Unproxyable ds book d = points_at_fault (has_verdict ds verdicts.Unproxyable) (answer_to ds) (entries ds d) d
subjects_at_fault codes_of.Site ds book d = lost_sites ds (answer_to ds) (entries ds d) d
subjects_at_fault codes_of.NameClash ds book d = []
subjects_at_fault codes_of.NamePrefix ds book d = []
subjects_at_fault codes_of.Circular ds book d = []
subjects_at_fault codes_of.NoSpecialized ds book d = whole_if (lacks_specialized ds d)
subjects_at_fault codes_of.SpecializedType ds book d = lacked_types ds d
subjects_at_fault codes_of.SpecializedName ds book d = whole_if (renames_specialized ds d)
subjects_at_fault codes_of.SpecializedTwice ds book d = []
