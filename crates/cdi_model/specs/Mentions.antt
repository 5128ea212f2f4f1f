-- What a declaration names, and where.
use Rattle.std.specs.Prelude.{ℕ, List, [], ◌∷◌, ◌++◌, map, flat_map, unwrap_or, Option, Some, None, if◌then◌else◌}
use Rattle.std.specs.Borrow.{Bor}
use Rattle.std.specs.Option.{option_to_list}
use Rattle.cdi_model.specs.declared.decl.Attributes.{Attributes}
use Rattle.cdi_model.specs.declared.decl.CallDecl.{CallDecl}
use Rattle.cdi_model.specs.declared.decl.Decl.{Decl}
use Rattle.cdi_model.specs.declared.decl.Decl.TheVariants as decls
use Rattle.cdi_model.specs.declared.decl.DisposerDecl.{DisposerDecl}
use Rattle.cdi_model.specs.declared.decl.EventDecl.{EventDecl}
use Rattle.cdi_model.specs.declared.decl.MethodDecl.{MethodDecl}
use Rattle.cdi_model.specs.declared.decl.ObserverDecl.{ObserverDecl}
use Rattle.cdi_model.specs.declared.decl.PartDecl.{PartDecl}
use Rattle.cdi_model.specs.declared.decl.PointDecl.{PointDecl}
use Rattle.cdi_model.specs.declared.decl.ProducerDecl.{ProducerDecl}
use Rattle.cdi_model.specs.declared.decl.UseKind.{UseKind}
use Rattle.cdi_model.specs.declared.decl.UseKind.TheVariants as uses
use Rattle.cdi_model.specs.declared.mention.Body.{Body}
use Rattle.cdi_model.specs.declared.mention.Mention.{Mention as AnyMention}
use Rattle.cdi_model.specs.declared.mention.Mention.TheVariants as given
use Rattle.cdi_model.specs.declared.mention.Names.{Names}
use Rattle.cdi_model.specs.declared.mention.Parts.{Parts}
use Rattle.cdi_model.specs.declared.mention.PointPlace.{PointPlace}
use Rattle.cdi_model.specs.declared.mention.PointPlace.TheVariants as points
use Rattle.cdi_model.specs.declared.mention.Rest.{Rest}
use Rattle.cdi_model.specs.declared.mention.Sites.{Sites}
use Rattle.cdi_model.specs.declared.mention.TypePlace.{TypePlace}
use Rattle.cdi_model.specs.declared.mention.TypePlace.TheVariants as places
use Rattle.cdi_model.specs.declared.place.PartPlace.{PartPlace}
use Rattle.cdi_model.specs.declared.place.PartPlace.TheVariants as parts
use Rattle.cdi_model.specs.declared.quals.Qual.{Qual}

-- what is named in one place: a type, a use of a qualifier or of a binding, a stereotype, a business method, an injection point, a
-- stored body, a call site of one with the parameters of the method whose body it is, and an event that one may fire
pub data Mention : Type 0 where
  TypeIn : TypePlace → List ℕ → Mention
  UseOf : UseKind → Qual → Mention
  StereotypeOf : List ℕ → Mention
  MethodOf : MethodDecl → Mention
  PointOf : PointPlace → PointDecl → Mention
  BodyOf : PartPlace → List ℕ → Mention
  CallOf : PartPlace → List PointDecl → CallDecl → Mention
  EventOf : EventDecl → Mention

abbrev pub of_qualifiers : List Qual → List Mention
of_qualifiers quals = map (UseOf uses.Qualifier) quals

abbrev pub of_bindings : List Qual → List Mention
of_bindings bindings = map (UseOf uses.Binding) bindings

-- the types to which a bean is restricted
abbrev pub listed_types : Attributes → List (List ℕ)
listed_types a = unwrap_or a.types []

-- what is declared of a bean, or of the product of a producer method
abbrev pub of_attributes : Attributes → List Mention
of_attributes a = map (TypeIn places.Listed) (listed_types a) ++ of_qualifiers a.qualifiers
    ++ map StereotypeOf a.stereotypes

abbrev pub of_point : PointPlace → PointDecl → List Mention
of_point place p = PointOf place p ∷ TypeIn places.Required p.required_type ∷ of_qualifiers p.qualifiers

abbrev pub of_event : EventDecl → List Mention
of_event e = EventOf e ∷ TypeIn places.Fired e.event_type ∷ of_qualifiers e.qualifiers

-- the body of a method that has these parameters
abbrev pub of_part : PartPlace → List PointDecl → PartDecl → List Mention
of_part place params part = BodyOf place part.body ∷ (map (CallOf place params) part.calls ++ flat_map of_event part.fires)

-- the body in a place that has no parameters, where there is one
abbrev pub of_parts : PartPlace → Option PartDecl → List Mention
of_parts place None = []
of_parts place (Some part) = of_part place [] part

-- where the body of a producer method runs: that of a static one at no instance
abbrev pub part_place_of : ProducerDecl → PartPlace
part_place_of p = if p.is_static then parts.StaticProducer p.name else parts.Producer p.name

abbrev pub of_method : MethodDecl → List Mention
of_method m = MethodOf m ∷ of_bindings m.bindings ++ of_part (parts.Method m.name) [] m.part

abbrev pub of_producer : ProducerDecl → List Mention
of_producer p = TypeIn places.Produced p.product_type ∷ of_attributes p.attributes ++ of_bindings p.bindings
    ++ flat_map (of_point (points.Producer p.name)) p.params ++ of_part (part_place_of p) p.params p.part

abbrev pub of_disposer : DisposerDecl → List Mention
of_disposer s = TypeIn places.Disposed s.product_type ∷ of_qualifiers s.qualifiers ++ BodyOf (parts.Disposer s.name) s.body ∷ []

abbrev pub of_observer : ObserverDecl → List Mention
of_observer o = TypeIn places.Observed o.event_type ∷ of_qualifiers o.qualifiers ++ of_bindings o.bindings
    ++ flat_map (of_point (points.Observer o.name)) o.params ++ of_part (parts.Observer o.name) o.params o.part

-- what a declaration names, in order
unfoldable pub mentions : Decl → List Mention
mentions (decls.Type d) = map (TypeIn places.Extends) (option_to_list d.extends) ++ map (TypeIn places.Implements) d.implements
mentions (decls.Binding d) = of_bindings d.declares
mentions (decls.Stereotype d) = map StereotypeOf d.stereotypes ++ of_bindings d.bindings
mentions (decls.Bean d) = TypeIn places.Class d.name ∷ of_attributes d.attributes ++ of_bindings d.bindings
    ++ flat_map (of_point points.Constructor) d.points
    ++ (of_parts parts.Construct d.construct ++ of_parts parts.Post d.post ++ of_parts parts.Pre d.pre)
    ++ flat_map of_method d.methods ++ flat_map of_producer d.producers ++ flat_map of_disposer d.disposers
    ++ flat_map of_observer d.observers
mentions (decls.Interceptor d) = of_bindings d.bindings ++ flat_map (of_point points.Constructor) d.points
    ++ (of_parts parts.AroundInvoke d.around_invoke ++ of_parts parts.AroundConstruct d.around_construct
    ++ of_parts parts.Post d.post ++ of_parts parts.Pre d.pre)
mentions d = []

-- ---- what the code gives

-- what it gives in one place
abbrev pub shown : AnyMention → Mention
shown (given.Type place t) = TypeIn place t.now
shown (given.Use kind u) = UseOf kind u.now
shown (given.Stereotype s) = StereotypeOf s.now
shown (given.Method m) = MethodOf m.now
shown (given.Point place p) = PointOf place p.now
shown (given.Body place body) = BodyOf place body.now
shown (given.Call place params call) = CallOf place params.now call.now
shown (given.Event e) = EventOf e.now

-- a type, if there is one, in its place, and some that are implemented
abbrev pub supers : Option (TypePlace × Bor (List ℕ)) → List (List ℕ) → List Mention
supers first ts = map (λ t. TypeIn t.0 t.1.now) (option_to_list first) ++ map (TypeIn places.Implements) ts

-- what it has left
abbrev pub names_left : Names → List Mention
names_left n = map (λ t. TypeIn t.0 t.1.now) (option_to_list n.first) ++ map (TypeIn n.place) n.types.now ++ of_qualifiers n.qualifiers.now
    ++ map StereotypeOf n.stereotypes.now ++ of_bindings n.bindings.now

-- of the call sites of a body
abbrev pub calls_left : Sites → List Mention
calls_left s = map (CallOf s.place s.params.now) s.calls.now

-- of its call sites and its events
abbrev pub sites_left : Sites → List Mention
sites_left s = calls_left s ++ flat_map of_event s.fires.now

-- of a body that is not begun
abbrev pub body_left : Body → List Mention
body_left b = BodyOf b.place b.name.now ∷ (map (CallOf b.place b.params.now) b.calls.now ++ flat_map of_event b.fires.now)

abbrev pub some_left : Option Body → List Mention
some_left None = []
some_left (Some b) = body_left b

-- of bodies that are not begun
abbrev pub parts_left : Parts → List Mention
parts_left p = some_left p.first ++ some_left p.second ++ some_left p.third ++ some_left p.fourth

-- of what is gone through
abbrev pub left_now : Rest → List Mention
left_now r = names_left r.names ++ flat_map (of_point r.place) r.points.now ++ sites_left r.sites

-- and of bodies
abbrev pub left_before : Rest → List Mention
left_before r = left_now r ++ parts_left r.parts

-- of what is not begun
abbrev pub left_behind : Rest → List Mention
left_behind r = flat_map of_method r.methods.now ++ flat_map of_producer r.producers.now ++ flat_map of_disposer r.disposers.now
    ++ flat_map of_observer r.observers.now

abbrev pub left : Rest → List Mention
left r = left_before r ++ left_behind r
