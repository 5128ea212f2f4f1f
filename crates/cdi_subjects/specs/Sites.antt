-- What is at fault of the call sites of a bean or an interceptor.
use Rattle.std.specs.Prelude.{ℕ, Bool, true, false, not, ◌&&◌, List, [], ◌++◌, codes, Option, Some, None}
use Rattle.std.specs.Prelude.{is_some, option_map, if◌then◌else◌}
use Rattle.std.specs.List.{find, flat_map, list_any}
use Rattle.std.specs.Str.{bytes_eq}
use Rattle.cdi_model.specs.declared.decl.BeanDecl.{BeanDecl}
use Rattle.cdi_model.specs.declared.decl.CallDecl.{CallDecl}
use Rattle.cdi_model.specs.declared.decl.Decl.{Decl}
use Rattle.cdi_model.specs.declared.decl.Decl.TheVariants as decls
use Rattle.cdi_model.specs.declared.decl.MethodDecl.{MethodDecl}
use Rattle.cdi_model.specs.declared.decl.ObserverDecl.{ObserverDecl}
use Rattle.cdi_model.specs.declared.decl.PointDecl.{PointDecl}
use Rattle.cdi_model.specs.declared.decl.ProducerDecl.{ProducerDecl}
use Rattle.cdi_model.specs.declared.place.PartPlace.{PartPlace}
use Rattle.cdi_model.specs.declared.place.PartPlace.TheVariants as places
use Rattle.cdi_model.specs.Mentions.{Mention, CallOf}
use Rattle.cdi_effective.specs.Disposers.{find_bean}
use Rattle.cdi_effective.specs.declared.records.BeanId.{BeanId}
use Rattle.cdi_effective.specs.declared.records.Effective.{Effective}
use Rattle.cdi_resolve.specs.declared.choice.Choice.{Choice}
use Rattle.cdi_resolve.specs.declared.choice.Choice.TheVariants.{One}
use Rattle.cdi_faults.specs.declared.fault.Subject.{Subject}
use Rattle.cdi_faults.specs.declared.fault.Subject.TheVariants as subjects
use Rattle.cdi_subjects.specs.Filter.{is_enabled_in, producer_of_part, some_if, subjects_in}

-- ---- methods

abbrev pub methods_in : Option BeanDecl → List MethodDecl
methods_in None = []
methods_in (Some bean) = bean.methods

-- a managed bean has the methods that it declares, a product `value` alone (profile)
abbrev pub has_method : List Decl → BeanId → List ℕ → Bool
has_method ds id method = if is_some id.producer
    then bytes_eq method (codes "value")
    else list_any (λ m. bytes_eq m.name method) (methods_in (find_bean id.class ds))

-- one bean is chosen, and it does not have the method
abbrev pub lacks_method : List Decl → List ℕ → Choice → Bool
lacks_method ds method (One id) = not (has_method ds id method)
lacks_method ds method _ = false

-- ---- points

-- the parameters of producer methods, and of observer methods
abbrev pub params_of : List ProducerDecl → List PointDecl
params_of producers = flat_map (λ producer. producer.params) producers

abbrev pub observed : List ObserverDecl → List PointDecl
observed observers = flat_map (λ observer. observer.params) observers

-- the injection points of a declaration by where they are declared: those of a bean, and behind them the parameters of its producer
-- methods and of its observer methods; those of an interceptor
abbrev pub declared_points : Decl → List PointDecl
declared_points (decls.Bean bean) = bean.points ++ params_of bean.producers ++ observed bean.observers
declared_points (decls.Interceptor interceptor) = interceptor.points
declared_points d = []

-- the injection points of a bean or an interceptor itself
abbrev pub own_points : Decl → List PointDecl
own_points (decls.Bean d) = d.points
own_points (decls.Interceptor d) = d.points
own_points d = []

-- those of them that a body in a place sees: a static producer method none (profile)
abbrev pub own_seen : PartPlace → List PointDecl → List PointDecl
own_seen (places.StaticProducer name) own = []
own_seen _ own = own

-- what a body in a place sees which has these parameters: its parameters, and behind them the points of its bean (profile)
abbrev pub points_seen : PartPlace → List PointDecl → List PointDecl → List PointDecl
points_seen place params own = params ++ own_seen place own

-- what is chosen for the point of a name, if it is among them
abbrev pub choice_at : (PointDecl → Choice) → List PointDecl → List ℕ → Option Choice
choice_at answer points name = option_map answer (find (λ p. bytes_eq p.name name) points)

-- ---- call sites

-- the point is not there, or the chosen bean does not have the method
abbrev pub is_lost_among : List Decl → List ℕ → Option Choice → Bool
is_lost_among ds method None = true
is_lost_among ds method (Some choice) = lacks_method ds method choice

-- the same where the body sees these points, for each of which something is chosen
abbrev pub is_lost : List Decl → (PointDecl → Choice) → List PointDecl → CallDecl → Bool
is_lost ds answer points call = is_lost_among ds call.method (choice_at answer points call.point)

-- the parameters of the body of a call site
abbrev pub params_given : Mention → List PointDecl
params_given (CallOf place params call) = params
params_given _ = []

-- a call site of an enabled bean or interceptor, where it is lost
abbrev pub lost_in : List Decl → (PointDecl → Choice) → List Effective → Decl → Mention → Option Subject
lost_in ds answer bs d (CallOf place params call) = some_if
    (is_enabled_in d bs (producer_of_part place) && is_lost ds answer (points_seen place params (own_points d)) call)
    (subjects.Call place call.point call.method)
lost_in ds answer bs d _ = None

-- the call sites of enabled beans and interceptors that name a point that is not seen, or a method that the chosen bean does not have;
-- of a declaration that has these beans, for whose points this is chosen
abbrev pub lost_sites : List Decl → (PointDecl → Choice) → List Effective → Decl → List Subject
lost_sites ds answer bs d = subjects_in (lost_in ds answer bs d) d
