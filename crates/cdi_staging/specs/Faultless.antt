-- What is known of each declaration of a deployment without faults.
use Rattle.std.specs.Prelude.{◌≡◌, ℕ, ◌≤◌, true, List, ◌++◌, length, Some, slice_get, if◌then◌else◌, []}
use Rattle.std.specs.List.{find}
use Rattle.std.specs.Int.RustNames.{bit_and}
use Rattle.cdi_model.specs.Quals.{list_limit}
use Rattle.cdi_model.specs.Short.{IsShortPart}
use Rattle.cdi_model.specs.declared.decl.BeanDecl.{BeanDecl}
use Rattle.cdi_model.specs.declared.decl.CallDecl.{CallDecl}
use Rattle.cdi_model.specs.declared.decl.Decl.{Decl}
use Rattle.cdi_model.specs.declared.decl.Decl.TheVariants as decls
use Rattle.cdi_model.specs.declared.decl.DisposerDecl.{DisposerDecl}
use Rattle.cdi_model.specs.declared.decl.InterceptorDecl.{InterceptorDecl}
use Rattle.cdi_model.specs.declared.decl.MethodDecl.{MethodDecl}
use Rattle.cdi_model.specs.declared.decl.ObserverDecl.{ObserverDecl}
use Rattle.cdi_model.specs.declared.decl.PartDecl.{PartDecl}
use Rattle.cdi_model.specs.declared.decl.PointDecl.{PointDecl}
use Rattle.cdi_model.specs.declared.decl.ProducerDecl.{ProducerDecl}
use Rattle.cdi_bodies.specs.Book.{Promised, promise_of}
use Rattle.cdi_bodies.specs.Flags as flags
use Rattle.cdi_bodies.specs.Within.{Has}
use Rattle.cdi_bodies.specs.declared.promise.Promise.{Promise}
use Rattle.cdi_effective.specs.Beans.{managed, product}
use Rattle.cdi_effective.specs.declared.records.BeanId.{BeanId}
use Rattle.cdi_resolve.specs.declared.choice.Choice.TheVariants.{One}
use Rattle.cdi_intercept.specs.Chains.{is_enabled}
use Rattle.cdi_observe.specs.Answers.{answer_to}
use Rattle.cdi_subjects.specs.Sites.{has_method}
use Rattle.cdi_staging.specs.Sites.{is_point}

-- the book has a body of the name, and each act that it promises is one of those that are allowed
pub record IsFit (book : List Promised) (allowed : ℕ) (name : List ℕ) : Type 0 where
  pub promise : Promise
  pub found : promise_of book name ≡ Some promise
  pub kept : (flag : ℕ) → Has promise flag → bit_and allowed flag ≡ flag

-- one bean is chosen for the injection point (CDI 4.0, Unsatisfied and ambiguous dependencies)
pub record IsSatisfied (ds : List Decl) (point : PointDecl) : Type 0 where
  pub id : BeanId
  pub chosen : answer_to ds point ≡ One id

abbrev pub AreSatisfied : List Decl → List PointDecl → Type 0
AreSatisfied ds points = (k : ℕ) (point : PointDecl) → slice_get points k ≡ Some point → IsSatisfied ds point

-- the call site names an injection point that its body sees, and a method of the bean that is chosen for that
pub record IsLed (ds : List Decl) (seen : List PointDecl) (call : CallDecl) : Type 0 where
  pub point : PointDecl
  pub sees : find (is_point call.point) seen ≡ Some point
  pub has : (id : BeanId) → answer_to ds point ≡ One id → has_method ds id call.method ≡ true

-- the part's body is allowed where it stands, and each of its call sites, of which there are few, leads somewhere; there are
-- few fire sites
pub record IsFinePart (ds : List Decl) (book : List Promised) (allowed : ℕ) (seen : List PointDecl) (part : PartDecl) : Type 0 where
  pub body : IsFit book allowed part.body
  pub short : IsShortPart part
  pub calls : (k : ℕ) (call : CallDecl) → slice_get part.calls k ≡ Some call → IsLed ds seen call

-- the parameters, of which there are few, and the part of an observer method, which sees them and the injection points of its
-- bean (profile)
pub record IsFineObserver (ds : List Decl) (book : List Promised) (bean : BeanDecl) (observer : ObserverDecl) : Type 0 where
  pub params : AreSatisfied ds observer.params
  pub few : length observer.params ≤ list_limit
  pub part : IsFinePart ds book flags.at_instance (observer.params ++ bean.points) observer.part

-- the injection points, the parts and the observer methods of a managed bean
pub record IsFineManaged (ds : List Decl) (book : List Promised) (bean : BeanDecl) : Type 0 where
  pub points : AreSatisfied ds bean.points
  pub construct : (part : PartDecl) → bean.construct ≡ Some part → IsFinePart ds book flags.at_instance bean.points part
  pub post : (part : PartDecl) → bean.post ≡ Some part → IsFinePart ds book flags.at_instance bean.points part
  pub pre : (part : PartDecl) → bean.pre ≡ Some part → IsFinePart ds book flags.at_destruction bean.points part
  pub methods : (k : ℕ) (method : MethodDecl) → slice_get bean.methods k ≡ Some method
      → IsFinePart ds book flags.at_instance bean.points method.part
  pub observers : (k : ℕ) (observer : ObserverDecl) → slice_get bean.observers k ≡ Some observer
      → IsFineObserver ds book bean observer

-- a static producer method has no instance (profile)
abbrev pub allowed_to : ProducerDecl → ℕ
allowed_to producer = if producer.is_static then flags.at_class else flags.at_instance

-- a producer method sees its parameters, and where it is not static the injection points of its bean (profile)
abbrev pub seen_by : BeanDecl → ProducerDecl → List PointDecl
seen_by bean producer = producer.params ++ (if producer.is_static then [] else bean.points)

-- the parameters, of which there are few, and the part of a producer method, and the disposer methods beside it
pub record IsFineProducer (ds : List Decl) (book : List Promised) (bean : BeanDecl) (producer : ProducerDecl) : Type 0 where
  pub params : AreSatisfied ds producer.params
  pub few : length producer.params ≤ list_limit
  pub part : IsFinePart ds book (allowed_to producer) (seen_by bean producer) producer.part
  pub disposers : (k : ℕ) (disposer : DisposerDecl) → slice_get bean.disposers k ≡ Some disposer
      → IsFit book flags.at_disposal disposer.body

-- what is known of a bean declaration, where its beans are enabled (CDI 4.0, Enabled and disabled beans)
pub record IsFine (ds : List Decl) (book : List Promised) (bean : BeanDecl) : Type 0 where
  pub managed_bean : (managed ds bean).is_enabled ≡ true → IsFineManaged ds book bean
  pub products : (k : ℕ) (producer : ProducerDecl) → slice_get bean.producers k ≡ Some producer
      → (product ds bean producer).is_enabled ≡ true → IsFineProducer ds book bean producer

abbrev pub AreFine : List Decl → List Promised → Type 0
AreFine ds book = (k : ℕ) (bean : BeanDecl) → slice_get ds k ≡ Some (decls.Bean bean) → IsFine ds book bean

-- the injection points and the parts of an interceptor
pub record IsFineAround (ds : List Decl) (book : List Promised) (i : InterceptorDecl) : Type 0 where
  pub points : AreSatisfied ds i.points
  pub around_invoke : (part : PartDecl) → i.around_invoke ≡ Some part → IsFinePart ds book flags.around i.points part
  pub around_construct : (part : PartDecl) → i.around_construct ≡ Some part → IsFinePart ds book flags.around i.points part
  pub post : (part : PartDecl) → i.post ≡ Some part → IsFinePart ds book flags.around i.points part
  pub pre : (part : PartDecl) → i.pre ≡ Some part → IsFinePart ds book flags.around_destruction i.points part

-- what is known of an interceptor declaration, where it is enabled
abbrev pub AreFineAround : List Decl → List Promised → Type 0
AreFineAround ds book = (k : ℕ) (i : InterceptorDecl) → slice_get ds k ≡ Some (decls.Interceptor i) → is_enabled i ≡ true
    → IsFineAround ds book i
