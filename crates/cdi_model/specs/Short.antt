-- Declarations whose lists are short, as far as runs need it: call sites and fire sites, and parameters of producer methods
-- and of observer methods.
use Rattle.std.specs.Prelude.{◌≡◌, ◌≤◌, ℕ, List, length, Some, slice_get}
use Rattle.cdi_model.specs.declared.decl.BeanDecl.{BeanDecl}
use Rattle.cdi_model.specs.declared.decl.Decl.{Decl}
use Rattle.cdi_model.specs.declared.decl.Decl.TheVariants as decls
use Rattle.cdi_model.specs.declared.decl.InterceptorDecl.{InterceptorDecl}
use Rattle.cdi_model.specs.declared.decl.MethodDecl.{MethodDecl}
use Rattle.cdi_model.specs.declared.decl.ObserverDecl.{ObserverDecl}
use Rattle.cdi_model.specs.declared.decl.PartDecl.{PartDecl}
use Rattle.cdi_model.specs.declared.decl.ProducerDecl.{ProducerDecl}
use Rattle.cdi_model.specs.Quals.{list_limit}

-- the part has no more call sites than a list may have, and no more sites at which it fires
pub record IsShortPart (part : PartDecl) : Type 0 where
  pub calls : length part.calls ≤ list_limit
  pub fires : length part.fires ≤ list_limit

-- nor has that of the producer method, and no more parameters
pub record IsShortProducer (producer : ProducerDecl) : Type 0 where
  pub params : length producer.params ≤ list_limit
  pub part : IsShortPart producer.part

-- nor has that of the observer method
pub record IsShortObserver (observer : ObserverDecl) : Type 0 where
  pub params : length observer.params ≤ list_limit
  pub part : IsShortPart observer.part

-- each part of the bean is short, and so is each producer method and each observer method
pub record IsShortBean (bean : BeanDecl) : Type 0 where
  pub construct : (part : PartDecl) → bean.construct ≡ Some part → IsShortPart part
  pub post : (part : PartDecl) → bean.post ≡ Some part → IsShortPart part
  pub pre : (part : PartDecl) → bean.pre ≡ Some part → IsShortPart part
  pub methods : (k : ℕ) (method : MethodDecl) → slice_get bean.methods k ≡ Some method → IsShortPart method.part
  pub producers : (k : ℕ) (producer : ProducerDecl) → slice_get bean.producers k ≡ Some producer
      → IsShortProducer producer
  pub observers : (k : ℕ) (observer : ObserverDecl) → slice_get bean.observers k ≡ Some observer
      → IsShortObserver observer

-- each part of the interceptor is short
pub record IsShortInterceptor (interceptor : InterceptorDecl) : Type 0 where
  pub around_invoke : (part : PartDecl) → interceptor.around_invoke ≡ Some part → IsShortPart part
  pub around_construct : (part : PartDecl) → interceptor.around_construct ≡ Some part → IsShortPart part
  pub post : (part : PartDecl) → interceptor.post ≡ Some part → IsShortPart part
  pub pre : (part : PartDecl) → interceptor.pre ≡ Some part → IsShortPart part

abbrev pub HasShortLists : Decl → Type 0
HasShortLists (decls.Bean bean) = IsShortBean bean
HasShortLists (decls.Interceptor interceptor) = IsShortInterceptor interceptor
HasShortLists other = Unit {0}

-- each declaration has
abbrev pub AreShort : List Decl → Type 0
AreShort ds = (k : ℕ) (d : Decl) → slice_get ds k ≡ Some d → HasShortLists d
