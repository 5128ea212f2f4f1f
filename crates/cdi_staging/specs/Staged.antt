-- The scene of a deployment, as a function of its declarations and of the book of stored bodies.
use Rattle.std.specs.Prelude.{ℕ, ◌+◌, Bool, false, List, [], ◌∷◌, ◌++◌, map, Option, Some, None, if◌then◌else◌}
use Rattle.std.specs.List.{flat_map, find}
use Rattle.std.specs.Option.{option_and_then}
use Rattle.std.specs.Str.{bytes_eq}
use Rattle.cdi_model.specs.declared.decl.BeanDecl.{BeanDecl}
use Rattle.cdi_model.specs.declared.decl.Decl.{Decl}
use Rattle.cdi_model.specs.declared.decl.Decl.TheVariants as decls
use Rattle.cdi_model.specs.declared.decl.DisposerDecl.{DisposerDecl}
use Rattle.cdi_model.specs.declared.decl.InterceptorDecl.{InterceptorDecl}
use Rattle.cdi_model.specs.declared.decl.MethodDecl.{MethodDecl}
use Rattle.cdi_model.specs.declared.decl.ObserverDecl.{ObserverDecl}
use Rattle.cdi_model.specs.declared.decl.PartDecl.{PartDecl}
use Rattle.cdi_model.specs.declared.decl.PointDecl.{PointDecl}
use Rattle.cdi_model.specs.declared.decl.ProducerDecl.{ProducerDecl}
use Rattle.cdi_model.specs.declared.place.BeanPlace.{BeanPlace}
use Rattle.cdi_model.specs.declared.place.BeanPlace.TheVariants as spots
use Rattle.cdi_bodies.specs.Book.{Promised, position_of, promise_of}
use Rattle.cdi_bodies.specs.declared.promise.Promise.{Promise}
use Rattle.cdi_contexts.specs.declared.instance.Actor.{Actor}
use Rattle.cdi_contexts.specs.declared.instance.Actor.TheVariants.{Target as ByTarget, Interceptor as By}
use Rattle.cdi_scene.specs.declared.scene.Bean.{Bean}
use Rattle.cdi_scene.specs.declared.scene.CallSite.{CallSite}
use Rattle.cdi_scene.specs.declared.scene.Form.TheVariants as forms
use Rattle.cdi_scene.specs.declared.scene.Injection.{Injection}
use Rattle.cdi_scene.specs.declared.scene.Interceptor.{Interceptor}
use Rattle.cdi_scene.specs.declared.scene.Invocable.{Invocable}
use Rattle.cdi_scene.specs.declared.scene.Managed.{Managed}
use Rattle.cdi_scene.specs.declared.scene.Notified.{Notified}
use Rattle.cdi_scene.specs.declared.scene.Observer.{Observer}
use Rattle.cdi_scene.specs.declared.scene.Part.{Part}
use Rattle.cdi_scene.specs.declared.scene.Product.{Product}
use Rattle.cdi_scene.specs.declared.scene.Scene.{Scene}
use Rattle.cdi_effective.specs.Beans.{beans, managed, product}
use Rattle.cdi_effective.specs.Bindings.{class_bindings}
use Rattle.cdi_effective.specs.Disposers.{disposer_of}
use Rattle.cdi_effective.specs.declared.records.Effective.{Effective}
use Rattle.cdi_intercept.specs.Chains.{in_order, surrounds, surrounds_one}
use Rattle.cdi_intercept.specs.Sets.{set_by, sets_of}
use Rattle.cdi_observe.specs.Answers.{answer_to}
use Rattle.cdi_staging.specs.Notifying.{fired_at}
use Rattle.cdi_staging.specs.Sites.{Sight, target_of, own_sight, method_sight, position_of_class, site_of}
use Rattle.cdi_staging.specs.declared.target.Target.{Target}

-- ---- what is chosen

-- what is chosen for some injection points
abbrev pub targets : List Decl → List PointDecl → List Target
targets ds points = map (target_of (beans ds)) (map (answer_to ds) points)

-- what the parts of a bean see that have no parameters
abbrev pub sight_of : List Decl → BeanDecl → Sight
sight_of ds bean = own_sight bean.points (targets ds bean.points)

-- what a method with these parameters sees
abbrev pub sight_with : List Decl → BeanDecl → Bool → List PointDecl → Sight
sight_with ds bean is_static params = method_sight is_static (sight_of ds bean) params (targets ds params)

-- the positions of the beans that are chosen for these parameters
abbrev pub positions : List Decl → List PointDecl → List ℕ
positions ds params = map (λ target. target.bean) (targets ds params)

-- ---- bodies

abbrev pub part_with : List CallSite → List (List Notified) → Option ℕ → Option Promise → Option Part
part_with calls fires (Some body) (Some promise) =
    Some (record { body = body; promise = promise; calls = calls; fires = fires })
part_with calls fires _ _ = None

-- the body of a name, by its position in the book and with its promise; none where the book has no such body, which is a
-- fault
unfoldable pub part_of : List Promised → List CallSite → List (List Notified) → List ℕ → Option Part
part_of book calls fires name = part_with calls fires (position_of book name) (promise_of book name)

-- a declared part: its body, where each of its call sites leads, and whom each of its fire sites notifies
unfoldable pub staged_part : List Decl → List Promised → Sight → PartDecl → Option Part
staged_part ds book sight part =
    part_of book (map (site_of ds (beans ds) sight) part.calls) (map (fired_at ds (beans ds)) part.fires) part.body

-- ---- interceptors

-- an interceptor that is enabled, with what is chosen for its injection points
abbrev pub Around : Type 0
Around = InterceptorDecl × List Target

-- those that are enabled, in the order in which they are called
unfoldable pub around_of : List Decl → List Around
around_of ds = map (λ i. (i, targets ds i.points)) (in_order ds)

-- its bodies, which see its own injection points (profile)
unfoldable pub staged_interceptor : List Decl → List Promised → Around → Interceptor
staged_interceptor ds book a = record {
  around_construct = option_and_then (staged_part ds book (own_sight a.0.points a.1)) a.0.around_construct;
  around_invoke = option_and_then (staged_part ds book (own_sight a.0.points a.1)) a.0.around_invoke;
  post = option_and_then (staged_part ds book (own_sight a.0.points a.1)) a.0.post;
  pre = option_and_then (staged_part ds book (own_sight a.0.points a.1)) a.0.pre;
}

-- the positions of those that pass, where the first has this one
abbrev pub places_from : {X : Type 0} → (X → Bool) → ℕ → List X → List ℕ
places_from test n [] = []
places_from test n (x ∷ xs) = (if test x then n ∷ [] else []) ++ places_from test (n + 1) xs

-- the interceptors around a place of a bean, by position
abbrev pub chain_at : List Decl → BeanDecl → BeanPlace → List ℕ
chain_at ds bean place =
    places_from (λ a. surrounds ds (set_by ds (class_bindings ds bean) bean place) place a.0) 0 (around_of ds)

-- what is chosen for each injection point of whoever it is of, where the first has this position
abbrev pub injections_from : Actor → ℕ → List Target → List Injection
injections_from actor n [] = []
injections_from actor n (t ∷ targets) = record { actor = actor; point = n; bean = t.bean } ∷ injections_from actor (n + 1) targets

-- those of each interceptor that passes, where the first has this position
abbrev pub injections_around : (InterceptorDecl → Bool) → ℕ → List Around → List Injection
injections_around test n [] = []
injections_around test n (a ∷ around) = (if test a.0 then injections_from (By n) 0 a.1 else []) ++ injections_around test (n + 1) around

-- those of each interceptor that stands around some place of a bean, and behind them its own
abbrev pub injections_of : List Decl → BeanDecl → List Injection
injections_of ds bean = injections_around (surrounds_one ds (sets_of ds (class_bindings ds bean) bean)) 0 (around_of ds)
    ++ injections_from ByTarget 0 (targets ds bean.points)

-- ---- places

-- what is invoked where nothing is declared
abbrev pub empty_place : Invocable
empty_place = record { chain = []; part = None }

-- what is invoked at a place: the interceptors around it, and its body
unfoldable pub staged_place : List Decl → List Promised → Sight → List ℕ → Option PartDecl → Invocable
staged_place ds book sight chain part = record { chain = chain; part = option_and_then (staged_part ds book sight) part }

-- ---- managed beans

abbrev pub staged_method : List Decl → List Promised → BeanDecl → MethodDecl → Invocable
staged_method ds book bean method =
    staged_place ds book (sight_of ds bean) (chain_at ds bean (spots.Method method.name)) (Some method.part)

-- an observer method (CDI 4.0, Observer methods)
unfoldable pub staged_observer : List Decl → List Promised → BeanDecl → ObserverDecl → Observer
staged_observer ds book bean observer = record {
  is_conditional = observer.is_conditional;
  params = positions ds observer.params;
  invocable = staged_place ds book (sight_with ds bean false observer.params) (chain_at ds bean (spots.Observer observer.name))
      (Some observer.part);
}

-- a managed bean (CDI 4.0, Managed beans): its constructor, its callbacks and its methods see its injection points
unfoldable pub managed_form : List Decl → List Promised → BeanDecl → Managed
managed_form ds book bean = record {
  injections = injections_of ds bean;
  construct = staged_place ds book (sight_of ds bean) (chain_at ds bean spots.Construct) bean.construct;
  post = staged_place ds book (sight_of ds bean) (chain_at ds bean spots.Post) bean.post;
  pre = staged_place ds book (sight_of ds bean) (chain_at ds bean spots.Pre) bean.pre;
  methods = map (staged_method ds book bean) bean.methods;
  observers = map (staged_observer ds book bean) bean.observers;
}

-- ---- products

-- the disposer method of a name
abbrev pub disposer_named : BeanDecl → List ℕ → Option DisposerDecl
disposer_named bean name = find (λ disposer. bytes_eq disposer.name name) bean.disposers

-- a disposer method calls and fires nothing (profile)
abbrev pub disposer_part : List Promised → DisposerDecl → Option Part
disposer_part book disposer = part_of book [] [] disposer.body

-- the disposer method that matches a product (CDI 4.0, Disposer method resolution)
unfoldable pub disposer_for : List Decl → List Promised → BeanDecl → Effective → Option Part
disposer_for ds book bean x =
    option_and_then (disposer_part book) (option_and_then (disposer_named bean) (disposer_of ds x))

-- a static producer method has no interceptors
abbrev pub producer_chain : List Decl → BeanDecl → ProducerDecl → List ℕ
producer_chain ds bean producer = if producer.is_static then [] else chain_at ds bean (spots.Producer producer.name)

-- the product of a producer method (CDI 4.0, Producer methods), with the bean that declares it
unfoldable pub product_form : List Decl → List Promised → BeanDecl → ProducerDecl → Product
product_form ds book bean producer = record {
  declaring = position_of_class (beans ds) bean.name;
  is_static = producer.is_static;
  params = positions ds producer.params;
  invocable = staged_place ds book (sight_with ds bean producer.is_static producer.params) (producer_chain ds bean producer)
      (Some producer.part);
  disposer = disposer_for ds book bean (product ds bean producer);
}

-- ---- beans

-- A bean that is not enabled is never chosen (CDI 4.0, Enabled and disabled beans), so there is no instance of it: it keeps
-- its position and has nothing else. What its injection points, its call sites and its bodies ask for may not be there,
-- which is no fault of such a bean.
abbrev pub unused_managed : Managed
unused_managed = record {
  injections = [];
  construct = empty_place;
  post = empty_place;
  pre = empty_place;
  methods = [];
  observers = [];
}

abbrev pub unused_product : List Decl → BeanDecl → Product
unused_product ds bean = record {
  declaring = position_of_class (beans ds) bean.name;
  is_static = false;
  params = [];
  invocable = empty_place;
  disposer = None;
}

abbrev pub staged_managed : List Decl → List Promised → BeanDecl → Bean
staged_managed ds book bean = record {
  scope = (managed ds bean).scope;
  form = forms.Managed (if (managed ds bean).is_enabled then managed_form ds book bean else unused_managed);
}

abbrev pub staged_product : List Decl → List Promised → BeanDecl → ProducerDecl → Bean
staged_product ds book bean producer = record {
  scope = (product ds bean producer).scope;
  form = forms.Product (if (product ds bean producer).is_enabled then product_form ds book bean producer else unused_product ds bean);
}

-- the beans of a declaration, in the order of its records
unfoldable pub staged_beans : List Decl → List Promised → Decl → List Bean
staged_beans ds book (decls.Bean bean) = staged_managed ds book bean ∷ map (staged_product ds book bean) bean.producers
staged_beans ds book other = []

-- ---- the scene

-- the beans, in the order of the bean list, and the interceptors that are enabled, in the order in which they are called
unfoldable pub scene_of : List Decl → List Promised → Scene
scene_of ds book = record {
  beans = flat_map (staged_beans ds book) ds;
  interceptors = map (staged_interceptor ds book) (around_of ds);
}
