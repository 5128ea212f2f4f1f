-- What a trace prints of a scene, by position.
use Rattle.std.specs.Prelude.{List, [], ◌∷◌, map, Option, Some, None}
use Rattle.std.specs.List.{flat_map}
use Rattle.cdi_model.specs.declared.decl.BeanDecl.{BeanDecl}
use Rattle.cdi_model.specs.declared.decl.Decl.{Decl}
use Rattle.cdi_model.specs.declared.decl.Decl.TheVariants as decls
use Rattle.cdi_model.specs.declared.decl.InterceptorDecl.{InterceptorDecl}
use Rattle.cdi_model.specs.declared.decl.MethodDecl.{MethodDecl}
use Rattle.cdi_model.specs.declared.decl.ObserverDecl.{ObserverDecl}
use Rattle.cdi_model.specs.declared.decl.PartDecl.{PartDecl}
use Rattle.cdi_model.specs.declared.decl.ProducerDecl.{ProducerDecl}
use Rattle.cdi_effective.specs.Beans.{product}
use Rattle.cdi_effective.specs.Disposers.{disposer_of}
use Rattle.cdi_staging.specs.declared.names.BeanNames.{BeanNames}
use Rattle.cdi_intercept.specs.Chains.{in_order}
use Rattle.cdi_staging.specs.declared.names.InterceptorNames.{InterceptorNames}
use Rattle.cdi_staging.specs.declared.names.MethodNames.{MethodNames}
use Rattle.cdi_staging.specs.declared.names.Names.{Names}
use Rattle.cdi_staging.specs.declared.names.SiteNames.{SiteNames}

-- the call sites and the fire sites of a part, as they are written
abbrev pub sites_in : PartDecl → SiteNames
sites_in part = record { calls = part.calls; fires = part.fires }

abbrev pub no_sites : SiteNames
no_sites = record { calls = []; fires = [] }

abbrev pub sites_of : Option PartDecl → SiteNames
sites_of None = no_sites
sites_of (Some part) = sites_in part

abbrev pub method_names : MethodDecl → MethodNames
method_names method = record { name = method.name; sites = sites_in method.part }

abbrev pub observer_names : ObserverDecl → MethodNames
observer_names observer = record { name = observer.name; sites = sites_in observer.part }

unfoldable pub managed_names : BeanDecl → BeanNames
managed_names bean = record {
  id = record { class = bean.name; producer = None };
  construct = sites_of bean.construct;
  post = sites_of bean.post;
  pre = sites_of bean.pre;
  methods = map method_names bean.methods;
  observers = map observer_names bean.observers;
  produces = no_sites;
  disposer = None;
}

-- a product, with the disposer method that matches it
unfoldable pub product_names : List Decl → BeanDecl → ProducerDecl → BeanNames
product_names ds bean producer = record {
  id = record { class = bean.name; producer = Some producer.name };
  construct = no_sites;
  post = no_sites;
  pre = no_sites;
  methods = [];
  observers = [];
  produces = sites_in producer.part;
  disposer = disposer_of ds (product ds bean producer);
}

unfoldable pub names_in : List Decl → Decl → List BeanNames
names_in ds (decls.Bean bean) = managed_names bean ∷ map (product_names ds bean) bean.producers
names_in ds other = []

-- an interceptor that is enabled
unfoldable pub interceptor_names : InterceptorDecl → InterceptorNames
interceptor_names i = record {
  name = i.name;
  around_construct = sites_of i.around_construct;
  around_invoke = sites_of i.around_invoke;
  post = sites_of i.post;
  pre = sites_of i.pre;
}

-- the names of the beans, in the order of the bean list, and of the interceptors that are enabled, in the order in which they are
-- called
unfoldable pub names_of : List Decl → Names
names_of ds = record { beans = flat_map (names_in ds) ds; interceptors = map interceptor_names (in_order ds) }
