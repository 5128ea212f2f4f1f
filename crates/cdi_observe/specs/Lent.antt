-- Observer methods that are lent.
use Rattle.std.specs.Prelude.{List, map}
use Rattle.cdi_model.specs.declared.decl.BeanDecl.{BeanDecl}
use Rattle.cdi_model.specs.declared.decl.ObserverDecl.{ObserverDecl}
use Rattle.cdi_observe.specs.declared.lent_observers.LentObserver.{LentObserver}
use Rattle.cdi_observe.specs.Observers.{Observer}

abbrev pub observer_in : BeanDecl → ObserverDecl → Observer
observer_in bean method = record { bean = bean; method = method }

abbrev pub lent_at : LentObserver → Observer
lent_at o = observer_in o.bean.now o.method.now

abbrev pub lent_in : List LentObserver → List Observer
lent_in list = map lent_at list
