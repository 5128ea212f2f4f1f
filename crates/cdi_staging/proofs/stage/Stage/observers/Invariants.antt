use Rattle.cdi_staging.proofs.Common.{◌≡◌, ◌++◌, map, staged_observer, drop}
use Rattle.cdi_staging.proofs.stage.Stage.observers.Given as goal

abbrev pub invariant-loop-observer : goal.invariant-loop-observer
invariant-loop-observer g l =
    l.list ++ map (staged_observer (g.V.View.list l.self.view.now) (g.B.Bodies.promises l.self.book.now) l.class.bean.now)
    (drop l.observer-index l.observer-items)
    ≡ map (staged_observer (g.V.View.list l.self.view.now) (g.B.Bodies.promises l.self.book.now) l.class.bean.now)
    l.class.bean.now.observers
