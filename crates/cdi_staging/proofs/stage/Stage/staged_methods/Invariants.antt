use Rattle.cdi_staging.proofs.Common.{◌≡◌, ◌++◌, map, staged_method, drop}
use Rattle.cdi_staging.proofs.stage.Stage.staged_methods.Given as goal

abbrev pub invariant-loop-method : goal.invariant-loop-method
invariant-loop-method g l =
    l.places ++ map (staged_method (g.V.View.list l.self.view.now) (g.B.Bodies.promises l.self.book.now) l.class.bean.now)
    (drop l.method-index l.method-items)
    ≡ map (staged_method (g.V.View.list l.self.view.now) (g.B.Bodies.promises l.self.book.now) l.class.bean.now) l.class.bean.now.methods
