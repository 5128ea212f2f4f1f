use Rattle.cdi_staging.proofs.Common.{◌≡◌, ◌++◌, map, around_in, around_of, staged_interceptor, drop}
use Rattle.cdi_staging.proofs.stage.Stage.interceptors.Given as goal

abbrev pub invariant-loop-around : goal.invariant-loop-around
invariant-loop-around g l =
    l.list ++ map (staged_interceptor (g.V.View.list l.self.view.now) (g.B.Bodies.promises l.self.book.now))
    (map around_in (drop l.around-index l.self.around.now))
    ≡ map (staged_interceptor (g.V.View.list l.self.view.now) (g.B.Bodies.promises l.self.book.now))
    (around_of (g.V.View.list l.self.view.now))
