use Rattle.cdi_observe.proofs.Common.{◌≡◌, ◌++◌, flat_map, names_at, names_of_bean, drop}
use Rattle.cdi_observe.proofs.around.interceptors_of.Given as goal

abbrev pub invariant-loop-place : goal.invariant-loop-place
invariant-loop-place g l =
    l.names.items ++ flat_map (names_at (g.V.View.list l.view) l.bean) (drop l.place-index l.place-items)
    ≡ names_of_bean (g.V.View.list l.view) l.bean
