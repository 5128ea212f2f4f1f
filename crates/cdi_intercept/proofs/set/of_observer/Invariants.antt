use Rattle.std.proofs.Common.{◌≡◌, drop}
use Rattle.std.specs.{List.find, Str.bytes_eq}
use Rattle.cdi_intercept.proofs.set.of_observer.Given as goal

abbrev pub invariant-loop-observer : goal.invariant-loop-observer
invariant-loop-observer l =
    find (λ o. bytes_eq o.name l.fn.name) (drop l.observer-index l.observer-items)
    ≡ find (λ o. bytes_eq o.name l.fn.name) l.bean.observers
