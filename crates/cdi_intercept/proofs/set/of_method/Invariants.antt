use Rattle.std.proofs.Common.{◌≡◌, drop}
use Rattle.std.specs.{List.find, Str.bytes_eq}
use Rattle.cdi_intercept.proofs.set.of_method.Given as goal

abbrev pub invariant-loop-method : goal.invariant-loop-method
invariant-loop-method l =
    find (λ m. bytes_eq m.name l.fn.name) (drop l.method-index l.method-items)
    ≡ find (λ m. bytes_eq m.name l.fn.name) l.bean.methods
