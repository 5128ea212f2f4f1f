use Rattle.std.proofs.Common.{◌≡◌, not, ◌&&◌, drop}
use Rattle.std.specs.{List.find, Str.bytes_eq}
use Rattle.cdi_intercept.proofs.set.of_producer.Given as goal

abbrev pub invariant-loop-producer : goal.invariant-loop-producer
invariant-loop-producer l =
    find (λ p. bytes_eq p.name l.fn.name && not p.is_static) (drop l.producer-index l.producer-items)
    ≡ find (λ p. bytes_eq p.name l.fn.name && not p.is_static) l.bean.producers
