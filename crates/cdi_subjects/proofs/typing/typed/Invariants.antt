use Rattle.std.proofs.Common.{◌≡◌, ◌++◌}
use Rattle.std.specs.Slice.Iter.{iter_rest}
use Rattle.cdi_subjects.specs.Records.{not_had_by, typed_by}
use Rattle.cdi_subjects.proofs.typing.typed.Given as goal

abbrev pub invariant-loop-product : goal.invariant-loop-product
invariant-loop-product l = l.subjects.items ++ not_had_by (iter_rest l.product-iterator.a) (iter_rest l.product-iterator.b)
    ≡ typed_by l.decl l.beans
