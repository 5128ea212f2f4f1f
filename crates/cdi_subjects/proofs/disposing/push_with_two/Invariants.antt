use Rattle.std.proofs.Common.{◌≡◌, ◌++◌, drop}
use Rattle.cdi_subjects.specs.Records.{with_two}
use Rattle.cdi_subjects.proofs.disposing.push_with_two.Given as goal

abbrev pub invariant-loop-product : goal.invariant-loop-product
invariant-loop-product l = l.subjects.items ++ with_two l.decls (drop l.product-index l.products) l.disposers
    ≡ l.fn.subjects.items ++ with_two l.decls l.products l.disposers
