use Rattle.std.proofs.Common.{◌≡◌, ◌++◌, drop}
use Rattle.cdi_subjects.specs.Records.{without_product}
use Rattle.cdi_subjects.proofs.disposing.push_without_product.Given as goal

abbrev pub invariant-loop-disposer : goal.invariant-loop-disposer
invariant-loop-disposer l = l.subjects.items ++ without_product l.decls l.products (drop l.disposer-index l.disposers)
    ≡ l.fn.subjects.items ++ without_product l.decls l.products l.disposers
