use Rattle.cdi_effective.proofs.Common.{◌≡◌, drop, ◌++◌, product_reads}
use Rattle.cdi_effective.proofs.reads.push_product_reads.Given as goal

abbrev pub invariant-loop-producer : goal.invariant-loop-producer
invariant-loop-producer g l =
    l.keys.items ++ product_reads l.decls (drop l.producer-index l.producers) ≡ l.fn.keys.items ++ product_reads l.decls l.producers
