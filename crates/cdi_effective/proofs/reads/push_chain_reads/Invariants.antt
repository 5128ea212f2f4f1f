use Rattle.cdi_effective.proofs.Common.{◌≡◌, ◌++◌, link_reads, chain_reads, beans_in, flat_map}
use Rattle.cdi_effective.proofs.reads.push_chain_reads.Given as goal

abbrev pub invariant-loop-other : goal.invariant-loop-other
invariant-loop-other l =
    l.keys.items ++ flat_map (link_reads l.decls) (beans_in l.other-iterator.rest.items) ≡ l.fn.keys.items ++ chain_reads l.decls l.bean
