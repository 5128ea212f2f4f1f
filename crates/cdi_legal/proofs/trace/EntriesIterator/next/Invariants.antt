use Rattle.cdi_legal.proofs.Common.{◌≡◌, length, ◌++◌, map}
use Rattle.cdi_legal.specs.{Packed.entry_of, Traced.kept_in}
use Rattle.cdi_legal.proofs.trace.EntriesIterator.next.Given as goal

abbrev pub invariant-empty : goal.invariant-empty
invariant-empty l =
    map entry_of l.self-inside.here.now ++ kept_in l.self-inside.blocks.now l.self-inside.last.now
    ≡ map entry_of l.initial.self-inside.here.now ++ kept_in l.initial.self-inside.blocks.now l.initial.self-inside.last.now

abbrev pub decreases-empty : goal.decreases-empty
decreases-empty l = length l.self-inside.blocks.now
