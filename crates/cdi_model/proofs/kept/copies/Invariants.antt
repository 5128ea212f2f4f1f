use Rattle.cdi_model.proofs.Common.{◌≡◌, ◌++◌, drop, map}
use Rattle.cdi_model.proofs.ReplacedLemmas.{pair_of}
use Rattle.cdi_model.proofs.kept.copies.Given as goal

abbrev pub invariant-loop-entry : goal.invariant-loop-entry
invariant-loop-entry l = map pair_of l.copy.items ++ map pair_of (drop l.entry-index l.replaced.items) ≡ map pair_of l.replaced.items
