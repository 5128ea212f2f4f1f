use Rattle.cdi_script.proofs.Common.{◌≡◌, ℕ, List, ◌++◌, length, has_failed, intake_on, Feeds}
use Rattle.cdi_script.proofs.script.feed.Given as goal

abbrev pub invariant-loop-rest : goal.invariant-loop-rest
invariant-loop-rest g l = ((done : List ℕ) × (l.chunk ≡ done ++ l.rest)
    × Feeds g.W.Write.contents (intake_on l.fn.intake l.fn.container) (intake_on l.intake l.container) l.fn.writer l.writer done)
    × (has_failed l.writer ≡ has_failed l.fn.writer)

abbrev pub decreases-loop-rest : goal.decreases-loop-rest
decreases-loop-rest g l = length l.rest
