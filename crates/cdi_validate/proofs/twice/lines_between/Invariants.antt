use Rattle.cdi_validate.proofs.Common.{◌≡◌, length, fold, faults_between, by_line, with_line}
use Rattle.cdi_validate.proofs.twice.lines_between.Given as goal

abbrev pub invariant-taken : goal.invariant-taken
invariant-taken l = fold with_line l.lines.entries (faults_between l.left) ≡ by_line (faults_between l.chains)

abbrev pub decreases-taken : goal.decreases-taken
decreases-taken l = length l.left
