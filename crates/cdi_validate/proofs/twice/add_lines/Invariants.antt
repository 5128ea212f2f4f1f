use Rattle.cdi_validate.proofs.Common.{◌≡◌, flat_map, fold, drop, faults_of_chains, with_line}
use Rattle.cdi_validate.proofs.twice.add_lines.Given as goal

abbrev pub invariant-loop-other : goal.invariant-loop-other
invariant-loop-other l = fold with_line l.lines.entries (flat_map (faults_of_chains l.chain) (drop l.other-index l.later))
    ≡ fold with_line l.fn.lines.entries (flat_map (faults_of_chains l.chain) l.later)
