use Rattle.cdi_staging.proofs.Common.{◌≡◌, ◌++◌, map, drop}
use Rattle.cdi_staging.proofs.bean.positions.Given as goal

abbrev pub invariant-loop-target : goal.invariant-loop-target
invariant-loop-target l = l.positions ++ map (λ target. target.bean) (drop l.target-index l.targets) ≡ map (λ target. target.bean) l.targets
