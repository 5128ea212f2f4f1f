use Rattle.cdi_model.proofs.Common.{◌≡◌, ◌<◌, ◌≤◌, ℕ, true, is_marked}
use Rattle.cdi_model.proofs.kept.first_outside.Given as goal

abbrev pub invariant-loop-place : goal.invariant-loop-place
invariant-loop-place l = (k : ℕ) → l.from ≤ k → k < l.place → is_marked l.set k ≡ true
