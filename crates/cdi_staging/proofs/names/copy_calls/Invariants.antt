use Rattle.cdi_staging.proofs.Common.{◌≡◌, ◌++◌, drop}
use Rattle.cdi_staging.proofs.names.copy_calls.Given as goal

abbrev pub invariant-loop-call : goal.invariant-loop-call
invariant-loop-call l = l.copy ++ drop l.call-index l.calls ≡ l.calls
