use Rattle.cdi_staging.proofs.Common.{◌≡◌, find, bytes_eq, drop, disposer_named}
use Rattle.cdi_staging.proofs.bean.disposer_named.Given as goal

abbrev pub invariant-loop-disposer : goal.invariant-loop-disposer
invariant-loop-disposer l = find (λ d. bytes_eq d.name l.name) (drop l.disposer-index l.disposer-items) ≡ disposer_named l.bean l.name
