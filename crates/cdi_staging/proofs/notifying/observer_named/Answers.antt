use Rattle.cdi_staging.proofs.Common.{sym, position_from-zero, is_observer}
use Rattle.cdi_staging.proofs.notifying.observer_named.Goals as goal

pub loop-place-init : goal.loop-place-init
loop-place-init c = sym (position_from-zero (is_observer c.args.name) c.args.observers.now)
