use Rattle.cdi_staging.proofs.Common.{sym, position_from-zero, is_method}
use Rattle.cdi_staging.proofs.site.method_named.Goals as goal

pub loop-place-init : goal.loop-place-init
loop-place-init c = sym (position_from-zero (is_method c.args.name) c.args.methods.now)
