use Rattle.cdi_staging.proofs.Common.{sym, position_from-zero, is_point}
use Rattle.cdi_staging.proofs.site.point_named.Goals as goal

pub loop-place-init : goal.loop-place-init
loop-place-init c = sym (position_from-zero (is_point c.args.name) c.args.points.now)
