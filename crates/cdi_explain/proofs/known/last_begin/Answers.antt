use Rattle.std.proofs.Common.{arith}
use Rattle.cdi_model.proofs.BeanNameLemmas.{from_start}
use Rattle.cdi_explain.proofs.known.last_begin.Goals as goal

pub loop-index-init : goal.loop-index-init
loop-index-init c = record { found = from_start c.args.name.now; bound = omega arith }
