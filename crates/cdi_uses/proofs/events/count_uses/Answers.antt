use Rattle.cdi_uses.proofs.Common.{◌<◌, ◌+◌, length, arith, ap, option_map, space, pieces, left_of}
use Rattle.cdi_uses.proofs.PieceLemmas.{left_of-cut}
use Rattle.cdi_uses.proofs.events.count_uses.Goals as goal

pub loop-rest-init : goal.loop-rest-init
loop-rest-init c =
    let text = c.args.text.now in
    let less : left_of (option_map (λ u. u.now) c.cut.result.1) < 1 + length text = rw c.cut.ensures.rest (left_of-cut space text) in
    record { counted = omega (arith, ap (λ o. length (pieces space o)) c.cut.ensures.rest); small = omega arith }
