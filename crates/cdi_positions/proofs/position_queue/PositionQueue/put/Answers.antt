use Rattle.cdi_positions.proofs.Common.{◌/◌, ◌<◌, true, ap, ◌∙◌, length, set, arith}
use Rattle.cdi_positions.proofs.SetLemmas.{set-mark, BeginsAt-set, EndsAt-set}
use Rattle.cdi_positions.proofs.position_queue.PositionQueue.put.Goals as goal

pub returns : goal.returns
returns c =
    let within : c.args.position / 64 < length c.self.inside.words = omega (arith, c.self.invariant.0.sized) in
    set-mark c.self.inside.words c.args.position within ∙ ap (λ marks. set marks c.args.position true) c.self.view_is

pub invariant_of-self : goal.invariant_of-self
invariant_of-self c =
    let words = c.self.inside.words in
    let index = c.args.position / 64 in
    let is = c.self.invariant in (
      BeginsAt-set words c.self.inside.first index _ _ is.0 (omega arith) (omega arith),
      EndsAt-set words c.self.inside.end index _ _ is.1 (omega arith) (omega arith) (omega (arith, is.1.within)),
    )
