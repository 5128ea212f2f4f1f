use Rattle.cdi_positions.proofs.Common.{◌/◌, ◌<◌, true, not, ap, ◌∙◌, length, set, arith, is_marked}
use Rattle.cdi_positions.proofs.SetLemmas.{fresh-mark, set-mark}
use Rattle.cdi_positions.proofs.position_set.PositionSet.insert.Goals as goal

pub returns-clause-set : goal.returns-clause-set
returns-clause-set c =
    let within : c.args.position / 64 < length c.self.inside.words = omega arith in
    set-mark c.self.inside.words c.args.position within ∙ ap (λ marks. set marks c.args.position true) c.self.view_is

pub returns-clause-fresh : goal.returns-clause-fresh
returns-clause-fresh c =
    let within : c.args.position / 64 < length c.self.inside.words = omega arith in
    fresh-mark c.self.inside.words c.args.position within ∙ ap (λ marks. not (is_marked marks c.args.position)) c.self.view_is
