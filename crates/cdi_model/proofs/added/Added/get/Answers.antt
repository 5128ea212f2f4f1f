use Rattle.cdi_model.proofs.Common.{sym, ◌∙◌}
use Rattle.cdi_model.proofs.PositionLemmas.{position-there, position-absent}
use Rattle.cdi_model.proofs.added.Added.get.Goals as goal

pub returns-in-Some : goal.returns-in-Some
returns-in-Some c = c.at.ensures
    ∙ position-there c.args.kind c.args.name.now c.args.self.now c.in-Some.position (sym c.in-Some.ensures)

pub returns-in-None : goal.returns-in-None
returns-in-None c = sym (position-absent c.args.kind c.args.name.now c.args.self.now (sym c.in-None.ensures))
